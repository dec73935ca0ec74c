use Rattle.rtp_listing.proofs.Common.{refl, arith}
use Rattle.rtp_listing.proofs.FeedLemmas.{within, none_more, none_before, feed_at, none_behind, length-behind}
use Rattle.rtp_listing.proofs.line.line_len.Goals as goal

pub loop-front-preserved : goal.loop-front-preserved
loop-front-preserved c = record {
  within = omega arith;
  none = none_more c.args.text.now c.loop-front.front (omega arith) (omega (arith, c.if-feeds-ne0.false)) c.loop-front.invariant.none;
}

pub returns-then-feeds-ne0-clause-within : goal.returns-then-feeds-ne0-clause-within
returns-then-feeds-ne0-clause-within c = within c.args.text.now c.loop-front.front (omega arith) _ refl c.if-feeds-ne0.true

pub returns-then-feeds-ne0-clause-none : goal.returns-then-feeds-ne0-clause-none
returns-then-feeds-ne0-clause-none c =
    none_before c.args.text.now c.loop-front.front (omega arith) _ refl c.if-feeds-ne0.true c.loop-front.invariant.none

pub returns-then-feeds-ne0-clause-feed : goal.returns-then-feeds-ne0-clause-feed
returns-then-feeds-ne0-clause-feed c _ = feed_at c.args.text.now c.loop-front.front (omega arith) _ refl c.if-feeds-ne0.true

pub returns-in-Some-clause-none : goal.returns-in-Some-clause-none
returns-in-Some-clause-none c = none_behind c.args.text.now c.loop-front.front c.in-Some.before c.loop-front.invariant.none c.in-Some.ensures.found.2

pub returns-in-None-clause-none : goal.returns-in-None-clause-none
returns-in-None-clause-none c k below =
    none_behind c.args.text.now c.loop-front.front _ c.loop-front.invariant.none c.in-None.ensures.none k
    (omega (arith, below, length-behind c.args.text.now c.loop-front.front c.loop-front.invariant.within))
