use Rattle.std.proofs.Common.{◌≡◌, ◌∙◌, ◌+◌, ◌<◌, ℕ, List, [], ◌∷◌, length, drop, get_or, refl, ap, sym, subst, arith}
use Rattle.std.proofs.lemmas.List.{drop_all, drop_more}
use Rattle.rtp_ext.specs.Elements.{Element}
use Rattle.rtp_route.specs.declared.slots.Slot.{Slot}
use Rattle.rtp_route.specs.Routing.{put_all}
use Rattle.rtp_route.specs.Walk.{AreWritten}
use Rattle.rtp_route.proofs.OnlyLemmas.{only-put_all}
use Rattle.rtp_route.proofs.WalkLemmas.{placed-all}
use Rattle.rtp_route.proofs.WalkedLemmas.{under_way-lacking, under_way-there}
use Rattle.rtp_route.proofs.walk.write_lacking.Goals as goal
use Rattle.rtp_route.proofs.walk.write_lacking.Goals.{then-slots-index-eq0+in_ok-end, else-slots-index-eq0}

one-more : (news : List Element) (index : ℕ) → index < length news → (element : Element) × (drop index news ≡ element ∷ drop (index + 1) news)
one-more news index within = (get_or news index (0, []), drop_more news index (0, []) within)

abbrev no_slot : Slot
no_slot = record { start = 0; len = 0 }

pub loop-index-init : goal.loop-index-init
loop-index-init g c = (c.requires.room, refl, λ start old written some is. record { written = written; with_rest = refl; are_written = is })

pub loop-index-preserved : goal.loop-index-preserved
loop-index-preserved g c =
    let at = c.loop-index in
    let news = g.G.ElementList.elements c.args.group in
    let split = one-more news at.index (omega (arith, c.loop-index-test.true)) in
    let element : Element = split.0 in
    let there : drop at.index news ≡ element ∷ drop (at.index + 1) news = split.1 in
    elim c.if-slots-index-eq0.branch [
      | then-slots-index-eq0+in_ok-end w ↦
          rw (w.buf-is, w.slots-is, w.end-is) (
            omega (arith, w.in_ok-end.ensures.within, w.write_own.auto.buf),
            w.write_own.auto.buf ∙ at.invariant.1,
            λ start old written some is.
                under_way-lacking c.args.form start news at.index old written at.slots w.write_own.new.slots at.buf w.write_own.new.buf at.end w.in_ok-end.end element no_slot some
                (at.invariant.2 start old written some is) there w.if-slots-index-eq0.true
                (λ now here none. w.in_ok-end.ensures.written start old now element there here none),
          )
      | else-slots-index-eq0 w ↦
          rw (w.buf-is, w.slots-is, w.end-is) (
            at.invariant.0,
            at.invariant.1,
            λ start old written some is.
                under_way-there c.args.form start news at.index old written at.slots at.buf at.end element no_slot (at.invariant.2 start old written some is) there w.if-slots-index-eq0.false,
          )
    ]

pub returns-clause-written : goal.returns-clause-written
returns-clause-written g c start old written some is =
    let form = c.args.form in
    let news = g.G.ElementList.elements c.args.group in
    let done = c.loop-index.invariant.2 start old written some is in
    let none_left : drop c.loop-index.index news ≡ [] = drop_all c.loop-index.index news (omega (arith, c.loop-index-test.false)) in
    let row_is : done.written ≡ put_all news written = ap (λ (es : List Element). put_all es done.written) (sym none_left) ∙ done.with_rest in
    let all : AreWritten form start news old (put_all news written) c.loop-index.slots c.loop-index.buf c.loop-index.end =
    subst (λ (es : List Element). AreWritten form start news old es c.loop-index.slots c.loop-index.buf c.loop-index.end) row_is done.are_written in (
      all,
      placed-all form start (put_all news written) news c.loop-index.slots all.placed (only-put_all news written c.requires.elements.own),
    )
