use Rattle.rtp_vla.proofs.Common.{◌≡◌, sym, ◌∙◌, None, take_rest, leb_number}
use Rattle.rtp_vla.proofs.LebLemmas.{ReadsLeb-value, ReadsLeb-first, empty_read, reads_only, only_first, read_below}
use Rattle.rtp_vla.proofs.leb.parse_leb_u63.Goals as goal
use Rattle.rtp_vla.proofs.leb.parse_leb_u63.Goals.{in-Some+else-first-lt128+in_default-number_at, in_default}

pub returns-then-first-lt128-clause-reads : goal.returns-then-first-lt128-clause-reads
returns-then-first-lt128-clause-reads c = rw c.from.ensures (ReadsLeb-first c.args.buf.now c.in-Some.first.now c.in-Some.after.now c.in-Some.ensures.cases.0 c.if-first-lt128.true)

pub returns-then-first-lt128-clause-only : goal.returns-then-first-lt128-clause-only
returns-then-first-lt128-clause-only c value rest reads = rw c.from.ensures (only_first c.args.buf.now c.in-Some.first.now c.in-Some.after.now value rest c.in-Some.ensures.cases.0 c.if-first-lt128.true reads)

pub returns-in-Some-number_at-clause-reads : goal.returns-in-Some-number_at-clause-reads
returns-in-Some-number_at-clause-reads c = rw (take_rest c.args.buf.now c.in-Some-number_at.len) (ReadsLeb-value c.args.buf.now _ (sym c.in-Some-number_at.is ∙ c.number_at.ensures.read))

pub returns-in-Some-number_at-clause-only : goal.returns-in-Some-number_at-clause-only
returns-in-Some-number_at-clause-only c value rest reads = rw (take_rest c.args.buf.now c.in-Some-number_at.len) (reads_only c.args.buf.now _ value rest (sym c.in-Some-number_at.is ∙ c.number_at.ensures.read) reads)

pub returns-in-Some-number_at-clause-in_range : goal.returns-in-Some-number_at-clause-in_range
returns-in-Some-number_at-clause-in_range c = read_below c.args.buf.now _ _ (ReadsLeb-value c.args.buf.now _ (sym c.in-Some-number_at.is ∙ c.number_at.ensures.read))

unspelled : (c : goal.Joined-split_first) → None ≡ leb_number 9 c.args.buf.now
unspelled c = elim c.match-split_first.branch [
  | in-Some+else-first-lt128+in_default-number_at w ↦ w.in_default-number_at.ensures.read
  | in_default w ↦ empty_read c.args.buf.now w.in_default.ensures.cases
]

pub returns-clause-reads : goal.returns-clause-reads
returns-clause-reads c = ReadsLeb-value c.args.buf.now None (unspelled c)

pub returns-clause-only : goal.returns-clause-only
returns-clause-only c value rest reads = reads_only c.args.buf.now None value rest (unspelled c) reads
