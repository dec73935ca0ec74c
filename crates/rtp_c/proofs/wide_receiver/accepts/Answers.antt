use Rattle.std.proofs.Common.{inl, inr}
use Rattle.rtp_c.proofs.StoredWideLemmas.{stored-accepts}
use Rattle.rtp_c.proofs.wide_receiver.accepts.Goals as goal

pub returns-then-number-receiver : goal.returns-then-number-receiver
returns-then-number-receiver c count taken holds = elim holds [
  | inl empty ↦ absurd (c.if-receiver-eq0.false empty.0)
  | inr held ↦
      let by_bit = rw (c.from-highest.ensures, c.from.ensures) at c.ring_accepts.ensures.by_bit in
      stored-accepts c.args.words.now c.args.receiver.now.highest c.args.number taken c.ring_accepts.result c.if-number-receiver.true held.1 by_bit
]
