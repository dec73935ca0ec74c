use Rattle.rtp_c.proofs.Common.{◌/◌, refl, inl, inr, arith, Some, ring_size, ring_bits}
use Rattle.rtp_c.proofs.StoredWideLemmas.{kept, HoldsWindow-some, none, nothing}
use Rattle.rtp_c.proofs.wide_receiver.rtpw_wide_receiver_number_of.Goals as goal

pub returns-then-receiver-eq0-clause-some : goal.returns-then-receiver-eq0-clause-some
returns-then-receiver-eq0-clause-some c words some = (c.args.receiver.now.highest / 65536, none, inl (c.if-receiver-eq0.true, refl, nothing))

pub returns-clause-nearest : goal.returns-clause-nearest
returns-clause-nearest c words count taken holds = elim holds [
  | inl empty ↦ absurd (c.if-receiver-eq0.false empty.0)
  | inr held ↦
      (Some c.args.receiver.now.highest, (kept (ring_size words) c.args.receiver.now.highest (ring_bits words c.args.receiver.now.highest) taken held.1).top, c.extend_u16.ensures.near)
]

pub returns-clause-some : goal.returns-clause-some
returns-clause-some c words some =
    let held = HoldsWindow-some (ring_size words) c.args.receiver.now.highest (ring_bits words c.args.receiver.now.highest) (omega arith) in
    (0, held.0, inr (omega (arith, c.if-receiver-eq0.false), held.1))
