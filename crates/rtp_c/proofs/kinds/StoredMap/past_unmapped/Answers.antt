use Rattle.rtp_c.proofs.Common.{◌≡◌, ◌+◌, ◌-◌, arith, inl, inr, length, rules, cases_lt}
use Rattle.rtp_c.proofs.FewSlotsLemmas.{unmapped_in}
use Rattle.rtp_c.proofs.kinds.StoredMap.past_unmapped.Goals as goal

pub loop-slot-init : goal.loop-slot-init
loop-slot-init c = (omega arith, omega (arith, c.requires), λ slot above below. absurd (omega (arith, above, below)))

pub overflow_add-slot : goal.overflow_add-slot
overflow_add-slot c = omega (arith, c.loop-slot.invariant.1)

pub loop-slot-preserved : goal.loop-slot-preserved
loop-slot-preserved c =
    let many : length c.args.self.now.kind ≡ 256 = search rules in (
      omega (arith, c.loop-slot.invariant.0),
      omega (arith, c.loop-slot-test.true),
      λ slot above below. elim (cases_lt slot c.loop-slot.slot) [
        | inl before ↦ c.loop-slot.invariant.2 slot above before
        | inr now ↦
            unmapped_in c.args.self.now.kind (c.loop-slot.slot + 1) (c.loop-slot.slot + 1 + 16 - (c.loop-slot.slot + 1)) (slot + 1)
            (omega (arith, many, c.loop-slot-test.true)) (c.has_kind.ensures.0 c.if-not-has_kind.true) (omega (arith, now)) (omega (arith, below))
      ],
    )
