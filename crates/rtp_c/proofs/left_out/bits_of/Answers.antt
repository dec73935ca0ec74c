use Rattle.std.proofs.Common.{arith, subst, ◌≡◌, ℕ, ◌+◌}
use Rattle.rtp_c.proofs.LeftOutLemmas.{AreBitsBelow, bits-start, bits-kind, bits-end}
use Rattle.rtp_c.proofs.left_out.bits_of.Goals as goal

pub loop-kind-init : goal.loop-kind-init
loop-kind-init c = bits-start c.args.kinds.now

pub loop-kind-preserved : goal.loop-kind-preserved
loop-kind-preserved c =
    bits-kind c.args.kinds.now c.loop-kind.kind-index _ c.loop-kind.bits c.bit_of-bits.result c.loop-kind-test.true
    c.bit_of-bits.ensures.own c.bit_of-bits.ensures.others c.loop-kind.invariant

pub returns : goal.returns
returns c =
    let all : c.loop-kind.kind-index + 1 ≡ 16 = omega (arith, c.loop-kind-test.false, c.loop-kind.auto.kind-index-end) in
    bits-end c.args.kinds.now c.loop-kind.bits (subst (λ (n : ℕ). AreBitsBelow c.args.kinds.now n c.loop-kind.bits) all c.loop-kind.invariant)
