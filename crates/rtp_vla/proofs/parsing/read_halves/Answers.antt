use Rattle.rtp_vla.proofs.Common.{◌≡◌, ◌<◌, ◌+◌, ◌/◌, ◌++◌, ◌∷◌, [], ℕ, length, take, ap, sym, ◌∙◌, arith, subst, take_more, take_more_set, take_all, take-append-drop, length-take-le, halves}
use Rattle.rtp_vla.proofs.AllocationReadingLemmas.{length-halves}
use Rattle.rtp_vla.proofs.AllocationParts.{AreBytes, AreBytes-from, AreBytes-parts, HasMasks-halves}
use Rattle.rtp_vla.proofs.parsing.read_halves.Goals as goal
use Rattle.rtp_vla.proofs.parsing.read_halves.Goals.{In_ok-spelled}

spelled_len : (c : In_ok-spelled) → length c.in_ok-spelled.spelled.now ≡ (length c.args.masks.now + 1) / 2
spelled_len c = ap length c.in_ok-spelled.ensures.cases.1 ∙ length-take-le ((length c.args.masks.now + 1) / 2) c.args.bytes.now c.in_ok-spelled.ensures.cases.0

pub loop-i-preserved : goal.loop-i-preserved
loop-i-preserved c =
    let spelled = c.in_ok-spelled.spelled.now in
    let within : c.loop-i.i < length c.loop-i.masks = omega (arith, c.loop-i.auto.masks) in
    let inside : c.loop-i.i < length (halves spelled) = omega (arith, length-halves spelled, spelled_len (goal.at.loop-i-preserved c).In_ok-spelled) in
    take_more_set c.loop-i.masks c.loop-i.i c.half_at.result within
    ∙ (λ j. c.loop-i.invariant j ++ c.half_at.ensures j ∷ [])
    ∙ sym (take_more (halves spelled) c.loop-i.i 0 inside)

pub returns-clause-found : goal.returns-clause-found
returns-clause-found c =
    let n = length c.args.masks.now in
    let bytes = c.args.bytes.now in
    let spelled = c.in_ok-spelled.spelled.now in
    let split : bytes ≡ spelled ++ c.in_ok-spelled.after.now = sym (take-append-drop ((n + 1) / 2) bytes) ∙ (λ j. sym c.in_ok-spelled.ensures.cases.1 j ++ sym c.in_ok-spelled.ensures.cases.2 j) in
    let all : AreBytes bytes = AreBytes-from bytes (λ i. omega (arith, c.type_inv.bytes i)) in
    let inside : AreBytes spelled = (AreBytes-parts spelled c.in_ok-spelled.after.now (subst AreBytes split all)).0 in
    let end : c.loop-i.i ≡ n = omega arith in
    HasMasks-halves bytes spelled c.in_ok-spelled.after.now c.loop-i.masks n split (spelled_len (goal.at.returns-clause-found c).In_ok-spelled) inside c.loop-i.auto.masks
    (sym (take_all n c.loop-i.masks (omega (arith, c.loop-i.auto.masks))) ∙ subst (λ (k : ℕ). take k c.loop-i.masks ≡ take k (halves spelled)) end c.loop-i.invariant)
