use Rattle.rtp_base.proofs.Common.{◌≡◌, ◌∙◌, ap, ℕ, not, eqb, take, length, arith, w8, count_by, length-take-le, take_all}
use lib.Count.{ones}
use Rattle.std.proofs.lemmas.Simd.{bitmask_splat, ones-mask_l}
use Rattle.rtp_base.proofs.id.text.count_kept.Goals as goal

pub returns : goal.returns
returns c =
    let lanes = take 16 c.args.bytes.now in
    let long : length lanes ≡ 16 = length-take-le 16 c.args.bytes.now (omega arith) in
    ap ones (bitmask_splat w8 (λ a b. not (eqb a b)) lanes 16 32 long (omega arith)) ∙ ones-mask_l (λ (b : ℕ). not (eqb b 32)) lanes
    ∙ ap (count_by (λ (b : ℕ). not (eqb b 32))) (take_all 16 c.args.bytes.now (omega arith))
