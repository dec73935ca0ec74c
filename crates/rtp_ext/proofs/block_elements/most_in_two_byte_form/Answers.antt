use Rattle.rtp_ext.proofs.Common.{◌≤◌, sym, ap, ◌∙◌, arith, length, subst, ℕ, extension_of_kind}
use Rattle.rtp_ext.proofs.ShortBlockLemmas.{most_of, long_most, short_most, most-next, most-end}
use Rattle.rtp_ext.proofs.block_elements.most_in_two_byte_form.Goals as goal
use Rattle.rtp_ext.proofs.block_elements.most_in_two_byte_form.Goals.{then-eq, else-eq}

pub loop-kind-preserved : goal.loop-kind-preserved
loop-kind-preserved g c =
    let own : (most_of (extension_of_kind c.in-Some.kind) ≤ c.if-eq.most) × (c.if-eq.most ≤ 257) = elim c.if-eq.branch [
      | then-eq w ↦ (subst (λ (n : ℕ). most_of (extension_of_kind c.in-Some.kind) ≤ n) (sym w.most-is) (long_most c.in-Some.kind), omega (arith, w.most-is))
      | else-eq w ↦ (
        subst (λ (n : ℕ). most_of (extension_of_kind c.in-Some.kind) ≤ n) (sym w.most-is) (short_most c.in-Some.kind (sym c.eq.ensures ∙ w.if-eq.false)),
        omega (arith, w.most-is),
      )
    ] in (
      λ values few. most-next values _ _ c.in-Some.field-0-0 c.loop-kind.most c.if-eq.most c.in-Some.kind few c.in-Some.ensures.some own.0 (c.loop-kind.invariant.0 values few),
      omega (arith, ap length c.in-Some.ensures.some, c.loop-kind.invariant.1, own.1),
    )

pub returns-clause-most : goal.returns-clause-most
returns-clause-most g c = λ values few.
    most-end values _ c.loop-kind.most c.in_default.ensures.none (c.loop-kind.invariant.0 values few)
