use Rattle.rtp_ext.proofs.Common.{◌∙◌, ℕ, List, Option, Some, None, IsSomeAnd, arith, sym, subst, false≢true, VideoLayersAllocation, no_values, IsWellFormed, Allocation, Means, Element, EndsRow}
use Rattle.rtp_ext.proofs.LastAllocationLemmas.{EndsRow-passed, EndsRow-taken, EndsRow-left, kind-untested}
use Rattle.rtp_ext.proofs.ValuesFound.{malformed-carries}
use Rattle.rtp_ext.proofs.block_values.last_in_row.Goals as goal
use Rattle.rtp_ext.proofs.block_values.last_in_row.Goals.{then-is_another_allocation, else-is_another_allocation}

-- data are well-formed where they mean an allocation
well_formed : (bytes : List ℕ) → (a : Allocation) × Means bytes a → IsWellFormed VideoLayersAllocation bytes
well_formed bytes means = (record no_values { video_layers_allocation = Some means.0 }, means.1)

some_meaning : (bytes : List ℕ) (known : Option Allocation) → IsSomeAnd known (Means bytes) → (a : Allocation) × Means bytes a
some_meaning bytes None is = absurd is
some_meaning bytes (Some a) is = (a, is)

pub loop-id-preserved : goal.loop-id-preserved
loop-id-preserved g c =
    let exts = g.K.Kinds.known c.args.exts.now in
    let element : Element = (c.in-Some.id, c.in-Some.data.now) in
    let mapped = sym c.get.ensures ∙ kind-untested c.get.result c.ne.ensures c.if-ne.false in
    let was = EndsRow-left (c.loop-id.invariant.1 ∙ c.in-Some.ensures.steps) c.loop-id.invariant.0 in
    let row : EndsRow exts c.args.first.now c.args.elements.now c.next.new.self c.if-is_another_allocation.last.now = elim c.if-is_another_allocation.branch [
      | then-is_another_allocation w ↦
          subst (λ bytes. EndsRow exts c.args.first.now c.args.elements.now c.next.new.self bytes.now) (sym w.last-is)
          (EndsRow-taken c.next.new.self element (omega (arith, c.if-first-lt2.false))
          (mapped, well_formed c.in-Some.data.now (c.is_another_allocation.ensures.0 w.if-is_another_allocation.true)) was)
      | else-is_another_allocation w ↦
          subst (λ bytes. EndsRow exts c.args.first.now c.args.elements.now c.next.new.self bytes.now) (sym w.last-is)
          (EndsRow-passed c.next.new.self element (malformed-carries exts element VideoLayersAllocation mapped
          (λ good. false≢true (sym w.if-is_another_allocation.false ∙ c.is_another_allocation.ensures.1 (some_meaning c.in-Some.data.now good.0.video_layers_allocation good.1)))) was)
    ] in
    (subst (λ left. EndsRow exts c.args.first.now c.args.elements.now left c.if-is_another_allocation.last.now) (sym c.rest.ensures) row, c.rest.ensures)
