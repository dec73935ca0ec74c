use Rattle.rtp_c.proofs.Common.{◌≤◌, ◌∙◌, length, subst, sym, false≢true, IsGivenLayers, AreCarriedLayers, allocation_in}
use Rattle.rtp_vla.specs.Allocation.{Allocation}
use Rattle.rtp_vla.specs.AllocationWritten.{Writable, written_of}
use Rattle.rtp_c.proofs.GivenLemmas.{weaker_none}
use Rattle.rtp_c.proofs.GivenLayersLemmas.{one_in}
use Rattle.rtp_c.proofs.given_layers.with_given_layers.Goals as goal

pub returns-then-not-has_few-clause-none : goal.returns-then-not-has_few-clause-none
returns-then-not-has_few-clause-none g c a is =
    absurd (false≢true (sym c.if-not-has_few.true ∙ c.has_few.ensures.1 (subst (IsGivenLayers c.args.view.now) (one_in c.args.view.now a is.are_given) is.are_given)))

pub returns-clause-none : goal.returns-clause-none
returns-clause-none g c =
    let none : (Writable (allocation_in c.args.view.now) → length (written_of (allocation_in c.args.view.now)) ≤ 255 → ⊥) → (a : Allocation) → AreCarriedLayers c.args.view.now a → ⊥ =
    λ none a is.
    let same = one_in c.args.view.now a is.are_given in
    none (subst Writable same is.is_writable) (subst (λ (b : Allocation). length (written_of b) ≤ 255) same is.few_bytes) in
    weaker_none c.measure.result none (rw (c.new.ensures, c.counted.ensures) at c.measure.ensures.none)
