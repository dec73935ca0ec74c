-- A receiver in the memory of C whose sender may start again: what it says of a packet, and that it always holds some set.
use Rattle.rtp_c.proofs.Common.{◌≡◌, ℕ, ℤ, inl, inr, sym, subst, arith, cases_eq, ring_bits, Numbers, Bounds, IsRestartingVerdict, epoch_after, StoredRestarting}
use Rattle.rtp_receive.specs.RestartingState.{RestartingReceiver, bounds_of, Leads, Grows, RowLeads, RowGrows}
use Rattle.rtp_receive.specs.declared.restarting_verdict.RestartingVerdict.{RestartingVerdict}
use Rattle.rtp_c.specs.StoredRestarting.{bounds_in, HoldsIn, IsTold, IsAnsweredIn}
use Rattle.rtp_c.proofs.StoredWideLemmas.{HoldsWindow-some, none, nothing}

pub holds_some : (stored : StoredRestarting) → (taken : Numbers) × HoldsIn stored taken
holds_some stored = elim (cases_eq stored.started 0) [
  | inl is ↦ (none, inl (is, nothing))
  | inr other ↦
      let held = HoldsWindow-some 128 stored.highest (ring_bits stored.words stored.highest) (omega arith) in
      (held.0, inr (omega (arith, other), held.1))
]

-- the verdict of the receiver that is stored is that by what is stored
pub answered : (old new : StoredRestarting) (was is : RestartingReceiver 2) (taken : Numbers) (low : ℕ) (verdict : RestartingVerdict) (status : ℤ) (written : ℕ)
    → bounds_of 2 was ≡ bounds_in old → (was.row.len ≡ old.in_row) × (was.row.next ≡ old.next) → (new.in_row ≡ is.row.len) × (new.next ≡ is.row.next)
    → IsRestartingVerdict (bounds_of 2 was) 1 taken (RowLeads 2 was low) low verdict → RowGrows 2 was taken low verdict is
    → IsTold verdict status written → HoldsIn new (epoch_after taken verdict) → IsAnsweredIn old taken low status written new
answered old new was is taken low verdict status written bounds row-was row-is judged grows told holds = record {
  verdict = verdict;
  judged =
      subst (λ (b : Bounds). IsRestartingVerdict b 1 taken (Leads old.in_row old.next low) low verdict) bounds
      (subst (λ (r : ℕ). IsRestartingVerdict (bounds_of 2 was) 1 taken (Leads r old.next low) low verdict) row-was.0
      (subst (λ (n : ℕ). IsRestartingVerdict (bounds_of 2 was) 1 taken (Leads was.row.len n low) low verdict) row-was.1 judged));
  told = told;
  epoch = holds;
  row =
      subst (λ (b : Bounds). Grows b taken low verdict old.in_row old.next new.in_row new.next) bounds
      (subst (λ (r : ℕ). Grows (bounds_of 2 was) taken low verdict r old.next new.in_row new.next) row-was.0
      (subst (λ (n : ℕ). Grows (bounds_of 2 was) taken low verdict was.row.len n new.in_row new.next) row-was.1
      (subst (λ (r : ℕ). Grows (bounds_of 2 was) taken low verdict was.row.len was.row.next r new.next) (sym row-is.0)
      (subst (λ (n : ℕ). Grows (bounds_of 2 was) taken low verdict was.row.len was.row.next is.row.len n) (sym row-is.1) grows))));
}
