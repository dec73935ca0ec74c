-- What is known of a number that may not be taken: it was taken, or is too old to tell.
use Rattle.std.proofs.Common.{◌≡◌, ℕ, ◌-◌, ◌<◌, ◌≤◌, inl, inr, arith}
use Rattle.std.proofs.lemmas.Bool.{cases_Bool, cases_lt}
use Rattle.rtp_base.specs.Window.{Numbers, IsGreatest}
use Rattle.rtp_receive.specs.Receiver.{IsFreshOf, HasStandingOf}
use Rattle.rtp_receive.specs.declared.standing.Standing.TheVariants.{Taken, TooOld}
use Rattle.rtp_receive.proofs.TrueNumberLemmas.{one_greatest}

module _ (size : ℕ) (taken : Numbers) (number highest : ℕ) (top : IsGreatest taken highest) (refused : IsFreshOf size taken number → ⊥) where
  -- it isn't above the highest one
  not_above : highest < number → ⊥
  not_above above = refused (inr (record { greatest = highest; is_greatest = top; above_or_new = inl above }))

  -- in the window it was taken
  pub standing-taken : highest - number < size → HasStandingOf size taken number Taken
  standing-taken near = elim (cases_Bool (taken number)) [
    | inl is ↦ (is, λ h greatest. (let same : h ≡ highest = one_greatest taken h highest greatest top in omega (arith, near, same)))
    | inr none ↦ absurd (refused (inr (record { greatest = highest; is_greatest = top; above_or_new = inr (omega (arith, near), none) })))
  ]

  -- and else it is behind it
  pub standing-too_old : size ≤ highest - number → HasStandingOf size taken number TooOld
  standing-too_old far = elim (cases_lt highest number) [
    | inl above ↦ absurd (not_above above)
    | inr low ↦ (highest, top, omega (arith, far, low))
  ]
