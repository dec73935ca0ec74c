-- The number after the highest one.
use Rattle.rtp_c.proofs.Common.{◌≡◌, ℕ, ◌+◌, ◌%◌, ◌^◌, ◌<◌, Some, subst, arith, inl, inr, Numbers, IsGreatest, IsNumberOf, StoredReceiver, HoldsNumbers}
use Rattle.rtp_receive.specs.Widening.{distance}

near_next : (highest : ℕ) → highest + 1 < 2 ^ 64 → distance highest (highest + 1) < 2 ^ 15
near_next highest fits = omega arith

pub next_number : (stored : StoredReceiver) (count : ℕ) (taken : Numbers) (low : ℕ) → HoldsNumbers stored count taken → stored.started ≡ 1 → stored.highest + 1 < 2 ^ 64
    → low < 65536 → (stored.highest + 1) % 65536 ≡ low → IsNumberOf count taken low (stored.highest + 1)
next_number stored count taken low (inl empty) started fits below ends = absurd (omega (arith, empty.0, started))
next_number stored count taken low (inr held) started fits below ends = (
  Some stored.highest,
  subst (λ (n : ℕ). IsGreatest taken n) held.1.is_window.greatest_is held.1.keeps.top,
  record { fits = fits; ends = omega (arith, ends); near = inl (near_next stored.highest fits) },
)
