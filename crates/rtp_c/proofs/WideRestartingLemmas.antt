-- A receiver in the memory of C whose sender may start again, with a window of another size: what it holds.
use Rattle.std.proofs.Common.{ℕ, ◌/◌, ◌<◌, List, length, inl, inr, refl, arith}
use Rattle.std.proofs.lemmas.Bool.{cases_eq}
use Rattle.rtp_base.specs.Ring.{ring_size, ring_bits}
use Rattle.rtp_base.specs.Window.{Numbers}
use Rattle.rtp_c.specs.declared.wide_restarting.StoredWideRestarting.{StoredWideRestarting}
use Rattle.rtp_c.specs.StoredWideReceiver.{HoldsIn}
use Rattle.rtp_c.specs.StoredWideRestarting.{HoldsWith, epoch_in}
use Rattle.rtp_c.proofs.StoredWideLemmas.{HoldsWindow-some, none, nothing}

pub holds_some : (stored : StoredWideRestarting) (words : List ℕ) → 0 < length words → (taken : Numbers) × HoldsWith stored words taken
holds_some stored words words-some = elim (cases_eq stored.started 0) [
  | inl is ↦ (none, inl (is, nothing))
  | inr other ↦
      let held = HoldsWindow-some (ring_size words) stored.highest (ring_bits words stored.highest) (omega arith) in
      (held.0, inr (omega (arith, other), held.1))
]

-- as a receiver for a sender that never starts again holds it
pub holds_in : (stored : StoredWideRestarting) (words : List ℕ) (taken : Numbers) → HoldsWith stored words taken → HoldsIn (epoch_in stored) words (stored.highest / 65536) taken
holds_in stored words taken (inl empty) = inl (empty.0, refl, empty.1)
holds_in stored words taken (inr held) = inr held
