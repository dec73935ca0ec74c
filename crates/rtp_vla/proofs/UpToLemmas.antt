-- The places after the items hold what isn't used, also once an item was put in.
use Rattle.rtp_vla.proofs.Common.{◌≡◌, ℕ, ◌+◌, ◌-◌, ◌<◌, ◌≤◌, List, length, take, drop, set, replicate, arith, ap, sym, ◌∙◌, drop-drop, drop-replicate, drop-set-lt, length-set, length-take-le}

-- so many items in front, and what isn't used after them
abbrev pub ArePadded : {A : Type 0} → ℕ → A → List A → ℕ → Type 0
ArePadded places unused items count = (length items ≡ places) × (count ≤ places) × (drop count items ≡ replicate (places - count) unused)

-- a place is left where there are fewer
pub place_left : {A : Type 0} (places : ℕ) (unused : A) (items listed : List A) (count : ℕ) → ArePadded places unused items count → take count items ≡ listed → length listed < places → count < places
place_left places unused items listed count padded shows fewer = omega (arith, length-take-le count items (omega (arith, padded.0, padded.1)), ap length shows, fewer)

-- an item is put after the others
pub pushed_padded : {A : Type 0} (places : ℕ) (unused : A) (items : List A) (count : ℕ) (item : A) → ArePadded places unused items count → count < places → ArePadded places unused (set items count item) (count + 1)
pushed_padded {A} places unused items count item padded room = (
  length-set items count item ∙ padded.0,
  omega (arith, room),
  drop-set-lt (count + 1) items count item (omega arith)
      ∙ sym (drop-drop 1 count items)
      ∙ ap (drop 1) padded.2
      ∙ drop-replicate 1 (places - count) unused
      ∙ ap (λ (n : ℕ). replicate n unused) (omega arith),
)
