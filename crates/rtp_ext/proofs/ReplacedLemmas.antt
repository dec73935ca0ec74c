-- A slot of a map that is put in place of another, and the steps of a renegotiation by it.
use Rattle.rtp_ext.proofs.Common.{◌≡◌, ◌≢◌, ℕ, ◌+◌, ◌-◌, ◌<◌, zero, suc, [], ◌∷◌, length, map, set, get_or, Option, Some, None, arith, ap, refl, sym, ◌∙◌, subst, option_map, swap, get_or-map, get_or_default, get_or-set_same, get_or-set_other, length-set, length-map, map-set, swap_is, Entry, Slots, entry_at, locked, known_entry, known_slots, Puts, Swaps}
use Rattle.rtp_ext.proofs.MapLemmas.{entry_at-slot, entry_at-other}

-- what stands there
pub Puts-replaced : (slots shown : Slots) (k : ℕ) {id : ℕ} (put new : Option Entry) → slots ≡ shown → k + 1 ≡ id → k < length slots → put ≡ new
    → Puts shown (set slots k put) id new
Puts-replaced slots shown k {id} put new same index here is =
    subst (λ (s : Slots). Puts s (set slots k put) id new) same (record {
      this = entry_at-slot (set slots k put) k id index ∙ get_or-set_same slots k put None here ∙ is;
      others = entry_at-other slots (set slots k put) k index (λ j apart. get_or-set_other slots k j put None apart);
    })

-- ---- two entries that are exchanged

-- the slots, once the first of two has been written
abbrev pub half_swapped : Slots → ℕ → ℕ → Slots
half_swapped slots i j = set slots i (get_or slots j None)

pub half_swapped_length : (slots : Slots) (i j : ℕ) → length (half_swapped slots i j) ≡ length slots
half_swapped_length slots i j = length-set slots i (get_or slots j None)

-- the table of the known kinds has followed
pub swapped_known : (slots : Slots) {table after : Slots} (i j : ℕ) {from to : ℕ} → table ≡ known_slots slots → i + 1 ≡ from → j + 1 ≡ to
    → i < length slots → j < length slots → after ≡ swap table (from - 1) (to - 1) → after ≡ known_slots (swap slots i j)
swapped_known slots i j {from} {to} in_step index next here there swapped =
    let first : from - 1 ≡ i = omega (arith, index) in
    let second : to - 1 ≡ j = omega (arith, next) in
    swapped ∙ ap (λ (t : Slots). swap t (from - 1) (to - 1)) in_step
    ∙ ap (λ (n : ℕ). swap (known_slots slots) n (to - 1)) first ∙ ap (swap (known_slots slots) i) second
    ∙ sym (swap_is (known_slots slots) i j None (omega (arith, here, length-map slots known_entry)) (omega (arith, there, length-map slots known_entry)))
    ∙ ap (λ (entry : Option Entry). set (set (known_slots slots) i entry) j (get_or (known_slots slots) i None)) (get_or-map known_entry slots j None)
    ∙ ap (λ (entry : Option Entry). set (set (known_slots slots) i (known_entry (get_or slots j None))) j entry) (get_or-map known_entry slots i None)
    ∙ ap (λ (t : Slots). set t j (known_entry (get_or slots i None))) (sym (map-set known_entry slots i (get_or slots j None)))
    ∙ sym (map-set known_entry (half_swapped slots i j) j (get_or slots i None))
    ∙ ap known_slots (swap_is slots i j None here there)

-- the entries stand in each other's place
pub Swaps-swapped : (slots shown : Slots) (i j : ℕ) {from to : ℕ} → slots ≡ shown → i + 1 ≡ from → j + 1 ≡ to → from ≢ to → i < length slots → j < length slots
    → Swaps shown (swap slots i j) from to
Swaps-swapped slots shown i j {from} {to} same index next apart here there =
    subst (λ (s : Slots). Swaps s (swap slots i j) from to) same
    (subst (λ (s : Slots). Swaps slots s from to) (swap_is slots i j None here there) (record {
      here = second.others from apart ∙ first.this ∙ sym (entry_at-slot slots j to next);
      there = second.this ∙ sym (entry_at-slot slots i from index);
      others = λ k not_from not_to. second.others k not_to ∙ first.others k not_from;
    }))
  where
    first : Puts slots (half_swapped slots i j) from (get_or slots j None)
    first = Puts-replaced slots slots i (get_or slots j None) (get_or slots j None) refl index here refl

    second : Puts (half_swapped slots i j) (set (half_swapped slots i j) j (get_or slots i None)) to (get_or slots i None)
    second =
        Puts-replaced (half_swapped slots i j) (half_swapped slots i j) j (get_or slots i None) (get_or slots i None) refl next
        (omega (arith, there, half_swapped_length slots i j)) refl

-- ---- an entry that is locked

lock_of : Option Entry → Option Entry
lock_of slot = option_map (λ entry. locked entry.extension) slot

known_locked : (slot : Option Entry) → known_entry (lock_of slot) ≡ known_entry slot
unfolding lock_of
known_locked None = refl
known_locked (Some entry) = refl

map-set_alike : (f : Option Entry → Option Entry) (xs : Slots) (k : ℕ) (y : Option Entry) → f y ≡ f (get_or xs k None) → map f (set xs k y) ≡ map f xs
map-set_alike f [] k y same = refl
map-set_alike f (x ∷ xs) zero y same = ap (λ (z : Option Entry). z ∷ map f xs) same
map-set_alike f (x ∷ xs) (suc k) y same = ap (λ (zs : Slots). f x ∷ zs) (map-set_alike f xs k y same)

pub locked_in_step : (slots : Slots) {table : Slots} (k : ℕ) {put : Option Entry} (seen : Option Entry) → table ≡ known_slots slots → k < length slots
    → put ≡ option_map (λ entry. locked entry.extension) (get_or slots k seen) → table ≡ known_slots (set slots k put)
unfolding lock_of
locked_in_step slots k {put} seen in_step here is =
    let locked_is : put ≡ lock_of (get_or slots k None) = is ∙ ap lock_of (sym (get_or_default slots k None seen here)) in
    in_step ∙ sym (map-set_alike known_entry slots k put (ap known_entry locked_is ∙ known_locked (get_or slots k None)))

pub Puts-locked : (slots shown : Slots) (k : ℕ) {id : ℕ} {put : Option Entry} (seen : Option Entry) → slots ≡ shown → k + 1 ≡ id → k < length slots
    → put ≡ option_map (λ entry. locked entry.extension) (get_or slots k seen)
    → Puts shown (set slots k put) id (option_map (λ entry. locked entry.extension) (entry_at shown id))
Puts-locked slots shown k {id} {put} seen same index here is =
    Puts-replaced slots shown k put _ same index here
    (is ∙ ap (option_map (λ entry. locked entry.extension)) (sym (get_or_default slots k None seen here) ∙ sym (entry_at-slot slots k id index) ∙ ap (λ (s : Slots). entry_at s id) same))
