-- Where a walk over the map that C fills ends.
use Rattle.rtp_c.proofs.Common.{◌≡◌, ℕ, ◌≤◌, ◌<◌, ◌+◌, ◌-◌, List, length, take, drop, get_or, None, arith, sym, ap, ◌∙◌, inl, inr, lt-ltb, le-ltb, if◌then◌else◌, Bool, cases_lt, items_from, kind_numbered, numbered_slots, last_end}
use Rattle.rtp_c.proofs.NumberedLemmas.{numbered-over}

pub last_end-low : (end : ℕ) → end ≤ 14 → last_end end ≡ end
last_end-low end low = ap (λ (b : Bool). if b then 255 else end) (le-ltb 14 end low)

pub last_end-high : (end : ℕ) → 14 < end → last_end end ≡ 255
last_end-high end high = ap (λ (b : Bool). if b then 255 else end) (lt-ltb 14 end high)

-- it is no earlier than the end, and no later than the last slot
pub last_end-within : (end : ℕ) → end ≤ 255 → (end ≤ last_end end) × (last_end end ≤ 255)
last_end-within end few = elim (cases_lt 14 end) [
  | inl high ↦ let is = last_end-high end high in (omega (arith, is, few), omega (arith, is))
  | inr low ↦ let is = last_end-low end low in (omega (arith, is), omega (arith, is, few))
]

-- a walk that passes over slots without a kind
pub walk-over : (numbers : List ℕ) (end next at to : ℕ) → length numbers ≡ 256 → 14 < end → 14 < next → at ≤ to → to ≤ 255
    → ((slot : ℕ) → at ≤ slot → slot < to → kind_numbered (get_or numbers (slot + 1) 0) ≡ None)
    → items_from at (drop at (take (last_end end) (numbered_slots numbers))) ≡ items_from to (drop to (take (last_end next) (numbered_slots numbers)))
walk-over numbers end next at to long high next_high after within unmapped =
    let there : at + (to - at) ≡ to = omega (arith, after) in
    ap (λ (n : ℕ). items_from at (drop at (take n (numbered_slots numbers)))) (last_end-high end high)
    ∙ numbered-over (to - at) numbers 255 at long (omega arith) (omega (arith, there, within)) (λ slot above below. unmapped slot above (omega (arith, below, there)))
    ∙ ap (λ (k : ℕ). items_from k (drop k (take 255 (numbered_slots numbers)))) there
    ∙ ap (λ (n : ℕ). items_from to (drop to (take n (numbered_slots numbers)))) (sym (last_end-high next next_high))
