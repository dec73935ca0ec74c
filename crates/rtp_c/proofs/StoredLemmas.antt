-- A receiver that is stored: its parts by the window, bit by bit.
use Rattle.rtp_c.proofs.Common.{◌≡◌, ℕ, zero, suc, ◌+◌, ◌-◌, ◌*◌, ◌/◌, ◌^◌, ◌<◌, ◌≤◌, nat_eq, Bool, true, false, ◌||◌, List, get_or, inl, inr, refl, sym, ap, ◌∙◌, subst, arith, eq-eqb, ne_eqb, eqb-true, or_left, or_right, false≢true, bit_at, Numbers, WindowState, including, Keeps, ReceiverState, Holds, IsFresh, StaysBelowZeroIn, StoredReceiver, recorded_bits, IsWindowOf, HoldsNumbers, IsStarted, stored_again, HasHalves, IsStored, bit_of, MovesBelowZero}
use Rattle.std.proofs.lemmas.Nat.Bits.{bit_at_lowest, bit_at-suc, bit_at-lt, same_from_bits_below}
use Rattle.rtp_base.specs.Bitmap.{bits_of}
use Rattle.rtp_receive.specs.declared.receiver.ReceiverState.TheVariants.{Start, Window}
use Rattle.rtp_base.proofs.BitmapLemmas.{bits_of-at, or-none}

-- a bit that shows as set is 1, and bits that show the same are the same
one_shown : (bit : ℕ) → nat_eq bit 1 ≡ true → bit ≡ 1
one_shown bit shown = eqb-true bit 1 shown

same_shown : (a b : ℕ) → a < 2 → b < 2 → nat_eq a 1 ≡ nat_eq b 1 → a ≡ b
same_shown zero zero a-low b-low same = refl
same_shown zero (suc zero) a-low b-low same = absurd (false≢true same)
same_shown (suc zero) zero a-low b-low same = absurd (false≢true (sym same))
same_shown (suc zero) (suc zero) a-low b-low same = refl
same_shown (suc (suc a)) b a-low b-low same = absurd (omega arith)
same_shown a (suc (suc b)) a-low b-low same = absurd (omega arith)

-- a window that keeps some numbers has the bit of the highest one set
IsStored-started : (window : WindowState) (stored : StoredReceiver) (taken : Numbers) → Keeps window taken → IsStored window stored → IsStarted stored
IsStored-started window stored taken keeps is =
    let all : ℕ = recorded_bits stored in
    let none : window.greatest - window.greatest ≡ 0 = omega arith in
    let shown : get_or window.recorded 0 false ≡ true =
    ap (λ (k : ℕ). get_or window.recorded k false) (sym none) ∙ keeps.recorded window.greatest (omega arith) (omega arith) ∙ keeps.top.member in
    let bit : bit_at all 0 ≡ 1 =
    one_shown (bit_at all 0) (sym (bits_of-at all 0 (omega arith)) ∙ ap (λ (bits : List Bool). get_or bits 0 false) is.recorded_are ∙ shown) in
    record { started_is = is.started_is; highest_bit = omega (arith, bit, bit_at_lowest all) }

pub IsStarted-held : (state : ReceiverState) (stored : StoredReceiver) (count : ℕ) (taken : Numbers) (number : ℕ) → Holds state count (including taken number)
    → ((window : WindowState) → state ≡ Window window → IsStored window stored) → IsStarted stored
IsStarted-held (Start start) stored count taken number holds is =
    absurd (false≢true (sym (holds.1 number) ∙ or_right (taken number) (nat_eq number number) (eq-eqb number number refl)))
IsStarted-held (Window window) stored count taken number holds is = IsStored-started window stored (including taken number) holds (is window refl)

-- where nothing is taken each number may be taken
pub started-refused : (stored : StoredReceiver) (count : ℕ) (taken : Numbers) (number : ℕ) → HoldsNumbers stored count taken → (IsFresh taken number → ⊥) → 0 < stored.started
started-refused stored count taken number (inl empty) refused = absurd (refused (inl empty.2))
started-refused stored count taken number (inr started) refused = started.0

-- all bits of a window with that of the highest number set
same_bits : (old new : ℕ) (recorded : List Bool) → old < 2 ^ 128 → new < 2 ^ 128 → bits_of new ≡ recorded
    → ((k : ℕ) → k < 128 → get_or recorded k false ≡ (get_or (bits_of old) k false || nat_eq k 0)) → new ≡ old / 2 * 2 + 1
same_bits old new recorded old-fits new-fits is shown = same_from_bits_below 128 new (old / 2 * 2 + 1) new-fits (omega (arith, old-fits)) each
  where
    at : (k : ℕ) → k < 128 → nat_eq (bit_at new k) 1 ≡ (nat_eq (bit_at old k) 1 || nat_eq k 0)
    at k below =
        sym (bits_of-at new k below) ∙ ap (λ (bits : List Bool). get_or bits k false) is ∙ shown k below
        ∙ ap (λ (b : Bool). b || nat_eq k 0) (bits_of-at old k below)

    each : (k : ℕ) → k < 128 → bit_at new k ≡ bit_at (old / 2 * 2 + 1) k
    each zero below =
        one_shown (bit_at new 0) (at 0 below ∙ or_right (nat_eq (bit_at old 0) 1) true refl)
        ∙ sym (bit_at_lowest (old / 2 * 2 + 1) ∙ omega arith)
    each (suc k) below =
        same_shown (bit_at new (suc k)) (bit_at old (suc k)) (bit_at-lt new (suc k)) (bit_at-lt old (suc k))
        (at (suc k) below ∙ or-none (nat_eq (bit_at old (suc k)) 1) (nat_eq (suc k) 0) (ne_eqb (suc k) 0 (λ same. omega (arith, same))))
        ∙ bit_at-suc old k ∙ ap (λ (n : ℕ). bit_at n k) (omega arith) ∙ sym (bit_at-suc (old / 2 * 2 + 1) k)

-- two numbers of two halves
halves : (a b c d : ℕ) → b < 2 ^ 64 → d < 2 ^ 64 → a * 2 ^ 64 + b ≡ c * 2 ^ 64 + d → (a ≡ c) × (b ≡ d)
halves a b c d b-fits d-fits same = (omega (arith, same), omega (arith, same))

same_parts : (a b : StoredReceiver) → a.highest ≡ b.highest → a.recorded_low ≡ b.recorded_low → a.recorded_high ≡ b.recorded_high → a.started ≡ b.started → a ≡ b
same_parts a b highest low high started =
    ap (λ (n : ℕ). record a { highest = n }) highest
    ∙ ap (λ (n : ℕ). record a { highest = b.highest; recorded_low = n }) low
    ∙ ap (λ (n : ℕ). record a { highest = b.highest; recorded_low = b.recorded_low; recorded_high = n }) high
    ∙ ap (λ (n : ℕ). record b { started = n }) started

pub stored_again-is : (old new : StoredReceiver) (window : WindowState) → IsWindowOf old window → HasHalves old → IsStored window new → new ≡ stored_again old
stored_again-is old new window was fits is =
    let low = fits.low_fits in
    let new_low = is.fits.low_fits in
    let all : recorded_bits new ≡ recorded_bits old / 2 * 2 + 1 =
    same_bits (recorded_bits old) (recorded_bits new) window.recorded (omega (arith, low, fits.high_fits)) (omega (arith, new_low, is.fits.high_fits)) is.recorded_are was.recorded_are in
    let parts = halves new.recorded_high new.recorded_low old.recorded_high (old.recorded_low / 2 * 2 + 1) new_low (omega (arith, low)) (omega (arith, all)) in
    same_parts new (stored_again old) (is.highest_is ∙ was.greatest_is) parts.1 parts.0 is.started_is

-- ---- the bits of numbers below 0

stored-bit : (stored : StoredReceiver) (window : WindowState) (index : ℕ) → IsStored window stored → bit_of stored index ≡ get_or window.recorded index false
stored-bit stored window index is = ap (λ (bits : List Bool). get_or bits index false) is.recorded_are

-- the highest number of a window doesn't fall
grown : (old new : WindowState) (taken : Numbers) (number : ℕ) → Keeps old taken → Keeps new (including taken number) → old.greatest ≤ new.greatest
grown old new taken number was is =
    is.top.top old.greatest (or_left (taken old.greatest) (nat_eq old.greatest number) was.top.member)

Moves-first : (old new : StoredReceiver) (was is : ReceiverState) (window : WindowState) → StaysBelowZeroIn was is → is ≡ Window window → IsStored window new
    → was ≡ Start (old.highest / 65536) → (index : ℕ) → new.highest < index → index < 128 → bit_of new index ≡ false
Moves-first old new was is window stays now stored then index past below =
    let clear = subst (λ (s : ReceiverState). StaysBelowZeroIn s (Window window)) then (subst (λ (s : ReceiverState). StaysBelowZeroIn was s) now stays) in
    stored-bit new window index stored ∙ clear index (omega (arith, past, stored.highest_is)) below

Moves-later : (old new : StoredReceiver) (was is : ReceiverState) (before window : WindowState) → StaysBelowZeroIn was is → is ≡ Window window → IsStored window new
    → was ≡ Window before → IsWindowOf old before → before.greatest ≤ window.greatest → (index : ℕ) → new.highest < index → index < 128
    → bit_of new index ≡ bit_of old (index - (new.highest - old.highest))
Moves-later old new was is before window stays now stored then held le index past below =
    let moved = subst (λ (s : ReceiverState). StaysBelowZeroIn s (Window window)) then (subst (λ (s : ReceiverState). StaysBelowZeroIn was s) now stays) in
    let from : ℕ = index - (window.greatest - before.greatest) in
    let same : from ≡ index - (new.highest - old.highest) = omega (arith, stored.highest_is, held.greatest_is) in
    let some : 0 < from = omega (arith, le, past, stored.highest_is) in
    stored-bit new window index stored
    ∙ moved index (omega (arith, past, stored.highest_is)) below
    ∙ held.recorded_are from (omega (arith, below))
    ∙ or-none (bit_of old from) (nat_eq from 0) (ne_eqb from 0 (λ none. omega (arith, none, some)))
    ∙ ap (λ (k : ℕ). bit_of old k) same

pub MovesBelowZero-stored : (old new : StoredReceiver) (was is : ReceiverState) (count : ℕ) (taken : Numbers) (number : ℕ) → Holds was count taken
    → Holds is count (including taken number) → StaysBelowZeroIn was is → ((window : WindowState) → is ≡ Window window → IsStored window new)
    → (old.started ≡ 0 → was ≡ Start (old.highest / 65536)) → (0 < old.started → (window : WindowState) × (was ≡ Window window) × IsWindowOf old window)
    → MovesBelowZero old new
MovesBelowZero-stored old new was (Start start) count taken number before after stays stored none some =
    absurd (false≢true (sym (after.1 number) ∙ or_right (taken number) (nat_eq number number) (eq-eqb number number refl)))
MovesBelowZero-stored old new was (Window window) count taken number before after stays stored none some = record {
  first = λ empty. Moves-first old new was (Window window) window stays refl (stored window refl) (none empty);
  later = λ started.
      let held = some started in
      let le = grown held.0 window taken number (subst (λ (s : ReceiverState). Holds s count taken) held.1 before) after in
      Moves-later old new was (Window window) held.0 window stays refl (stored window refl) held.1 held.2 le;
}
