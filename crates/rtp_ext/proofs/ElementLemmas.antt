-- The elements of bytes from the front on, as code meets them.
use Rattle.rtp_ext.proofs.Common.{◌≡◌, ◌≢◌, ℕ, zero, suc, ◌+◌, ◌/◌, ◌%◌, ◌^◌, ◌<◌, ◌≤◌, ◌⊎◌, inl, inr, List, [], ◌∷◌, ◌++◌, length, take, drop, Some, None, le-ltb, lt-ltb, le-leb, add-one, get_or, take-append-drop, arith, refl, sym, ap, ◌∙◌, IsFirstAndRest, w128, byte_worth, from_le_bytes, sum_through, cases_lt, lt-leb, length-take-le, ExtensionsForm, OneByte, TwoByte, Element}
use Rattle.std.proofs.Math.Nat.{one-le-pow, eq_of_mul-eq-mul_right, zero-mul}
use Rattle.rtp_ext.specs.ElementReading.{without_padding, element_at, in_front, elements_after, elements_left}

-- the elements after some bytes are those of what is left without them
elements_after-drop : (form : ExtensionsForm) (passed : ℕ) (bytes : List ℕ) → elements_after form passed bytes ≡ elements_left form (drop passed bytes)
unfolding elements_after
elements_after-drop form zero bytes = refl
elements_after-drop form (suc passed) [] = refl
elements_after-drop form (suc passed) (byte ∷ bytes) = elements_after-drop form passed bytes

-- nothing is left, padding, and a byte that is none
pub elements_left-none : (form : ExtensionsForm) → elements_left form [] ≡ []
unfolding elements_after
elements_left-none form = refl

pub elements_left-padding : (form : ExtensionsForm) (bytes : List ℕ) → elements_left form (0 ∷ bytes) ≡ elements_left form bytes
unfolding elements_after
elements_left-padding form bytes = refl

elements_left-other : (form : ExtensionsForm) (byte : ℕ) (bytes : List ℕ) → 1 ≤ byte
    → elements_left form (byte ∷ bytes) ≡ in_front (element_at form byte bytes) (λ taken. elements_after form taken bytes)
unfolding elements_after
elements_left-other form zero bytes above = absurd (omega arith)
elements_left-other form (suc byte) bytes above = refl

-- an element that is whole, and where reading ends
elements_left-some : (form : ExtensionsForm) (byte : ℕ) (bytes : List ℕ) (element : Element) (taken : ℕ) → 1 ≤ byte → element_at form byte bytes ≡ Some (element, taken)
    → elements_left form (byte ∷ bytes) ≡ element ∷ elements_left form (drop taken bytes)
elements_left-some form byte bytes element taken above found =
    elements_left-other form byte bytes above ∙ (ap (λ f. in_front f (λ n. elements_after form n bytes)) found ∙ ap (λ es. element ∷ es) (elements_after-drop form taken bytes))

elements_left-end : (form : ExtensionsForm) (byte : ℕ) (bytes : List ℕ) → 1 ≤ byte → element_at form byte bytes ≡ None → elements_left form (byte ∷ bytes) ≡ []
elements_left-end form byte bytes above none =
    elements_left-other form byte bytes above ∙ ap (λ f. in_front f (λ n. elements_after form n bytes)) none

pub one_byte-whole : (byte : ℕ) (bytes : List ℕ) → byte < 240 → byte % 16 < length bytes
    → element_at OneByte byte bytes ≡ Some ((byte / 16, take (byte % 16 + 1) bytes), byte % 16 + 1)
one_byte-whole byte bytes low whole = rw (lt-ltb byte 240 low, lt-ltb (byte % 16) (length bytes) whole) refl

pub one_byte-stops : (byte : ℕ) (bytes : List ℕ) → 240 ≤ byte → element_at OneByte byte bytes ≡ None
one_byte-stops byte bytes high = rw (le-ltb byte 240 high) refl

pub one_byte-cut : (byte : ℕ) (bytes : List ℕ) → length bytes ≤ byte % 16 → element_at OneByte byte bytes ≡ None
one_byte-cut byte bytes cut = elim (cases_lt byte 240) [
  | inl low ↦ rw (lt-ltb byte 240 low, le-ltb (byte % 16) (length bytes) cut) refl
  | inr high ↦ one_byte-stops byte bytes high
]

pub two_byte-whole : (id count : ℕ) (bytes : List ℕ) → count ≤ length bytes → element_at TwoByte id (count ∷ bytes) ≡ Some ((id, take count bytes), suc count)
two_byte-whole id count bytes whole = rw (le-leb count (length bytes) whole, add-one) refl

pub two_byte-cut : (id count : ℕ) (bytes : List ℕ) → length bytes < count → element_at TwoByte id (count ∷ bytes) ≡ None
two_byte-cut id count bytes cut = rw (lt-leb count (length bytes) cut) refl

-- what follows the padding begins with none
pub first_unpadded : (first : ℕ) (bytes : List ℕ) {rest : List ℕ} (after : List ℕ) → rest ≡ without_padding bytes → IsFirstAndRest rest first after → 1 ≤ first
unfolding without_padding
first_unpadded first [] after is begins = cc
first_unpadded first (zero ∷ bytes) after is begins = first_unpadded first bytes after is begins
first_unpadded first (suc byte ∷ bytes) after is begins = let same : first ≡ suc byte = cc in omega arith

-- the padding as code passes it
pub without_padding-none : (bytes : List ℕ) → length bytes ≡ 0 → without_padding bytes ≡ bytes
unfolding without_padding
without_padding-none [] none = refl
without_padding-none (byte ∷ bytes) none = absurd (omega arith)

pub without_padding-other : (byte : ℕ) (bytes after : List ℕ) → IsFirstAndRest bytes byte after → byte ≢ 0 → without_padding bytes ≡ bytes
unfolding without_padding
without_padding-other zero bytes after first other = absurd (other refl)
without_padding-other (suc byte) bytes after first other = ap without_padding first.0 ∙ sym first.0

pub without_padding-zero : {byte : ℕ} (bytes after : List ℕ) → IsFirstAndRest bytes byte after → byte ≡ 0 → without_padding bytes ≡ without_padding after
unfolding without_padding
without_padding-zero bytes after first is = ap without_padding (first.0 ∙ ap (λ b. b ∷ after) is)

-- words of 16 bytes: where the number is 0, each byte is
pub sum_through-zero : (f : ℕ → ℕ) (last i : ℕ) → sum_through f last ≡ 0 → i ≤ last → f i ≡ 0
sum_through-zero f zero zero is within = is
sum_through-zero f zero (suc i) is within = absurd (omega arith)
sum_through-zero f (suc last) i is within = elim (cases_lt i (suc last)) [
  | inl before ↦ sum_through-zero f last i (omega arith) (omega arith)
  | inr here ↦ let same : i ≡ suc last = omega arith in ap f same ∙ omega arith
]

pub byte_worth-zero : (i byte : ℕ) → byte_worth i byte ≡ 0 → byte ≡ 0
byte_worth-zero zero byte is = is
byte_worth-zero (suc i) byte is =
    let above : 1 ≤ 256 ^ suc i = one-le-pow (suc i) 256 (omega arith) in
    eq_of_mul-eq-mul_right (256 ^ suc i) (omega arith) byte 0 (is ∙ sym (zero-mul (256 ^ suc i)))

without_padding-zeros : (word rest : List ℕ) → ((i : ℕ) → i < length word → get_or word i 0 ≡ 0) → without_padding (word ++ rest) ≡ without_padding rest
unfolding without_padding
without_padding-zeros [] rest zeros = refl
without_padding-zeros (byte ∷ word) rest zeros =
    ap (λ b. without_padding (b ∷ (word ++ rest))) (zeros 0 (omega arith)) ∙ without_padding-zeros word rest (λ i here. zeros (suc i) (omega arith))

pub without_padding-word : (bytes word after : List ℕ) → (word ≡ take 16 bytes) × (after ≡ drop 16 bytes) × (length after + 16 ≡ length bytes) → from_le_bytes w128 word ≡ 0
    → without_padding bytes ≡ without_padding after
without_padding-word bytes word after split zero_word =
    let sixteen : length word ≡ 16 = ap length split.0 ∙ length-take-le 16 bytes (omega (arith, split.2)) in
    let whole : bytes ≡ word ++ after = sym (take-append-drop 16 bytes) ∙ (ap (λ w. w ++ drop 16 bytes) (sym split.0) ∙ ap (λ b. word ++ b) (sym split.1)) in
    ap without_padding whole
    ∙ without_padding-zeros word after (λ i here. byte_worth-zero i (get_or word i 0) (sum_through-zero (λ k. byte_worth k (get_or word k 0)) 15 i zero_word (omega arith)))

-- what code reads: an element in each form, and the end
pub elements_left-one_byte : (byte : ℕ) (bytes : List ℕ) → 1 ≤ byte → byte < 240 → byte % 16 < length bytes
    → elements_left OneByte (byte ∷ bytes) ≡ (byte / 16, take (byte % 16 + 1) bytes) ∷ elements_left OneByte (drop (byte % 16 + 1) bytes)
elements_left-one_byte byte bytes above low whole =
    elements_left-some OneByte byte bytes (byte / 16, take (byte % 16 + 1) bytes) (byte % 16 + 1) above (one_byte-whole byte bytes low whole)

pub elements_left-one_byte_end : (byte : ℕ) (bytes : List ℕ) → 1 ≤ byte → (240 ≤ byte) ⊎ (length bytes ≤ byte % 16) → elements_left OneByte (byte ∷ bytes) ≡ []
elements_left-one_byte_end byte bytes above (inl high) = elements_left-end OneByte byte bytes above (one_byte-stops byte bytes high)
elements_left-one_byte_end byte bytes above (inr cut) = elements_left-end OneByte byte bytes above (one_byte-cut byte bytes cut)

pub elements_left-two_byte : (id count : ℕ) (bytes : List ℕ) → 1 ≤ id → count ≤ length bytes
    → elements_left TwoByte (id ∷ count ∷ bytes) ≡ (id, take count bytes) ∷ elements_left TwoByte (drop count bytes)
elements_left-two_byte id count bytes above whole =
    elements_left-some TwoByte id (count ∷ bytes) (id, take count bytes) (suc count) above (two_byte-whole id count bytes whole)

pub elements_left-two_byte_cut : (id count : ℕ) (bytes : List ℕ) → 1 ≤ id → length bytes < count → elements_left TwoByte (id ∷ count ∷ bytes) ≡ []
elements_left-two_byte_cut id count bytes above cut = elements_left-end TwoByte id (count ∷ bytes) above (two_byte-cut id count bytes cut)

pub elements_left-two_byte_end : (id : ℕ) → 1 ≤ id → elements_left TwoByte (id ∷ []) ≡ []
elements_left-two_byte_end id above = elements_left-end TwoByte id [] above refl
