-- Where the first element of bytes lies, and where reading ends.
use Rattle.rtp_ext.proofs.Common.{◌≡◌, ℕ, zero, suc, ◌+◌, ◌-◌, ◌*◌, ◌/◌, ◌%◌, ◌<◌, ◌≤◌, ◌⊎◌, inl, inr, List, [], ◌∷◌, ◌++◌, length, take, drop, replicate, get_or, append_assoc, take-append-drop, arith, refl, sym, ap, ◌∙◌, subst, IsFirstAndRest, IsSplitAt, nil_from_length, replicate-append-replicate, take_rest, length-drop, ExtensionsForm, OneByte, TwoByte, Element, IsElement, element_bytes, IsTail, ended, stopped}
use Rattle.rtp_ext.specs.ElementReading.{without_padding, elements_left, BeginsWithElement, BeginsWithNoElement}
use Rattle.rtp_ext.proofs.ElementLemmas.{elements_left-padding, first_unpadded}
use Rattle.rtp_ext.proofs.ElementLemmasOfBodies.{elements_left-element, elements_left-tail, IsTail-one_byte, IsTail-two_byte, IsTail-two_byte_end}

-- bytes without padding at their front
BeginsWithElement-here : (form : ExtensionsForm) {bytes : List ℕ} (element : Element) (after : List ℕ) → IsElement form element
    → bytes ≡ element_bytes form element ++ after → BeginsWithElement form bytes element after
BeginsWithElement-here form element after is bytes_are = record { padding = 0; is_element = is; bytes_are = bytes_are }

BeginsWithNoElement-here : {form : ExtensionsForm} {bytes tail : List ℕ} → bytes ≡ tail → IsTail form tail → BeginsWithNoElement form bytes
BeginsWithNoElement-here {tail} bytes_are is = record { padding = 0; tail = tail; is_tail = is; bytes_are = bytes_are }

pub BeginsWithNoElement-nothing : (form : ExtensionsForm) (bytes : List ℕ) → length bytes ≡ 0 → BeginsWithNoElement form bytes
BeginsWithNoElement-nothing form bytes none = BeginsWithNoElement-here (nil_from_length bytes none) (ended refl)

pub BeginsWithElement-one_byte : (first : ℕ) (bytes after front back : List ℕ) → 1 ≤ first → IsFirstAndRest bytes first after → first < 240 → IsSplitAt after (first % 16 + 1) front back
    → BeginsWithElement OneByte bytes (first / 16, front) back
BeginsWithElement-one_byte first bytes after front back above begins low split =
    let count : length front ≡ first % 16 + 1 = split.3 in
    let header : first ≡ first / 16 * 16 + (length front - 1) = omega arith in
    BeginsWithElement-here OneByte (first / 16, front) back (omega arith, omega arith, omega arith, omega arith)
    (begins.0 ∙ (ap (λ b. first ∷ b) (sym (take-append-drop (first % 16 + 1) after) ∙ (ap (λ b. b ++ drop (first % 16 + 1) after) (sym split.1) ∙ ap (λ b. front ++ b) (sym split.2)))
    ∙ ap (λ b. b ∷ (front ++ back)) header))

pub BeginsWithNoElement-one_byte : (first : ℕ) (bytes after : List ℕ) → 1 ≤ first → IsFirstAndRest bytes first after → (240 ≤ first) ⊎ ((first < 240) × (length after < first % 16 + 1))
    → BeginsWithNoElement OneByte bytes
BeginsWithNoElement-one_byte first bytes after above begins (inl high) = BeginsWithNoElement-here begins.0 (stopped first after refl high refl)
BeginsWithNoElement-one_byte first bytes after above begins (inr cut) =
    BeginsWithNoElement-here begins.0 (IsTail-one_byte first after above cut.0 (omega (arith, cut.1)))

pub BeginsWithElement-two_byte : (id count : ℕ) (bytes second after front back : List ℕ) → ((i : ℕ) → get_or bytes i 0 < 256) → 1 ≤ id → IsFirstAndRest bytes id second
    → IsFirstAndRest second count after → IsSplitAt after count front back → BeginsWithElement TwoByte bytes (id, front) back
BeginsWithElement-two_byte id count bytes second after front back are above begins next split =
    let whole : bytes ≡ id ∷ count ∷ after = begins.0 ∙ ap (λ b. id ∷ b) next.0 in
    let fits : id < 256 = subst (λ b. get_or b 0 0 < 256) whole (are 0) in
    let small : count < 256 = subst (λ b. get_or b 1 0 < 256) whole (are 1) in
    BeginsWithElement-here TwoByte (id, front) back (omega arith, omega arith, omega (arith, split.3))
    (whole ∙ (ap (λ b. id ∷ count ∷ b) (sym (take-append-drop count after) ∙ (ap (λ b. b ++ drop count after) (sym split.1) ∙ ap (λ b. front ++ b) (sym split.2)))
    ∙ ap (λ n. id ∷ n ∷ (front ++ back)) (sym split.3)))

pub BeginsWithNoElement-two_byte_cut : (id count : ℕ) (bytes second after : List ℕ) → ((i : ℕ) → get_or bytes i 0 < 256) → 1 ≤ id → IsFirstAndRest bytes id second
    → IsFirstAndRest second count after → length after < count → BeginsWithNoElement TwoByte bytes
BeginsWithNoElement-two_byte_cut id count bytes second after are above begins next cut =
    let whole : bytes ≡ id ∷ count ∷ after = begins.0 ∙ ap (λ b. id ∷ b) next.0 in
    let fits : id < 256 = subst (λ b. get_or b 0 0 < 256) whole (are 0) in
    let small : count < 256 = subst (λ b. get_or b 1 0 < 256) whole (are 1) in
    BeginsWithNoElement-here whole (IsTail-two_byte id count after above fits small cut)

pub BeginsWithNoElement-two_byte_end : (id : ℕ) (bytes second : List ℕ) → ((i : ℕ) → get_or bytes i 0 < 256) → 1 ≤ id → IsFirstAndRest bytes id second
    → length second ≡ 0 → BeginsWithNoElement TwoByte bytes
BeginsWithNoElement-two_byte_end id bytes second are above begins none =
    let fits : id < 256 = subst (λ b. get_or b 0 0 < 256) begins.0 (are 0) in
    BeginsWithNoElement-here (begins.0 ∙ ap (λ b. id ∷ b) (nil_from_length second none)) (IsTail-two_byte_end id above fits)

-- padding at the front
padded : (bytes : List ℕ) → (padding : ℕ) × (bytes ≡ replicate padding 0 ++ without_padding bytes)
unfolding without_padding
padded [] = (0, refl)
padded (zero ∷ bytes) = (suc (padded bytes).0, ap (λ rest. 0 ∷ rest) (padded bytes).1)
padded (suc byte ∷ bytes) = (0, refl)

more_padded : (bytes : List ℕ) {rest : List ℕ} (end : List ℕ) (padding : ℕ) → rest ≡ without_padding bytes → rest ≡ replicate padding 0 ++ end
    → bytes ≡ replicate ((padded bytes).0 + padding) 0 ++ end
more_padded bytes end padding is more =
    (padded bytes).1 ∙ (ap (λ b. replicate (padded bytes).0 0 ++ b) (sym is ∙ more)
    ∙ (sym (append_assoc (replicate (padded bytes).0 0) (replicate padding 0) end)
    ∙ ap (λ b. b ++ end) (replicate-append-replicate (padded bytes).0 padding 0)))

pub fits_padded : (bytes : List ℕ) {rest : List ℕ} → rest ≡ without_padding bytes → ((i : ℕ) → get_or bytes i 0 < 256) → (i : ℕ) → get_or rest i 0 < 256
unfolding without_padding
fits_padded [] is fits i = subst (λ b. get_or b i 0 < 256) (sym is) (omega arith)
fits_padded (zero ∷ bytes) is fits i = fits_padded bytes is (λ k. fits (suc k)) i
fits_padded (suc byte ∷ bytes) is fits i = subst (λ b. get_or b i 0 < 256) (sym is) (fits i)

-- bytes after padding, split behind an element with its header
begins_first : (rest : List ℕ) → 1 ≤ length rest → IsFirstAndRest rest (get_or rest 0 0) (drop 1 rest)
begins_first [] some = absurd (omega arith)
begins_first (first ∷ rest) some = (refl, omega arith)

begins_second : (rest : List ℕ) → 2 ≤ length rest → IsFirstAndRest (drop 1 rest) (get_or rest 1 0) (drop 2 rest)
begins_second [] two = absurd (omega arith)
begins_second (first ∷ []) two = absurd (omega arith)
begins_second (first ∷ second ∷ rest) two = (refl, omega arith)

split_second : (rest front back : List ℕ) (whole count : ℕ) → whole ≡ suc count → IsSplitAt rest whole front back
    → IsSplitAt (drop 1 rest) count (take (length front - 1) (drop 1 front)) back
split_second [] front back whole count whole_is split = absurd (omega (arith, split.0))
split_second (first ∷ rest) front back whole count whole_is split =
    let front_is : drop 1 front ≡ take count rest = ap (drop 1) (split.1 ∙ ap (λ n. take n (first ∷ rest)) whole_is) in
    let all : take (length front - 1) (drop 1 front) ≡ drop 1 front = take_rest front 1 in (
      omega (arith, split.0),
      all ∙ front_is,
      split.2 ∙ ap (λ n. drop n (first ∷ rest)) whole_is,
      omega (arith, ap length all, length-drop 1 front, split.3),
      omega (arith, split.4),
    )

split_third : (rest front back : List ℕ) (whole count : ℕ) → whole ≡ suc (suc count) → IsSplitAt rest whole front back
    → IsSplitAt (drop 2 rest) count (take (length front - 2) (drop 2 front)) back
split_third [] front back whole count whole_is split = absurd (omega (arith, split.0))
split_third (first ∷ []) front back whole count whole_is split = absurd (omega (arith, split.0))
split_third (first ∷ second ∷ rest) front back whole count whole_is split =
    let front_is : drop 2 front ≡ take count rest = ap (drop 2) (split.1 ∙ ap (λ n. take n (first ∷ second ∷ rest)) whole_is) in
    let all : take (length front - 2) (drop 2 front) ≡ drop 2 front = take_rest front 2 in (
      omega (arith, split.0),
      all ∙ front_is,
      split.2 ∙ ap (λ n. drop n (first ∷ second ∷ rest)) whole_is,
      omega (arith, ap length all, length-drop 2 front, split.3),
      omega (arith, split.4),
    )

BeginsWithElement-padded : {form : ExtensionsForm} (bytes : List ℕ) {rest : List ℕ} {element : Element} {after : List ℕ} → rest ≡ without_padding bytes
    → BeginsWithElement form rest element after → BeginsWithElement form bytes element after
BeginsWithElement-padded {form} bytes {element} {after} is begins = record {
  padding = (padded bytes).0 + begins.padding;
  is_element = begins.is_element;
  bytes_are = more_padded bytes (element_bytes form element ++ after) begins.padding is begins.bytes_are;
}

BeginsWithNoElement-padded : {form : ExtensionsForm} (bytes : List ℕ) {rest : List ℕ} → rest ≡ without_padding bytes → BeginsWithNoElement form rest → BeginsWithNoElement form bytes
BeginsWithNoElement-padded bytes is none = record {
  padding = (padded bytes).0 + none.padding;
  tail = none.tail;
  is_tail = none.is_tail;
  bytes_are = more_padded bytes none.tail none.padding is none.bytes_are;
}

-- nothing but padding
pub no_element : (form : ExtensionsForm) (bytes : List ℕ) → length (without_padding bytes) ≡ 0 → BeginsWithNoElement form bytes
no_element form bytes none = BeginsWithNoElement-padded bytes refl (BeginsWithNoElement-nothing form (without_padding bytes) none)

module _ (bytes : List ℕ) {rest : List ℕ} (is : rest ≡ without_padding bytes) (some : 1 ≤ length rest) where
  some_id : 1 ≤ get_or rest 0 0
  some_id = first_unpadded (get_or rest 0 0) bytes (drop 1 rest) is (begins_first rest some)

  pub short_element : (front back : List ℕ) → get_or rest 0 0 < 240 → IsSplitAt rest (get_or rest 0 0 % 16 + 2) front back
      → BeginsWithElement OneByte bytes (get_or rest 0 0 / 16, take (length front - 1) (drop 1 front)) back
  short_element front back low split = BeginsWithElement-padded bytes is
      (BeginsWithElement-one_byte (get_or rest 0 0) rest (drop 1 rest) _ back some_id (begins_first rest some) low
      (split_second rest front back (get_or rest 0 0 % 16 + 2) (get_or rest 0 0 % 16 + 1) (omega arith) split))

  pub no_short_element : (240 ≤ get_or rest 0 0) ⊎ ((get_or rest 0 0 < 240) × (length rest < get_or rest 0 0 % 16 + 2)) → BeginsWithNoElement OneByte bytes
  no_short_element (inl high) =
      BeginsWithNoElement-padded bytes is (BeginsWithNoElement-one_byte (get_or rest 0 0) rest (drop 1 rest) some_id (begins_first rest some) (inl high))
  no_short_element (inr cut) = BeginsWithNoElement-padded bytes is
      (BeginsWithNoElement-one_byte (get_or rest 0 0) rest (drop 1 rest) some_id (begins_first rest some) (inr (cut.0, omega (arith, cut.1, length-drop 1 rest))))

  module _ (are : (i : ℕ) → get_or bytes i 0 < 256) where
    pub long_element : (front back : List ℕ) → 2 ≤ length rest → IsSplitAt rest (get_or rest 1 0 + 2) front back
        → BeginsWithElement TwoByte bytes (get_or rest 0 0, take (length front - 2) (drop 2 front)) back
    long_element front back two split = BeginsWithElement-padded bytes is
        (BeginsWithElement-two_byte (get_or rest 0 0) (get_or rest 1 0) rest (drop 1 rest) (drop 2 rest) _ back (fits_padded bytes is are) some_id (begins_first rest some)
        (begins_second rest two) (split_third rest front back (get_or rest 1 0 + 2) (get_or rest 1 0) (omega arith) split))

    pub no_long_element : (length rest < 2) ⊎ ((2 ≤ length rest) × (length rest < get_or rest 1 0 + 2)) → BeginsWithNoElement TwoByte bytes
    no_long_element (inl one) = BeginsWithNoElement-padded bytes is
        (BeginsWithNoElement-two_byte_end (get_or rest 0 0) rest (drop 1 rest) (fits_padded bytes is are) some_id (begins_first rest some) (omega (arith, length-drop 1 rest)))
    no_long_element (inr cut) = BeginsWithNoElement-padded bytes is
        (BeginsWithNoElement-two_byte_cut (get_or rest 0 0) (get_or rest 1 0) rest (drop 1 rest) (drop 2 rest) (fits_padded bytes is are) some_id (begins_first rest some)
        (begins_second rest cut.0) (omega (arith, cut.1, length-drop 2 rest)))

-- the elements that are read
elements_left-zeros : (form : ExtensionsForm) (padding : ℕ) (bytes : List ℕ) → elements_left form (replicate padding 0 ++ bytes) ≡ elements_left form bytes
elements_left-zeros form zero bytes = refl
elements_left-zeros form (suc padding) bytes = elements_left-padding form (replicate padding 0 ++ bytes) ∙ elements_left-zeros form padding bytes

pub elements_left-first : {form : ExtensionsForm} {bytes : List ℕ} {element : Element} {after : List ℕ} → BeginsWithElement form bytes element after
    → elements_left form bytes ≡ element ∷ elements_left form after
elements_left-first {form} {element} {after} begins = ap (elements_left form) begins.bytes_are
    ∙ (elements_left-zeros form begins.padding (element_bytes form element ++ after) ∙ elements_left-element form element after begins.is_element)

pub elements_left-no_first : {form : ExtensionsForm} {bytes : List ℕ} → BeginsWithNoElement form bytes → elements_left form bytes ≡ []
elements_left-no_first {form} none = ap (elements_left form) none.bytes_are
    ∙ (elements_left-zeros form none.padding none.tail ∙ elements_left-tail form none.is_tail)
