-- The elements of a block's body, read from the front, are those that it has.
use Rattle.rtp_ext.proofs.Common.{◌≡◌, ◌≢◌, ℕ, zero, suc, ◌+◌, ◌-◌, ◌*◌, ◌/◌, ◌%◌, ◌<◌, ◌≤◌, inl, inr, List, [], ◌∷◌, ◌++◌, length, take, drop, replicate, Option, Some, None, get_or, append_assoc, length-append, take-append-drop, arith, refl, sym, ap, ◌∙◌, subst, AllByRecursion, flat_map, filter_map, cases_lt, take_at, drop_at, length-replicate, length-take-le, ExtensionsForm, OneByte, TwoByte, Element, IsElement, element_bytes, IsPiece, piece_bytes, IsTail, ended, cut_short, stopped, AreElements}
use Rattle.rtp_ext.specs.ElementReading.{element_at, in_front, elements_after, elements_left}
use Rattle.rtp_ext.proofs.ElementLemmas.{elements_left-none, elements_left-padding, one_byte-whole, one_byte-stops, one_byte-cut, two_byte-whole, two_byte-cut, elements_left-one_byte, elements_left-one_byte_end, elements_left-two_byte, elements_left-two_byte_cut, elements_left-two_byte_end}

-- no list of elements but the one that is read: a whole element, a tail, and all pieces
pub elements_left-element : (form : ExtensionsForm) (element : Element) (rest : List ℕ) → IsElement form element
    → elements_left form (element_bytes form element ++ rest) ≡ element ∷ elements_left form rest
elements_left-element OneByte (id, bytes) rest is =
    let byte : ℕ = id * 16 + (length bytes - 1) in
    let count : byte % 16 + 1 ≡ length bytes = omega arith in
    let id_is : byte / 16 ≡ id = omega arith in
    let room : byte % 16 < length (bytes ++ rest) = omega (arith, length-append bytes rest) in
    elements_left-one_byte byte (bytes ++ rest) (omega arith) (omega arith) room
    ∙ (ap (λ n. (n, take (byte % 16 + 1) (bytes ++ rest)) ∷ elements_left OneByte (drop (byte % 16 + 1) (bytes ++ rest))) id_is
    ∙ (ap (λ b. (id, b) ∷ elements_left OneByte (drop (byte % 16 + 1) (bytes ++ rest))) (take_at bytes rest (byte % 16 + 1) (sym count))
    ∙ ap (λ b. (id, bytes) ∷ elements_left OneByte b) (drop_at bytes rest (byte % 16 + 1) (sym count))))
elements_left-element TwoByte (id, bytes) rest is =
    elements_left-two_byte id (length bytes) (bytes ++ rest) is.0 (omega (arith, length-append bytes rest))
    ∙ (ap (λ b. (id, b) ∷ elements_left TwoByte (drop (length bytes) (bytes ++ rest))) (take_at bytes rest (length bytes) refl)
    ∙ ap (λ b. (id, bytes) ∷ elements_left TwoByte b) (drop_at bytes rest (length bytes) refl))

elements_left-cut : (form : ExtensionsForm) (element : Element) (tail missing : List ℕ) → IsElement form element → tail ≢ [] → missing ≢ []
    → element_bytes form element ≡ tail ++ missing → elements_left form tail ≡ []
elements_left-cut form element [] missing is some missed split = absurd (some refl)
elements_left-cut form element tail [] is some missed split = absurd (missed refl)
elements_left-cut OneByte (id, bytes) (byte ∷ tail) (next ∷ missing) is some missed split =
    let header : id * 16 + (length bytes - 1) ≡ byte = cc in
    let after : bytes ≡ tail ++ next ∷ missing = cc in
    let count : length bytes ≡ length tail + suc (length missing) = ap length after ∙ length-append tail (next ∷ missing) in
    elements_left-one_byte_end byte tail (omega arith) (inr (omega arith))
elements_left-cut TwoByte (id, bytes) (byte ∷ []) (next ∷ missing) is some missed split =
    let header : id ≡ byte = cc in
    elements_left-two_byte_end byte (omega arith)
elements_left-cut TwoByte (id, bytes) (byte ∷ count ∷ tail) (next ∷ missing) is some missed split =
    let header : id ≡ byte = cc in
    let second : length bytes ≡ count = cc in
    let after : bytes ≡ tail ++ next ∷ missing = cc in
    let total : length bytes ≡ length tail + suc (length missing) = ap length after ∙ length-append tail (next ∷ missing) in
    elements_left-two_byte_cut byte count tail (omega arith) (omega arith)

pub elements_left-tail : (form : ExtensionsForm) {tail : List ℕ} → IsTail form tail → elements_left form tail ≡ []
elements_left-tail form (ended none) = rw none (elements_left-none form)
elements_left-tail form {tail} (cut_short element missing is some missed split) = elements_left-cut form element tail missing is some missed split
elements_left-tail OneByte (stopped first others one high is) =
    ap (elements_left OneByte) is ∙ elements_left-one_byte_end first others (omega arith) (inl (omega arith))
elements_left-tail TwoByte (stopped first others one high is) = cc

elements_left-pieces : {form : ExtensionsForm} (pieces : List (Option Element)) {tail : List ℕ} → AllByRecursion (IsPiece form) pieces → IsTail form tail
    → filter_map (λ piece. piece) pieces ≡ elements_left form (flat_map (piece_bytes form) pieces ++ tail)
elements_left-pieces {form} [] are is = sym (elements_left-tail form is)
elements_left-pieces {form} (None ∷ pieces) {tail} are is =
    elements_left-pieces pieces are.1 is ∙ sym (elements_left-padding form (flat_map (piece_bytes form) pieces ++ tail))
elements_left-pieces {form} (Some element ∷ pieces) {tail} are is =
    let rest : List ℕ = flat_map (piece_bytes form) pieces ++ tail in
    ap (λ es. element ∷ es) (elements_left-pieces pieces are.1 is)
    ∙ (sym (elements_left-element form element rest are.0)
    ∙ ap (elements_left form) (sym (append_assoc (element_bytes form element) (flat_map (piece_bytes form) pieces) tail)))

pub AreElements-only : (form : ExtensionsForm) (body : List ℕ) (elements : List Element) → AreElements form body elements → elements ≡ elements_left form body
AreElements-only form body elements are =
    are.elements_are ∙ (elements_left-pieces are.pieces are.are_pieces are.is_tail ∙ ap (elements_left form) (sym are.body_is))

-- bytes, of which each is below 256
abbrev pub AreBytes : List ℕ → Type 0
AreBytes bytes = (i : ℕ) → get_or bytes i 0 < 256

-- the elements of a body with one more piece in front, or of one that is a tail
pub AreElements-padding : (form : ExtensionsForm) (body : List ℕ) (elements : List Element) → AreElements form body elements → AreElements form (0 ∷ body) elements
AreElements-padding form body elements are = record {
  pieces = None ∷ are.pieces;
  tail = are.tail;
  are_pieces = (tt, are.are_pieces);
  is_tail = are.is_tail;
  body_is = ap (λ rest. 0 ∷ rest) are.body_is;
  elements_are = are.elements_are;
}

pub AreElements-element : (form : ExtensionsForm) (element : Element) (body : List ℕ) (elements : List Element) → IsElement form element → AreElements form body elements
    → AreElements form (element_bytes form element ++ body) (element ∷ elements)
AreElements-element form element body elements is are = record {
  pieces = Some element ∷ are.pieces;
  tail = are.tail;
  are_pieces = (is, are.are_pieces);
  is_tail = are.is_tail;
  body_is = ap (λ rest. element_bytes form element ++ rest) are.body_is
      ∙ sym (append_assoc (element_bytes form element) (flat_map (piece_bytes form) are.pieces) are.tail);
  elements_are = ap (λ es. element ∷ es) are.elements_are;
}

pub AreElements-tail : (form : ExtensionsForm) (tail : List ℕ) → IsTail form tail → AreElements form tail []
AreElements-tail form tail is = record { pieces = []; tail = tail; are_pieces = tt; is_tail = is; body_is = refl; elements_are = refl }

-- what a byte that is no padding begins
abbrev IsFound : ExtensionsForm → ℕ → List ℕ → Option (Element × ℕ) → Type 0
IsFound form byte bytes None = IsTail form (byte ∷ bytes)
IsFound form byte bytes (Some found) = IsElement form found.0 × (byte ∷ bytes ≡ element_bytes form found.0 ++ drop found.1 bytes)

-- bytes in place of those that are missing
zeros : ℕ → List ℕ
zeros count = replicate count 0

length-zeros : (count : ℕ) → length (zeros count) ≡ count
unfolding zeros
length-zeros count = length-replicate {A = ℕ} count 0

zeros_some : (count : ℕ) → 1 ≤ count → zeros count ≢ []
zeros_some count above none = absurd (omega (arith, ap length none, length-zeros count))

length-filled : (bytes : List ℕ) (count : ℕ) → length bytes ≤ count → length (bytes ++ zeros (count - length bytes)) ≡ count
length-filled bytes count short = omega (arith, length-append bytes (zeros (count - length bytes)), length-zeros (count - length bytes))

IsFound-one_byte : (byte : ℕ) (bytes : List ℕ) → 1 ≤ byte → byte < 240 → byte % 16 < length bytes
    → IsFound OneByte byte bytes (Some ((byte / 16, take (byte % 16 + 1) bytes), byte % 16 + 1))
IsFound-one_byte byte bytes above low whole =
    let count : length (take (byte % 16 + 1) bytes) ≡ byte % 16 + 1 = length-take-le (byte % 16 + 1) bytes (omega arith) in
    let header : byte ≡ byte / 16 * 16 + (length (take (byte % 16 + 1) bytes) - 1) = omega arith in (
      (omega arith, omega arith, omega arith, omega arith),
      ap (λ b. b ∷ bytes) header
          ∙ ap (λ rest. (byte / 16 * 16 + (length (take (byte % 16 + 1) bytes) - 1)) ∷ rest) (sym (take-append-drop (byte % 16 + 1) bytes)),
    )

pub IsTail-one_byte : (byte : ℕ) (bytes : List ℕ) → 1 ≤ byte → byte < 240 → length bytes ≤ byte % 16 → IsTail OneByte (byte ∷ bytes)
IsTail-one_byte byte bytes above low cut =
    let count : length (bytes ++ zeros (byte % 16 + 1 - length bytes)) ≡ byte % 16 + 1 = length-filled bytes (byte % 16 + 1) (omega arith) in
    let header : byte / 16 * 16 + (length (bytes ++ zeros (byte % 16 + 1 - length bytes)) - 1) ≡ byte = omega arith in
    cut_short (byte / 16, bytes ++ zeros (byte % 16 + 1 - length bytes)) (zeros (byte % 16 + 1 - length bytes)) (omega arith, omega arith, omega arith, omega arith)
    (λ none. cc) (zeros_some (byte % 16 + 1 - length bytes) (omega arith)) (ap (λ b. b ∷ (bytes ++ zeros (byte % 16 + 1 - length bytes))) header)

pub IsTail-two_byte : (id count : ℕ) (bytes : List ℕ) → 1 ≤ id → id < 256 → count < 256 → length bytes < count → IsTail TwoByte (id ∷ count ∷ bytes)
IsTail-two_byte id count bytes above fits small cut =
    let total : length (bytes ++ zeros (count - length bytes)) ≡ count = length-filled bytes count (omega arith) in
    cut_short (id, bytes ++ zeros (count - length bytes)) (zeros (count - length bytes)) (above, omega arith, omega arith)
    (λ none. cc) (zeros_some (count - length bytes) (omega arith)) (ap (λ n. id ∷ n ∷ (bytes ++ zeros (count - length bytes))) total)

pub IsTail-two_byte_end : (id : ℕ) → 1 ≤ id → id < 256 → IsTail TwoByte (id ∷ [])
IsTail-two_byte_end id above fits = cut_short (id, []) (0 ∷ []) (above, omega arith, omega arith) (λ none. cc) (λ none. cc) refl

IsFound-at : (form : ExtensionsForm) (byte : ℕ) (bytes : List ℕ) → 1 ≤ byte → byte < 256 → AreBytes bytes → IsFound form byte bytes (element_at form byte bytes)
IsFound-at OneByte byte bytes above fits are = elim (cases_lt byte 240) [
  | inr high ↦ subst (IsFound OneByte byte bytes) (sym (one_byte-stops byte bytes high)) (stopped byte bytes refl high refl)
  | inl low ↦ elim (cases_lt (byte % 16) (length bytes)) [
    | inl whole ↦ subst (IsFound OneByte byte bytes) (sym (one_byte-whole byte bytes low whole)) (IsFound-one_byte byte bytes above low whole)
    | inr cut ↦ subst (IsFound OneByte byte bytes) (sym (one_byte-cut byte bytes cut)) (IsTail-one_byte byte bytes above low cut)
  ]
]
IsFound-at TwoByte byte [] above fits are = IsTail-two_byte_end byte above fits
IsFound-at TwoByte byte (count ∷ bytes) above fits are = elim (cases_lt (length bytes) count) [
  | inl cut ↦ subst (IsFound TwoByte byte (count ∷ bytes)) (sym (two_byte-cut byte count bytes cut))
      (IsTail-two_byte byte count bytes above fits (are 0) cut)
  | inr whole ↦ subst (IsFound TwoByte byte (count ∷ bytes)) (sym (two_byte-whole byte count bytes whole)) (
      let total : length (take count bytes) ≡ count = length-take-le count bytes whole in
      let small : count < 256 = are 0 in (
        (above, omega arith, omega arith),
        ap (λ n. byte ∷ n ∷ bytes) (sym total)
            ∙ ap (λ rest. byte ∷ length (take count bytes) ∷ rest) (sym (take-append-drop count bytes)),
      ))
]

AreElements-in_front : (form : ExtensionsForm) (byte : ℕ) (bytes : List ℕ) (found : Option (Element × ℕ)) (after : ℕ → List Element) → IsFound form byte bytes found
    → ((taken : ℕ) → AreElements form (drop taken bytes) (after taken)) → AreElements form (byte ∷ bytes) (in_front found after)
AreElements-in_front form byte bytes None after is are = AreElements-tail form (byte ∷ bytes) is
AreElements-in_front form byte bytes (Some (element, taken)) after is are =
    subst (λ body. AreElements form body (element ∷ after taken)) (sym is.1)
    (AreElements-element form element (drop taken bytes) (after taken) is.0 (are taken))

AreElements-after : (form : ExtensionsForm) (passed : ℕ) (bytes : List ℕ) → AreBytes bytes → AreElements form (drop passed bytes) (elements_after form passed bytes)
unfolding elements_after
AreElements-after form zero [] are = AreElements-tail form [] (ended refl)
AreElements-after form (suc passed) [] are = AreElements-tail form [] (ended refl)
AreElements-after form (suc passed) (byte ∷ bytes) are = AreElements-after form passed bytes (λ i. are (suc i))
AreElements-after form zero (zero ∷ bytes) are =
    AreElements-padding form bytes (elements_after form zero bytes) (AreElements-after form zero bytes (λ i. are (suc i)))
AreElements-after form zero (suc byte ∷ bytes) are =
    AreElements-in_front form (suc byte) bytes (element_at form (suc byte) bytes) (λ taken. elements_after form taken bytes)
    (IsFound-at form (suc byte) bytes (omega arith) (are 0) (λ i. are (suc i)))
    (λ taken. AreElements-after form taken bytes (λ i. are (suc i)))

pub AreElements-found : (form : ExtensionsForm) (body : List ℕ) → ((i : ℕ) → get_or body i 0 < 256) → AreElements form body (elements_left form body)
AreElements-found form body are = AreElements-after form zero body are
