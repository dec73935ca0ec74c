-- A block as it is put into a buffer, and that it is a block.
use Rattle.rtp_wire.proofs.Common.{◌≡◌, ℕ, ◌+◌, ◌-◌, ◌/◌, ◌%◌, ◌<◌, ◌≤◌, List, ◌++◌, length, take, drop, replicate, refl, sym, ap, ◌∙◌, arith, length-append, true, Some, w16, to_be_bytes, length-replicate, from_be_bytes-to_be_bytes_2, ExtensionsForm, OneByte, TwoByte, ExtensionValues, Slots, form_word, AreElements, elements_bytes, AreValues, no_values, IsBlock, IsExtensionPart, overwritten, written_elements, padding_of, filled, block_of, image_values, overwritten-overwritten, overwritten-before, overwritten-front, overwritten-rest, length-overwritten}
use Rattle.rtp_wire.specs.WrittenInForm.{block_bytes_in}

pub length-filled : (row : List ℕ) (n : ℕ) → n ≡ length row → length (filled row) ≡ n + padding_of n
length-filled row n is =
    length-append row (replicate (padding_of (length row)) 0)
    ∙ ap (λ (k : ℕ). length row + k) (length-replicate (padding_of (length row)) 0)
    ∙ ap (λ (k : ℕ). k + padding_of k) (sym is)

pub length-block_of : (form : ExtensionsForm) (row : List ℕ) (n : ℕ) → n ≡ length row → length (block_of form (filled row)) ≡ 4 + (n + padding_of n)
length-block_of form row n is = omega (arith, length-filled row n is)

pub length-block : (form : ExtensionsForm) (exts : Slots) (values : ExtensionValues) (n : ℕ) → n ≡ length (elements_bytes form (written_elements exts values))
    → length (block_bytes_in form exts values) ≡ 4 + (n + padding_of n)
unfolding block_bytes_in
length-block form exts values n is = length-block_of form (elements_bytes form (written_elements exts values)) n is

-- whole words after the four bytes of the form's word and their number
pub IsBlock-made : (form : ExtensionsForm) (row : List ℕ) → length row ≤ 262140 → IsBlock (block_of form (filled row)) form (filled row)
IsBlock-made form row few = by_form form (filled row) (omega (arith, length-filled row (length row) refl)) (omega (arith, length-filled row (length row) refl))
  where
    by_form : (form : ExtensionsForm) (body : List ℕ) → length body % 4 ≡ 0 → length body < 262144 → IsBlock (block_of form body) form body
    by_form OneByte body whole fits = record {
      form_is = refl;
      words = let number = from_be_bytes-to_be_bytes_2 (length body / 4) (omega arith) in omega arith;
      body_is = refl;
    }
    by_form TwoByte body whole fits = record {
      form_is = (omega arith, omega arith);
      words = let number = from_be_bytes-to_be_bytes_2 (length body / 4) (omega arith) in omega arith;
      body_is = refl;
    }

-- what is written is read as the image of the values
pub IsExtensionPart-written : (form : ExtensionsForm) (exts : Slots) (values : ExtensionValues) (n : ℕ) → n ≡ length (elements_bytes form (written_elements exts values)) → n ≤ 65535
    → ((zeros : ℕ) → AreElements form (elements_bytes form (written_elements exts values) ++ replicate zeros 0) (written_elements exts values))
    → AreValues exts (written_elements exts values) no_values (image_values exts values)
    → IsExtensionPart exts true (block_bytes_in form exts values) (image_values exts values)
unfolding block_bytes_in
IsExtensionPart-written form exts values n is few elements are_values =
    let row = elements_bytes form (written_elements exts values) in record {
      block = Some (form, filled row);
      is_part = IsBlock-made form row (omega arith);
      has_values = record { elements = written_elements exts values; are_elements = elements (padding_of (length row)); are_values = are_values };
    }

-- the elements, the zeros after them and the header in front of them
pub block-put : (row buf one two three header : List ℕ) (form : ExtensionsForm) (n len : ℕ) → n ≡ length row → 4 + (n + padding_of n) ≤ length buf
    → one ≡ overwritten buf 4 row → two ≡ overwritten one (4 + n) (replicate (padding_of n) 0) → len ≡ 4 + n + padding_of n
    → header ≡ to_be_bytes w16 (form_word form) ++ to_be_bytes w16 ((n + padding_of n) / 4)
    → three ≡ overwritten two 0 header → three ≡ block_of form (filled row) ++ drop len buf
block-put row buf one two three header form n len is room one-is two-is len-is header-is three-is =
    let zeros : List ℕ = replicate (padding_of n) 0 in
    let body : List ℕ = filled row in
    let body-is : row ++ zeros ≡ body = ap (λ (k : ℕ). row ++ replicate (padding_of k) 0) is in
    let size : length body ≡ n + padding_of n = length-filled row n is in
    let made : header ≡ to_be_bytes w16 (form_word form) ++ to_be_bytes w16 (length body / 4) =
    header-is ∙ ap (λ (k : ℕ). to_be_bytes w16 (form_word form) ++ to_be_bytes w16 (k / 4)) (sym size) in
    let four : length header ≡ 4 = ap length made in
    let joined : two ≡ overwritten buf (length header) body =
    two-is ∙ ap (λ (xs : List ℕ). overwritten xs (4 + n) zeros) one-is
    ∙ overwritten-overwritten buf row zeros 4 (4 + n) (omega (arith, is)) (omega arith)
    ∙ ap (overwritten buf 4) body-is ∙ ap (λ (k : ℕ). overwritten buf k body) (sym four) in
    three-is ∙ ap (λ (xs : List ℕ). overwritten xs 0 header) joined
    ∙ overwritten-before buf header body 0 (length header) (omega arith) (omega (arith, size))
    ∙ overwritten-front buf (header ++ body)
    ∙ ap (λ (k : ℕ). (header ++ body) ++ drop k buf) (omega (arith, length-append header body, size))
    ∙ ap (λ (xs : List ℕ). (xs ++ body) ++ drop len buf) made

-- the elements put after the first four bytes
pub record IsRowPut (row buf one : List ℕ) (n : ℕ) : Type 0 where
  pub put : one ≡ overwritten buf 4 row
  pub long : length one ≡ length buf

pub row-put : (row buf new : List ℕ) (n : ℕ) → n ≡ length row → new ≡ row ++ drop n (take (length buf - 4) (drop 4 buf)) → 4 + length row ≤ length buf
    → IsRowPut row buf (take 4 buf ++ (new ++ drop (length buf - 4) (drop 4 buf))) n
row-put row buf new n len new-is fits =
    let put : take 4 buf ++ (new ++ drop (length buf - 4) (drop 4 buf)) ≡ overwritten buf 4 row =
    overwritten-rest buf new row 4 fits (new-is ∙ ap (λ (k : ℕ). row ++ drop k (take (length buf - 4) (drop 4 buf))) len) in
    record { put = put; long = ap length put ∙ length-overwritten buf row 4 fits }

-- the block of the values in the form
pub block_bytes_in-closed : (form : ExtensionsForm) (exts : Slots) (values : ExtensionValues) (new rest : List ℕ)
    → new ≡ block_of form (filled (elements_bytes form (written_elements exts values))) ++ rest → new ≡ block_bytes_in form exts values ++ rest
unfolding block_bytes_in
block_bytes_in-closed form exts values new rest is = is
