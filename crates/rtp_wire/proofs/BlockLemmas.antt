-- Words of two bytes, and parts of a list of bytes.
use Rattle.rtp_wire.proofs.Common.{◌≡◌, ℕ, ◌+◌, ◌-◌, ◌*◌, ◌<◌, ◌≤◌, List, take, drop, get_or, sym, ap, ◌∙◌, arith, length-take, add-zero, inl, inr, slice_index, slice_range, cases_lt, get_or-take, get_or-drop, get_or_past, drop-take, take-take, w16, from_be_bytes, word_at}

-- a part of a front is that part of the whole
pub slice_range-take : (xs : List ℕ) (a b n : ℕ) → a ≤ b → b ≤ n → slice_range (take n xs) a b ≡ slice_range xs a b
slice_range-take xs a b n le fits =
    let e : n ≡ a + (n - a) = omega arith in
    let kept : drop a (take n xs) ≡ take (n - a) (drop a xs) =
    ap (λ (k : ℕ). drop a (take k xs)) e ∙ drop-take a (n - a) xs in
    ap (λ (ys : List ℕ). take (b - a) ys) kept ∙ take-take (b - a) (n - a) (drop a xs) (omega arith)

-- a word by its two bytes
pub word_at-cells : (bytes : List ℕ) (offset : ℕ) → word_at bytes offset ≡ slice_index bytes offset * 256 + slice_index bytes (offset + 1)
word_at-cells bytes offset =
    let two : offset + 2 - offset ≡ 2 = omega arith in
    rw (two, get_or-take 2 (drop offset bytes) 0 0 (omega arith), get_or-take 2 (drop offset bytes) 1 0 (omega arith), get_or-drop offset bytes 0 0, get_or-drop offset bytes 1 0, add-zero offset) (omega arith)

pub word_at-take : (bytes : List ℕ) (offset n : ℕ) → offset + 2 ≤ n → word_at (take n bytes) offset ≡ word_at bytes offset
word_at-take bytes offset n fits =
    ap (from_be_bytes w16) (slice_range-take bytes offset (offset + 2) n (omega arith) fits)

-- a word of the first four bytes
pub header_word : (bytes header : List ℕ) (offset : ℕ) → header ≡ take 4 bytes → offset + 1 < 4 → get_or header offset 0 * 256 + get_or header (offset + 1) 0 ≡ word_at bytes offset
header_word bytes header offset is within =
    sym (word_at-cells header offset) ∙ ap (λ (xs : List ℕ). word_at xs offset) is ∙ word_at-take bytes offset 4 (omega arith)

-- bytes of a part are bytes
pub bytes-slice_range : (xs : List ℕ) (a b : ℕ) → ((i : ℕ) → get_or xs i 0 < 256) → (i : ℕ) → slice_index (slice_range xs a b) i < 256
bytes-slice_range xs a b fits i = elim (cases_lt i (b - a)) [
  | inl within ↦ rw (get_or-take (b - a) (drop a xs) i 0 within, get_or-drop a xs i 0) (fits (a + i))
  | inr past ↦ rw (get_or_past (slice_range xs a b) i 0 (omega (arith, length-take (b - a) (drop a xs)))) (omega arith)
]
