-- The bytes of a text that are looked at sixteen at a time.
use Rattle.std.proofs.Common.{◌≡◌, ℕ, ◌+◌, ◌%◌, ◌^◌, ◌<◌, ◌≤◌, Bool, true, not, ◌||◌, eqb, cond, List, ◌∷◌, map, length, get_or, Fits, w8, w64, sym, ap, ◌∙◌, subst, arith}
use Rattle.std.specs.List.{prefix_len}
use Rattle.std.specs.Int.{trailing_zeros}
use Rattle.std.specs.Char.{is_ascii_alphanumeric}
use Rattle.std.proofs.lemmas.Bool.{agree_below, agree_below_at, not-true, not-false, false≢true}
use Rattle.std.proofs.lemmas.Simd.{map-map, mask_l-mod, length-chunk, first_set_mask_l, run_in_chunk_le, run_in_chunk_fails, run_in_chunk_stops}
use Rattle.std.proofs.lemmas.List.{length-map, get_or-take, get_or_default, get_or_append_left, length-take-le}
use lib.Lanes.{chunk, mask_l, top}
use Rattle.rtp_base.specs.Id.{IsIdByte}
use Rattle.rtp_c.specs.Given.{IsTextIn, text_in}
use Rattle.rtp_c.proofs.GivenLemmas.{IsFirstZero, IsTextIn-first, zero-no_id_byte}
use Rattle.rtp_c.proofs.GivenValuesLemmas.{text_in-first, IsFirstZero-text}

-- the test of an id's byte
abbrev pub is_id_byte : ℕ → Bool
is_id_byte b = is_ascii_alphanumeric b || eqb b 95

module _ (bytes : List ℕ) (r : ℕ) (z : List ℕ) (room : 16 ≤ length bytes) (fits : (k : ℕ) → Fits w8 (get_or bytes k 0))
    (found : r ≡ cond (eqb (mask_l (map (top 7) z) % 2 ^ 64) 0) 16 (trailing_zeros w64 (mask_l (map (top 7) z) % 2 ^ 64)))
    (f : ℕ → ℕ) (lanes : z ≡ map f (chunk 0 16 bytes)) (all : agree_below (λ x. top 7 (f x)) (λ x. not (is_id_byte x)) 256 ≡ true) where
  abbrev stops : ℕ → Bool
  stops x = top 7 (f x)

  counted : r ≡ prefix_len (λ x. not (stops x)) (chunk 0 16 bytes)
  counted =
      let v = chunk 0 16 bytes in
      let long : length v ≡ 16 = length-chunk 0 16 bytes room in
      let mask : (mask_l (map (top 7) z) % 2 ^ 64) ≡ mask_l (map stops v) =
      ap (λ l. mask_l l % 2 ^ 64) (ap (map (top 7)) lanes ∙ map-map (top 7) f v) ∙ mask_l-mod (map stops v) 64 (omega (arith, length-map v stops, long)) in
      found ∙ ap (λ (m : ℕ). cond (eqb m 0) 16 (trailing_zeros w64 m)) mask ∙ first_set_mask_l stops v 16 long (omega arith)

  pub few_in_front : r ≤ 16
  few_in_front = run_in_chunk_le stops bytes 0 16 r 0 room counted

  pub before_in_front : (k : ℕ) → k < r → IsIdByte (get_or bytes k 0)
  before_in_front k below =
      not-false _ (sym (agree_below_at stops (λ x. not (is_id_byte x)) 256 (get_or bytes k 0) all (fits k).fits)
      ∙ run_in_chunk_fails stops bytes 0 16 r 0 room counted k (omega arith) (omega (arith, below)))

  pub stops_in_front : r < 16 → IsIdByte (get_or bytes r 0) → ⊥
  stops_in_front short is =
      let here : 0 + r ≡ r = omega arith in
      let set = subst (λ (k : ℕ). stops (get_or bytes k 0) ≡ true) here (run_in_chunk_stops stops bytes 0 16 r 0 room counted short) in
      false≢true (sym (not-true _ (sym (agree_below_at stops (λ x. not (is_id_byte x)) 256 (get_or bytes r 0) all (fits r).fits) ∙ set)) ∙ is)

-- ---- the text of a tag, where its bytes go on up to a zero

-- a byte within the first ones, whatever stands for a byte that isn't there
within : (bytes : List ℕ) (k d : ℕ) → k < length bytes → IsIdByte (get_or bytes k 0) → IsIdByte (get_or bytes k d)
within bytes k d below is = subst IsIdByte (get_or_default bytes k 0 d below) is

module _ (bytes : List ℕ) (run : ℕ) (long : length bytes ≡ 17) (few : run ≤ 16) (before : (k : ℕ) → k < run → IsIdByte (get_or bytes k 0))
    (stops : run < 16 → IsIdByte (get_or bytes run 0) → ⊥) where
  first : get_or bytes run 0 ≡ 0 → IsFirstZero bytes run
  first zero = record {
    within = omega (arith, few, long);
    zero = zero;
    before = λ k below none. zero-no_id_byte (get_or bytes k 0) none (before k below);
  }

  pub text-zero : get_or bytes run 0 ≡ 0 → IsTextIn bytes (text_in bytes)
  text-zero zero =
      subst (IsTextIn bytes) (sym (text_in-first bytes run (first zero)))
      (IsTextIn-first bytes run (first zero) (λ k d below.
      let here : k < run = omega (arith, below, length-take-le run bytes (omega (arith, few, long))) in
      subst IsIdByte (sym (get_or-take run bytes k d here)) (within bytes k d (omega (arith, here, few, long)) (before k here))))

  pub zero-text : IsTextIn bytes (text_in bytes) → get_or bytes run 0 ≡ 0
  zero-text is =
      let text = text_in bytes in
      let end = IsFirstZero-text bytes text is in
      let not_later : length text < run → ⊥ = λ lt. zero-no_id_byte (get_or bytes (length text) 0) end.zero (before (length text) lt) in
      let not_sooner : run < length text → ⊥ = λ lt.
      stops (omega (arith, lt, end.within, long))
      (subst IsIdByte (sym (ap (λ (xs : List ℕ). get_or xs run 0) is.bytes_are ∙ get_or_append_left text (0 ∷ is.after) 0 run lt)) (is.text_is run 0 lt)) in
      let same : length text ≡ run = omega (arith, not_later, not_sooner) in
      ap (λ (k : ℕ). get_or bytes k 0) (sym same) ∙ end.zero
