-- Which lines are hexadecimal.
use Rattle.std.proofs.Common.{◌≡◌, ℕ, ◌%◌, ◌/◌, ◌+◌, ◌*◌, ◌^◌, ◌<◌, ◌≤◌, List, length, take, drop, Result, Ok, Err, true, get_or, below_more, ◌-◌, min, bit_or, refl, sym, ap, ◌∙◌, arith, bit_and}
use Rattle.std.specs.Prelude.{IsOk, Some}
use Rattle.std.specs.List.{All}
use Rattle.std.specs.Char.{IsAsciiHexdigit}
use Rattle.std.proofs.lemmas.Grind.{common_steps}
use Rattle.std.proofs.lemmas.Nat.{and_block, and_mask, le_or_l, le_or_r}
use Rattle.std.specs.Int.Bits.{or_zero_l}
use Rattle.std.proofs.lemmas.List.{length-take-le, take_all}
use Rattle.hex.specs.Hex.{decode_of, decode_pairs, hex_digit_value, is_hex_digit, pair_value}
use Rattle.hex.specs.declared.error.FromHexError.{FromHexError}
use Rattle.hex.proofs.HexLemmas.{decode_of-ok, decode_of-digits}
use Rattle.hex.proofs.Pairs.{prepend, decode_done}

-- the two tests of a digit agree
passes : (c : ℕ) → IsAsciiHexdigit c → is_hex_digit c ≡ true
passes c digit = grind (arith, common_steps)

is_digit : (c : ℕ) → is_hex_digit c ≡ true → IsAsciiHexdigit c
is_digit c pass = grind (arith, common_steps)

-- the bytes of a line that decodes
pub value : (r : Result (List ℕ) FromHexError) → IsOk r → (bytes : List ℕ) × (r ≡ Ok bytes)
value (Ok bytes) ok = (bytes, refl)
value (Err e) ok = cc ok

-- a line of an even number of digits decodes
pub IsOk-digits : (line : List ℕ) → length line % 2 ≡ 0 → All IsAsciiHexdigit line → IsOk (decode_of line)
IsOk-digits line even digits =
    let decoded = decode_of-digits line even (λ k d lt. passes _ (digits k d lt)) in
    rw decoded.1 refl

-- and no other does
pub digits_from_ok : (line : List ℕ) → IsOk (decode_of line) → (length line % 2 ≡ 0) × All IsAsciiHexdigit line
digits_from_ok line ok =
    let bytes = value (decode_of line) ok in
    let digits = decode_of-ok line bytes.0 bytes.1 in
    (digits.0, λ k d lt. is_digit _ (digits.1 k d lt))

-- the value of a digit
digit_value : (c : ℕ) → IsAsciiHexdigit c → (hex_digit_value c ≡ Some (c % 16 + c / 64 * 9)) × (c % 16 + c / 64 * 9 < 16) × (c < 128)
digit_value c digit = (grind (arith, common_steps), grind (arith, common_steps), grind (arith, common_steps))

-- the masks take the parts of each byte by itself
low_bits : (high low : ℕ) → high < 256 → bit_and (high + low * 256) 3855 ≡ low % 16 * 256 + high % 16
low_bits high low small =
    ap (λ (n : ℕ). bit_and n 3855) (omega arith) ∙ and_block 8 low 15 high 15 (omega arith) (omega arith)
    ∙ ap (λ (n : ℕ). n * 2 ^ 8 + bit_and high 15) (and_mask low 4) ∙ ap (λ (n : ℕ). low % 16 * 256 + n) (and_mask high 4)

sixth_bits : (high low : ℕ) → high < 128 → low < 128 → bit_and ((high + low * 256) / 64) 257 ≡ low / 64 * 256 + high / 64
sixth_bits high low few small =
    ap (λ (n : ℕ). bit_and n 257) (omega arith) ∙ and_block 8 (low / 64) 1 (low % 64 * 4 + high / 64) 1 (omega arith) (omega arith)
    ∙ ap (λ (n : ℕ). n * 2 ^ 8 + bit_and (low % 64 * 4 + high / 64) 1) (and_mask (low / 64) 1)
    ∙ ap (λ (n : ℕ). low / 64 % 2 * 256 + n) (and_mask (low % 64 * 4 + high / 64) 1) ∙ omega arith

-- the byte of two values
pub pair_of : (high low i h l : ℕ) → hex_digit_value high ≡ Some h → hex_digit_value low ≡ Some l → pair_value high low i ≡ Ok (h * 16 + l)
pair_of high low i h l first second = rw (first, second) refl

-- the byte of two digits
pub byte_is : (high low : ℕ) → IsAsciiHexdigit high → IsAsciiHexdigit low → (values : ℕ) → values ≡ bit_and (high + low * 256) 3855 + bit_and ((high + low * 256) / 64) 257 * 9
    → (values < 2 ^ 16) × ((index : ℕ) → pair_value high low index ≡ Ok (values * 4097 % 2 ^ 16 / 256))
byte_is high low first second values are =
    let h = digit_value high first in
    let l = digit_value low second in
    let both : values ≡ (low % 16 + low / 64 * 9) * 256 + (high % 16 + high / 64 * 9) =
    are ∙ ap (λ (n : ℕ). n + bit_and ((high + low * 256) / 64) 257 * 9) (low_bits high low (omega arith))
    ∙ ap (λ (n : ℕ). low % 16 * 256 + high % 16 + n * 9) (sixth_bits high low h.2 l.2) ∙ omega arith in
    let byte : values * 4097 % 2 ^ 16 / 256 ≡ (high % 16 + high / 64 * 9) * 16 + (low % 16 + low / 64 * 9) = omega arith in
    (omega arith, λ index. pair_of high low index (high % 16 + high / 64 * 9) (low % 16 + low / 64 * 9) h.0 l.0 ∙ ap Ok (sym byte))

-- the bytes of all digits, at the front of a longer list
pub decoded_front : (s out : List ℕ) (i : ℕ) → i ≤ length out → length s ≤ 2 * i → decode_pairs 0 s ≡ prepend (take i out) (decode_pairs (2 * i) (drop (2 * i) s))
    → decode_pairs 0 s ≡ Ok (take i out)
decoded_front s out i room fits inv =
    let long : length (take i out) ≡ i = length-take-le i out room in
    let same : take i (take i out) ≡ take i out = take_all i (take i out) (omega arith) in
    decode_done s (take i out) i (omega arith) fits (rw same inv)

-- letters of either case are those of one
one_case : (c : ℕ) → c < 256 → bit_and c 223 ≡ c / 64 * 64 + c % 32
one_case c small =
    ap (λ (n : ℕ). bit_and n 223) (omega arith) ∙ and_block 6 (c / 64) 3 (c % 64) 31 (omega arith) (omega arith)
    ∙ ap (λ (n : ℕ). n * 2 ^ 6 + bit_and (c % 64) 31) (and_mask (c / 64) 2) ∙ ap (λ (n : ℕ). c / 64 % 4 * 64 + n) (and_mask (c % 64) 5) ∙ omega arith

-- a byte that is past neither the digits nor the letters is a digit
near_digit : (c : ℕ) → c < 256 → min ((c + 208) % 256 - 9) ((bit_and c 223 + 191) % 256 - 5) ≡ 0 → IsAsciiHexdigit c
near_digit c small near = let same = one_case c small in grind (arith, common_steps)

digit_near : (c : ℕ) → c < 256 → IsAsciiHexdigit c → min ((c + 208) % 256 - 9) ((bit_and c 223 + 191) % 256 - 5) ≡ 0
digit_near c small digit = let same = one_case c small in grind (arith, common_steps)

-- whether all of the first bytes are digits
pub record AreDigits (line : List ℕ) (count past : ℕ) : Type 0 where
  pub sound : past ≡ 0 → (k : ℕ) → k < count → IsAsciiHexdigit (get_or line k 0)
  pub complete : ((k : ℕ) → k < count → IsAsciiHexdigit (get_or line k 0)) → past ≡ 0

pub AreDigits-none : (line : List ℕ) → AreDigits line 0 0
AreDigits-none line = record { sound = λ all k below. absurd (omega arith); complete = λ each. refl }

pub AreDigits-more : (line : List ℕ) (count past here : ℕ) → get_or line count 0 < 256
    → here ≡ min ((get_or line count 0 + 208) % 256 - 9) ((bit_and (get_or line count 0) 223 + 191) % 256 - 5) → AreDigits line count past → AreDigits line (count + 1) (bit_or past here)
AreDigits-more line count past here small here_is so_far = record {
  sound = λ all.
      below_more (λ k. IsAsciiHexdigit (get_or line k 0)) count (so_far.sound (omega (arith, all, le_or_l past here)))
      (near_digit _ small (sym here_is ∙ omega (arith, all, le_or_r past here)));
  complete = λ each.
      ap (λ (n : ℕ). bit_or n here) (so_far.complete (λ k lower. each k (omega arith))) ∙ or_zero_l here ∙ here_is ∙ digit_near _ small (each count (omega arith));
}
