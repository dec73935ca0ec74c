use Rattle.std.proofs.Common.{arith, ◌≡◌, ◌<◌, ◌≤◌, ℕ, ◌+◌, ◌*◌, ◌/◌, ◌%◌, add-one, List, [], ◌∷◌, ◌++◌, length, take, sym, ap, refl, ◌∙◌, length-take-le, slice_index_or}
use Rattle.std.proofs.Math.Seq.{take-suc}
use Rattle.rtp_base.specs.Overwriting.{overwritten}
use Rattle.rtp_base.proofs.OverwritingLemmas.{overwritten-nil, overwritten-overwritten}
use Rattle.rtp_values.specs.Spelling.{bytes_of_number}
use Rattle.rtp_values.specs.StandardColor.{numbers_data}
use Rattle.rtp_values.proofs.standard.color_space.put_numbers.Goals as goal

numbers-append : (xs ys : List ℕ) → numbers_data (xs ++ ys) ≡ numbers_data xs ++ numbers_data ys
numbers-append [] ys = refl
numbers-append (x ∷ xs) ys = ap (λ (rest : List ℕ). x / 256 % 256 ∷ x / 1 % 256 ∷ rest) (numbers-append xs ys)

length-numbers : (numbers : List ℕ) → length (numbers_data numbers) ≡ 2 * length numbers
length-numbers [] = refl
length-numbers (x ∷ xs) = omega (arith, length-numbers xs)

numbers-next : (numbers : List ℕ) (i : ℕ) → i < length numbers
    → numbers_data (take (i + 1) numbers) ≡ numbers_data (take i numbers) ++ bytes_of_number 2 (slice_index_or numbers i 0)
numbers-next numbers i within =
    let next : take (i + 1) numbers ≡ take i numbers ++ (slice_index_or numbers i 0 ∷ []) = rw add-one (take-suc numbers i 0 within) in
    ap numbers_data next ∙ numbers-append (take i numbers) (slice_index_or numbers i 0 ∷ [])

put-next : (buf mid new numbers bytes : List ℕ) (at end i : ℕ) → i < length numbers → at + 2 * length numbers ≤ length buf
    → mid ≡ overwritten buf at (numbers_data (take i numbers)) → end ≡ at + 2 * i → bytes ≡ bytes_of_number 2 (slice_index_or numbers i 0)
    → new ≡ overwritten mid end bytes → new ≡ overwritten buf at (numbers_data (take (i + 1) numbers))
put-next buf mid new numbers bytes at end i within room mid-is end-is bytes-are put =
    let front = numbers_data (take i numbers) in
    let number = bytes_of_number 2 (slice_index_or numbers i 0) in
    let len : length front ≡ 2 * i = length-numbers (take i numbers) ∙ ap (λ (n : ℕ). 2 * n) (length-take-le i numbers (omega arith)) in
    let next : overwritten mid end bytes ≡ overwritten (overwritten buf at front) end number = rw (mid-is, bytes-are) refl in
    put ∙ next ∙ overwritten-overwritten buf front number at end (omega (arith, len)) (omega arith) ∙ ap (overwritten buf at) (sym (numbers-next numbers i within))

pub loop-number-init : goal.loop-number-init
loop-number-init c = record { written = sym (overwritten-nil _ _); here = omega arith }

pub loop-number-preserved : goal.loop-number-preserved
loop-number-preserved c = record {
  written = put-next c.args.buf.now c.loop-number.buf c.put-end.new.buf c.args.numbers.now c.u16_bytes.result c.args.at c.loop-number.end c.loop-number.number-index
      c.loop-number-test.true c.requires c.loop-number.invariant.written c.loop-number.invariant.here c.u16_bytes.ensures.bytes c.put-end.ensures.written;
  here = omega (arith, ap length c.u16_bytes.ensures.bytes);
}
