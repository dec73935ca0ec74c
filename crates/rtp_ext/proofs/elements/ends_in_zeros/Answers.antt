use Rattle.rtp_ext.proofs.Common.{◌≡◌, ℕ, List, [], ◌∷◌, length, slice_index_or, nat_eq, zero, suc, refl, arith, ap, sym, ◌∙◌, subst, OnTrue, ne_eqb}
use Rattle.rtp_ext.specs.ElementReading.{without_padding}
use Rattle.rtp_ext.proofs.ElementLemmas.{without_padding-none}
use Rattle.rtp_ext.proofs.elements.ends_in_zeros.Goals as goal

some_byte : (byte : ℕ) (bytes : List ℕ) → OnTrue (nat_eq (suc byte) 0) (length (without_padding bytes) ≡ 0)
some_byte byte bytes = subst (λ b. OnTrue b (length (without_padding bytes) ≡ 0)) (sym (ne_eqb (suc byte) 0 (λ is. omega (arith, is)))) tt

one_zero : (bytes : List ℕ) → length bytes ≡ 1 → OnTrue (nat_eq (slice_index_or bytes 0 0) 0) (length (without_padding bytes) ≡ 0)
unfolding without_padding
one_zero [] one = absurd (omega arith)
one_zero (zero ∷ []) one = refl
one_zero (suc byte ∷ []) one = some_byte byte (suc byte ∷ [])
one_zero (first ∷ second ∷ bytes) one = absurd (omega arith)

two_zeros : (bytes : List ℕ) → length bytes ≡ 2 → slice_index_or bytes 0 0 ≡ 0 → OnTrue (nat_eq (slice_index_or bytes 1 0) 0) (length (without_padding bytes) ≡ 0)
unfolding without_padding
two_zeros [] two is = absurd (omega arith)
two_zeros (first ∷ []) two is = absurd (omega arith)
two_zeros (zero ∷ zero ∷ []) two is = refl
two_zeros (zero ∷ suc byte ∷ []) two is = some_byte byte (zero ∷ suc byte ∷ [])
two_zeros (suc byte ∷ second ∷ []) two is = absurd (omega (arith, is))
two_zeros (first ∷ second ∷ third ∷ bytes) two is = absurd (omega arith)

pub returns-in-empty : goal.returns-in-empty
returns-in-empty c = let none : length c.args.bytes.now ≡ 0 = omega (arith, c.in-empty.len_below) in ap length (without_padding-none c.args.bytes.now none) ∙ none

pub returns-in-len1 : goal.returns-in-len1
returns-in-len1 c = one_zero c.args.bytes.now (omega (arith, c.in-len1.len_at_least, c.in-len1.len_below))

pub returns-then-second-eq0 : goal.returns-then-second-eq0
returns-then-second-eq0 c = two_zeros c.args.bytes.now (omega (arith, c.in-len2.len_at_least, c.in-len2.len_below)) c.if-second-eq0.true
