-- Padding: its length in whole blocks, its bytes put into a buffer and cut off, and the bit that announces it.
use Rattle.rtp_wire.proofs.Common.{◌≡◌, ℕ, zero, suc, Bool, true, false, subst, ◌+◌, ◌-◌, ◌*◌, ◌/◌, ◌%◌, ◌<◌, ◌≤◌, List, [], ◌∷◌, length, take, drop, replicate, min, max, set, get_or, bit_or, refl, sym, ap, ◌∙◌, inl, inr, arith, length-drop, slice_index, mul-le-mul_right, suc-mul, cases_lt, length-replicate, take-append-drop, div-add-mod', and_le_r, or_disjoint, or_shr, or_mod, bit_at_or, length-overwritten, overwritten-overwritten, overwritten-set, IsFirstByte, padding_bytes, with_padding_bit, padding_count, IsInBlocks, IsPaddingLength, IsUnpadded}
use Rattle.rtp_base.specs.Overwriting.{overwritten}

-- ---- the length

-- of a multiple of the block size that is near enough
pub IsPaddingLength-near : (len block whole count : ℕ) → whole % block ≡ 0 → len ≤ whole → whole < len + block → count ≡ min whole 240 → IsPaddingLength len block count
IsPaddingLength-near len block whole count multiple enough least lesser = record {
  whole = whole;
  in_blocks = record {
    blocks = whole / block;
    multiple = omega (arith, div-add-mod' whole block);
    enough = enough;
    least = least;
  };
  lesser = lesser;
}

-- of blocks that are longer than 240
pub IsPaddingLength-beyond : (len block : ℕ) → 1 ≤ len → len ≤ 255 → 240 < block → IsPaddingLength len block 240
IsPaddingLength-beyond len block some few long =
    let in_blocks : (whole : ℕ) × (IsInBlocks len block whole × (240 ≤ whole)) =
    elim (cases_lt block len) [
      | inl more ↦ (2 * block, (record { blocks = 2; multiple = refl; enough = omega arith; least = omega arith }, omega arith))
      | inr one ↦ (1 * block, (record { blocks = 1; multiple = refl; enough = omega arith; least = omega arith }, omega arith))
    ] in
    record { whole = in_blocks.0; in_blocks = in_blocks.1.0; lesser = omega (arith, in_blocks.1.1) }

-- no number of whole blocks that is the least is above another
IsInBlocks-le : (len block a b : ℕ) → IsInBlocks len block a → IsInBlocks len block b → a ≤ b
IsInBlocks-le len block a b first second =
    elim (cases_lt second.blocks first.blocks) [
      | inl more ↦
          let next : suc second.blocks * block ≤ first.blocks * block = mul-le-mul_right block more in
          absurd (omega (arith, suc-mul second.blocks block, next, first.multiple, first.least, second.multiple, second.enough))
      | inr few ↦
          let same : first.blocks * block ≤ second.blocks * block = mul-le-mul_right block few in
          omega (arith, same, first.multiple, second.multiple)
    ]

-- there is one
pub IsPaddingLength-once : (len block a b : ℕ) → IsPaddingLength len block a → IsPaddingLength len block b → a ≡ b
IsPaddingLength-once len block a b first second =
    let below = IsInBlocks-le len block first.whole second.whole first.in_blocks second.in_blocks in
    let above = IsInBlocks-le len block second.whole first.whole second.in_blocks first.in_blocks in
    omega (arith, below, above, first.lesser, second.lesser)

-- ---- the bytes

-- the count is put in the last of the zeros' places
pub overwritten-padding : (buf : List ℕ) (at count last : ℕ) → 1 ≤ count → at + count ≤ length buf → last ≡ at + (count - 1)
    → set (overwritten buf at (replicate (count - 1) 0)) last count ≡ overwritten buf at (padding_bytes count)
overwritten-padding buf at count last some room is =
    let zeros : List ℕ = replicate (count - 1) 0 in
    let many : length zeros ≡ count - 1 = length-replicate (count - 1) 0 in
    let long = length-overwritten buf zeros at (omega arith) in
    overwritten-set (overwritten buf at zeros) last count (omega arith)
    ∙ overwritten-overwritten buf zeros (count ∷ []) at last (omega arith) (omega arith)

-- as many bytes are cut off as the last one announces
pub IsUnpadded-cut : (bytes : List ℕ) (len : ℕ) → padding_count bytes ≤ length bytes → len ≡ length bytes - padding_count bytes → IsUnpadded bytes (take len bytes)
IsUnpadded-cut bytes len enough is = record {
  padding = drop len bytes;
  in_order = sym (take-append-drop len bytes);
  counted = omega (arith, length-drop len bytes);
}

-- ---- the bit

pub or-zero : (n : ℕ) → bit_or n 0 ≡ n
or-zero n = or_disjoint n 0 (omega (arith, and_le_r n 0)) ∙ omega arith

-- the bit is set in its place, and the others stay
or-padding_bit : (byte : ℕ) → bit_or byte 32 ≡ byte / 64 * 64 + 32 + byte % 32
or-padding_bit byte =
    let high : bit_or byte 32 / 64 ≡ byte / 64 = or_shr byte 32 6 ∙ or-zero (byte / 64) in
    let here : bit_or byte 32 / 32 % 2 ≡ max (byte / 32 % 2) 1 = bit_at_or byte 32 5 in
    let low : bit_or byte 32 % 32 ≡ byte % 32 = or_mod byte 32 5 ∙ or-zero (byte % 32) in
    omega (arith, high, here, low)

pub set-padding_bit : (buf : List ℕ) → 1 ≤ length buf → set buf 0 (bit_or (get_or buf 0 0) 32) ≡ with_padding_bit buf
set-padding_bit [] none = absurd (omega arith)
set-padding_bit (first ∷ rest) some = ap (λ (byte : ℕ). byte ∷ rest) (or-padding_bit first)

-- a first byte of version 2 then announces padding
IsFirstByte-announced : (byte : ℕ) (padding extension : Bool) (count : ℕ) → IsFirstByte byte padding extension count → IsFirstByte (byte / 64 * 64 + 32 + byte % 32) true extension count
IsFirstByte-announced byte false false count is = let sum = is.sum in let few = is.few in record { sum = omega arith; few = omega arith }
IsFirstByte-announced byte false true count is = let sum = is.sum in let few = is.few in record { sum = omega arith; few = omega arith }
IsFirstByte-announced byte true false count is = let sum = is.sum in let few = is.few in record { sum = omega arith; few = omega arith }
IsFirstByte-announced byte true true count is = let sum = is.sum in let few = is.few in record { sum = omega arith; few = omega arith }

-- also where bytes are put after it
pub with_padding_bit-announced : (buf new bytes : List ℕ) (at : ℕ) (padding extension : Bool) (count : ℕ) → 1 ≤ length buf → 1 ≤ at
    → new ≡ overwritten (with_padding_bit buf) at bytes → IsFirstByte (slice_index buf 0) padding extension count → IsFirstByte (slice_index new 0) true extension count
unfolding overwritten
with_padding_bit-announced [] new bytes at padding extension count none after is first = absurd (omega arith)
with_padding_bit-announced (byte ∷ rest) new bytes zero padding extension count some none is first = absurd (omega arith)
with_padding_bit-announced (byte ∷ rest) new bytes (suc at) padding extension count some after is first =
    subst (λ (b : ℕ). IsFirstByte b true extension count) (sym (ap (λ (xs : List ℕ). slice_index xs 0) is)) (IsFirstByte-announced byte padding extension count first)

-- a first byte of version 2 that announces padding has the bit
announced-byte : (byte : ℕ) (extension : Bool) (count : ℕ) → IsFirstByte byte true extension count → byte / 64 * 64 + 32 + byte % 32 ≡ byte
announced-byte byte false count is = let sum = is.sum in let few = is.few in omega arith
announced-byte byte true count is = let sum = is.sum in let few = is.few in omega arith

-- so the packet stays as it is
pub with_padding_bit-same : (buf : List ℕ) (extension : Bool) (count : ℕ) → IsFirstByte (slice_index buf 0) true extension count → with_padding_bit buf ≡ buf
with_padding_bit-same [] extension count first = refl
with_padding_bit-same (byte ∷ rest) extension count first = ap (λ (b : ℕ). b ∷ rest) (announced-byte byte extension count first)
