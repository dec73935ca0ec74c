-- Flags of a byte, tested by a mask.
use Rattle.rtp_wire.proofs.Common.{◌≡◌, ℕ, zero, suc, ◌*◌, ◌/◌, ◌%◌, ◌^◌, ◌<◌, Bool, true, false, nat_eq, bit_and, refl, ap, ◌∙◌, arith, zero-mul, one-mul, ne_eqb, pow_pos, and_pow, bit_at-lt, bit, IsFirstByte, IsSecondByte}
use Rattle.std.proofs.Math.Bool.{not}

-- one digit of base 2, by its test
bit-digit : (digit worth : ℕ) → digit < 2 → 0 < worth → bit (not (nat_eq (digit * worth) 0)) ≡ digit
bit-digit zero worth small above = rw (zero-mul worth) refl
bit-digit (suc zero) worth small above = rw (one-mul worth, ne_eqb worth 0 (λ e. absurd (omega arith))) refl
bit-digit (suc (suc digit)) worth small above = absurd (omega arith)

-- a test by a mask of one bit gives that bit
pub bit-mask : (n k : ℕ) → bit (not (nat_eq (bit_and n (2 ^ k)) 0)) ≡ n / 2 ^ k % 2
bit-mask n k = ap (λ m. bit (not (nat_eq m 0))) (and_pow n k) ∙ bit-digit (n / 2 ^ k % 2) (2 ^ k) (bit_at-lt n k) (pow_pos k)

-- a bit is one flag's
pub bit-once : (a b : Bool) → bit a ≡ bit b → a ≡ b
bit-once false false e = refl
bit-once false true e = absurd (omega arith)
bit-once true false e = absurd (omega arith)
bit-once true true e = refl

-- the fields of a first byte, from the byte
pub record HasFlags (byte : ℕ) (padding extension : Bool) (count : ℕ) : Type 0 where
  pub version_is : byte / 64 ≡ 2
  pub padding_is : bit padding ≡ byte / 32 % 2
  pub extension_is : bit extension ≡ byte / 16 % 2
  pub count_is : count ≡ byte % 16

pub flags_from_first : (byte : ℕ) (padding extension : Bool) (count : ℕ) → IsFirstByte byte padding extension count → HasFlags byte padding extension count
flags_from_first byte false false count is = let sum = is.sum in let few = is.few in record { version_is = omega arith; padding_is = omega arith; extension_is = omega arith; count_is = omega arith }
flags_from_first byte false true count is = let sum = is.sum in let few = is.few in record { version_is = omega arith; padding_is = omega arith; extension_is = omega arith; count_is = omega arith }
flags_from_first byte true false count is = let sum = is.sum in let few = is.few in record { version_is = omega arith; padding_is = omega arith; extension_is = omega arith; count_is = omega arith }
flags_from_first byte true true count is = let sum = is.sum in let few = is.few in record { version_is = omega arith; padding_is = omega arith; extension_is = omega arith; count_is = omega arith }

-- the fields of a second byte, from the byte
pub fields_from_second : (byte : ℕ) (marker : Bool) (payload_type : ℕ) → IsSecondByte byte marker payload_type → (bit marker ≡ byte / 128) × (payload_type ≡ byte % 128)
fields_from_second byte false payload_type is = let sum = is.sum in let few = is.few in (omega arith, omega arith)
fields_from_second byte true payload_type is = let sum = is.sum in let few = is.few in (omega arith, omega arith)
