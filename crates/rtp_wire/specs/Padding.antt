-- The padding at the end of a packet (RFC 3550, 5.1).
--
-- "If the padding bit is set, the packet contains one or more additional padding octets at the end
-- which are not part of the payload. The last octet of the padding contains a count of how many
-- padding octets should be ignored, including itself."
use Rattle.std.specs.Prelude.{◌≡◌, ℕ, ◌+◌, ◌-◌, ◌*◌, ◌/◌, ◌%◌, ◌<◌, ◌≤◌, List, [], ◌∷◌, ◌++◌, length, min, replicate, slice_index_or}

-- n bytes of padding: zeros, and then the count of all of them
abbrev pub padding_bytes : ℕ → List ℕ
padding_bytes n = replicate (n - 1) 0 ++ n ∷ []

-- the packet with the padding bit P set: the two bits of V, P, and the five bits of X and CC
abbrev pub with_padding_bit : List ℕ → List ℕ
with_padding_bit [] = []
with_padding_bit (first ∷ rest) = (first / 64 * 64 + 32 + first % 32) ∷ rest

-- the least number of bytes in whole blocks that is not below this length: with a block less it would be
pub record IsInBlocks (len block_size whole : ℕ) : Type 0 where
  pub blocks : ℕ
  pub multiple : whole ≡ blocks * block_size
  pub enough : len ≤ whole
  pub least : whole < len + block_size

-- how many bytes of padding are made where so many are wanted: that length in whole blocks, but at most 240 bytes
pub record IsPaddingLength (pad_len block_size count : ℕ) : Type 0 where
  pub whole : ℕ
  pub in_blocks : IsInBlocks pad_len block_size whole
  pub lesser : count ≡ min whole 240

-- how many bytes of padding the last byte announces, and none where there is no byte
abbrev pub padding_count : List ℕ → ℕ
padding_count bytes = slice_index_or bytes (length bytes - 1) 0

-- the bytes are this payload and its padding, which has as many bytes as the last one announces
pub record IsUnpadded (bytes payload : List ℕ) : Type 0 where
  pub padding : List ℕ
  pub in_order : bytes ≡ payload ++ padding
  pub counted : length padding ≡ padding_count bytes
