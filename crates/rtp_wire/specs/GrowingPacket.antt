-- A packet whose block gets another body: what the functions that make it promise each other.
use Rattle.std.specs.Prelude.{ℕ, ◌+◌, ◌-◌, ◌*◌, ◌/◌, ◌%◌, List, [], ◌∷◌, ◌++◌, length, drop, take, slice_range, Bool}
use Rattle.std.specs.Int.{w16, to_be_bytes}
use Rattle.rtp_base.specs.Flag.{bit}

-- the packet with X set: the two bits of V, P, X, and the four bits of CC
abbrev pub with_extension_bit : List ℕ → List ℕ
with_extension_bit [] = []
with_extension_bit (first ∷ rest) = (first / 32 * 32 + 16 + first % 16) ∷ rest

-- the buffer with a body of so many bytes in the block that begins at an offset, and the payload, which began at another one and ended with the packet, behind it; what stands where the body is stays
unfoldable pub resized : List ℕ → ℕ → ℕ → ℕ → ℕ → List ℕ
resized buf len block_at payload_at body_len =
    take (block_at + 2) buf
    ++ (to_be_bytes w16 (body_len / 4)
    ++ (slice_range buf (block_at + 4) (block_at + 4 + body_len)
    ++ (slice_range buf payload_at len
    ++ drop (block_at + 4 + body_len + (len - payload_at)) buf)))

-- the packet with this X
abbrev pub with_extension : Bool → List ℕ → List ℕ
with_extension x [] = []
with_extension x (first ∷ rest) = (first / 32 * 32 + bit x * 16 + first % 16) ∷ rest

-- the buffer with these bytes in place of those between two offsets in its first bytes, so many of them, and what was behind as it was
unfoldable pub spliced : List ℕ → ℕ → ℕ → ℕ → List ℕ → List ℕ
spliced buf len start end part = take start buf ++ (part ++ (slice_range buf end len ++ drop (start + length part + (len - end)) buf))

-- a block of these 16 bits and this body
abbrev pub block_bytes : ℕ → List ℕ → List ℕ
block_bytes profile body = to_be_bytes w16 profile ++ (to_be_bytes w16 (length body / 4) ++ body)
