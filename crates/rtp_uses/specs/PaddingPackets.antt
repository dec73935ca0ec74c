-- Packets of padding alone (RFC 3550, 5.1).
use Rattle.std.specs.Prelude.{◌≡◌, ℕ, ◌+◌, List, ◌++◌, length, drop}
use Rattle.rtp_wire.specs.Padding.{padding_bytes, IsPaddingLength}

-- a buffer has a header's bytes at the front, then this many bytes of padding where some are wanted, and is as it was after both
pub record IsPadded (front : List ℕ) (pad_len block_size : ℕ) (old new : List ℕ) (len : ℕ) : Type 0 where
  pub count : ℕ
  pub count_is : IsPaddingLength pad_len block_size count
  pub len_is : len ≡ length front + count
  pub bytes : new ≡ front ++ (padding_bytes count ++ drop len old)
