-- A token of SDP (RFC 8866, 9), which a mid is (RFC 5888, 4), and the letters and digits that a stream id is (RFC 8852, 3).
use Rattle.std.specs.Prelude.{◌==◌, ◌&&◌, ◌||◌, nat_le, ℕ, ◌≤◌, Bool, List, length, All, IsTrue}

-- whether the byte lies between two others, both included
abbrev pub is_between : ℕ → ℕ → ℕ → Bool
is_between low high byte = nat_le low byte && nat_le byte high

-- token-char = %x21 / %x23-27 / %x2A-2B / %x2D-2E / %x30-39 / %x41-5A / %x5E-7E
abbrev pub is_token_char : ℕ → Bool
is_token_char c =
    (c == 0x21) || is_between 0x23 0x27 c || is_between 0x2A 0x2B c || is_between 0x2D 0x2E c
    || is_between 0x30 0x39 c || is_between 0x41 0x5A c || is_between 0x5E 0x7E c

-- one or more such characters, which an element has room for (RFC 8285, 4.3)
pub record IsToken (bytes : List ℕ) : Type 0 where
  pub some : 1 ≤ length bytes
  pub few : length bytes ≤ 255
  pub chars : All (λ c. IsTrue (is_token_char c)) bytes

-- a digit or a letter of ASCII
abbrev pub is_alphanumeric : ℕ → Bool
is_alphanumeric c = is_between 0x30 0x39 c || is_between 0x41 0x5A c || is_between 0x61 0x7A c

-- one or more of these, which an element has room for
pub record IsStreamId (bytes : List ℕ) : Type 0 where
  pub some : 1 ≤ length bytes
  pub few : length bytes ≤ 255
  pub chars : All (λ c. IsTrue (is_alphanumeric c)) bytes
