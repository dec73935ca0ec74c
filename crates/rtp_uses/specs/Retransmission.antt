-- What a retransmission carries (RFC 4588, 4).
use Rattle.std.specs.Prelude.{ℕ, ◌%◌, List, ◌++◌}
use Rattle.std.specs.Int.{w16, to_be_bytes}

-- the low 16 bits of the original number, and then the original payload
abbrev pub retransmission_bytes : ℕ → List ℕ → List ℕ
retransmission_bytes number payload = to_be_bytes w16 (number % 65536) ++ payload
