use Rattle.std.proofs.Common.{◌≡◌, ◌<◌, ℕ, get_or}
use Rattle.rtp_c.proofs.numbers.are_zeros.Given as goal

-- no bit is set so far exactly where each number so far is 0
abbrev pub invariant-loop-number : goal.invariant-loop-number
invariant-loop-number l =
    (l.any ≡ 0 → (i : ℕ) → i < l.number-index → get_or l.numbers i 0 ≡ 0)
    × (((i : ℕ) → i < l.number-index → get_or l.numbers i 0 ≡ 0) → l.any ≡ 0)
