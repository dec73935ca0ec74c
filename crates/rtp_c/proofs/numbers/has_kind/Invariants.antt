use Rattle.rtp_c.proofs.Common.{◌≡◌, ◌<◌, ℕ, false, None, get_or, kind_numbered}
use Rattle.rtp_c.proofs.numbers.has_kind.Given as goal

-- whether one of the numbers so far is that of a kind
abbrev pub invariant-loop-number : goal.invariant-loop-number
invariant-loop-number l =
    (l.any ≡ false → (i : ℕ) → i < l.number-index → kind_numbered (get_or l.numbers i 0) ≡ None)
    × (((i : ℕ) → i < l.number-index → kind_numbered (get_or l.numbers i 0) ≡ None) → l.any ≡ false)
