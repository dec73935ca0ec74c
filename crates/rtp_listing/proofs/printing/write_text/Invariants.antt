use Rattle.rtp_listing.proofs.Common.{◌≡◌, ℕ, List, ◌++◌, Appends}
use Rattle.rtp_listing.proofs.printing.write_text.Given as goal

-- what is gone from the rest is written
abbrev pub invariant-turns : goal.invariant-turns
invariant-turns g l =
    (written : List ℕ) × Appends (g.W.Write.contents l.initial.output) (g.W.Write.contents l.output) written × (l.initial.rest ≡ written ++ l.rest)
