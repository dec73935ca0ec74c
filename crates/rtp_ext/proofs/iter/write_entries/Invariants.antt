use Rattle.rtp_ext.proofs.Common.{◌≡◌, List, ℕ, [], ◌++◌, IsPlainFormatter, HasWritten, items_text}
use denote.Text.{Utf8}
use denote.Shadow.{shadow}
use Rattle.rtp_ext.proofs.iter.write_entries.Given as goal

-- what was written and the text of the entries that are left are the whole text
abbrev pub invariant-loop-id : goal.invariant-loop-id
invariant-loop-id g l = shadow (Utf8 l.lead) × (IsPlainFormatter l.fn.f → (written : List ℕ)
    × HasWritten g.W.Write.write_str_gives l.fn.f written l.f
    × (written ++ items_text l.lead l.id-iterator ≡ items_text [] l.fn.entries))
