use Rattle.std.proofs.Common.{◌≡◌, ◌<◌, ℕ, length, get_or}
use Rattle.rtp_ext.proofs.renamed_ids.same_ids.Given as goal

-- the ids that were passed keep themselves
abbrev pub invariant-loop-id : goal.invariant-loop-id
invariant-loop-id l = (length l.new-items ≡ 256) × ((k : ℕ) → k < l.id → get_or l.new-items k 0 ≡ k)
