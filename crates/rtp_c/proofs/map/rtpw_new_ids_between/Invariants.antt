use Rattle.std.proofs.Common.{◌≡◌, ◌≤◌, ℕ, get_or}
use Rattle.rtp_c.proofs.MeantLemmas.{HaveNewIds}
use Rattle.rtp_c.proofs.map.rtpw_new_ids_between.Given as goal

-- the ids that were passed have their new ids, and each other one has none
abbrev pub invariant-loop-id : goal.invariant-loop-id
invariant-loop-id l = HaveNewIds l.from.kind l.to.kind l.ids.id l.id × ((id : ℕ) → l.id ≤ id → get_or l.ids.id id 0 ≡ 0)
