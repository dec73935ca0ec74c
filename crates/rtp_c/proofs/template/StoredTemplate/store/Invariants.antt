use Rattle.std.proofs.Common.{◌≡◌, ◌≤◌, ◌*◌, length, take}
use Rattle.rtp_route.specs.Template.{total_of}
use Rattle.rtp_c.specs.StoredTemplate.{slots_at, AreZeros}
use Rattle.rtp_c.proofs.template.StoredTemplate.store.Given as goal

-- the places before the index are stored, and from it on there are zeros
abbrev pub invariant-loop-index : goal.invariant-loop-index
invariant-loop-index l =
    (take l.index (slots_at l.self.data_at l.self.data_len) ≡ take l.index l.slots)
    × (length l.self.data_at ≡ 16)
    × (length l.self.data_len ≡ 16)
    × (l.total ≡ total_of (take l.index l.slots))
    × (l.total ≤ 255 * l.index)
    × AreZeros l.self.data_at l.index
    × AreZeros l.self.data_len l.index
