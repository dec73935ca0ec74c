use Rattle.std.proofs.Common.{◌≡◌, length, take, map}
use Rattle.rtp_route.specs.Template.{slot_lengths}
use Rattle.rtp_route.proofs.slots.have_lengths.Given as goal

-- those before the index are as long as their places
abbrev pub invariant-loop-index : goal.invariant-loop-index
invariant-loop-index l = map (λ bytes. length bytes.now) (take l.index l.contents) ≡ slot_lengths (take l.index l.slots)
