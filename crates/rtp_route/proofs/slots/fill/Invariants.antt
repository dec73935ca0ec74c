use Rattle.std.proofs.Common.{◌≡◌, length, drop, map}
use Rattle.rtp_route.specs.Template.{filled_in}
use Rattle.rtp_route.proofs.slots.fill.Given as goal

-- with the data that are left the buffer is as with all
abbrev pub invariant-loop-index : goal.invariant-loop-index
invariant-loop-index l =
    (filled_in (drop l.index l.slots) (map (λ bytes. bytes.now) (drop l.index l.contents)) l.buf ≡ filled_in l.slots (map (λ bytes. bytes.now) l.contents) l.initial.buf)
    × (length l.buf ≡ length l.initial.buf)
