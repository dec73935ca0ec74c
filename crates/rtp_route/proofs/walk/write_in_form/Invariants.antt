use Rattle.std.proofs.Common.{◌≡◌, ◌≤◌, length}
use Rattle.rtp_ext.specs.ElementsInARow.{elements_of}
use Rattle.rtp_ext.specs.NewIds.{new_id}
use Rattle.rtp_route.specs.Walk.{AreKept}
use Rattle.rtp_route.proofs.walk.write_in_form.Given as goal

-- the elements that were passed are written
abbrev pub invariant-loop-id : goal.invariant-loop-id
invariant-loop-id g l =
    (goal.iterator-loop-id g).can_next l.id-iterator
    × (goal.iterator-loop-id g).is_finite l.id-iterator
    × (l.end ≤ length l.buf)
    × (length l.buf ≡ length l.initial.buf)
    × (length l.slots ≡ 16)
    × AreKept l.form (new_id (g.G.GroupTable.ids l.group)) (g.G.ElementList.elements l.group) (elements_of l.yielded) l.fn.at l.initial.buf l.slots l.buf l.end
