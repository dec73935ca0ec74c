use Rattle.std.proofs.Common.{◌≡◌, List, length, take, All}
use Rattle.std.specs.List.{AllByRecursion}
use Rattle.rtp_ext.specs.declared.form.ExtensionsForm.{ExtensionsForm}
use Rattle.rtp_ext.specs.Elements.{Element}
use Rattle.rtp_wire.specs.PartsOf.{parts_of}
use Rattle.rtp_route.specs.Template.{HasOnly, HasRow, AreSlots, LiesInHeader, body_start_of}
use Rattle.rtp_route.proofs.slots.slots_of.Given as goal

-- the places of the elements before the index are found
abbrev pub invariant-loop-index : goal.invariant-loop-index
invariant-loop-index g l =
    ((form : ExtensionsForm) (row : List Element) → HasRow (parts_of l.packet) form row → AllByRecursion (HasOnly row) (g.L.ElementList.elements l.elements)
    → AreSlots form (body_start_of (parts_of l.packet)) row (take l.index (g.L.ElementList.elements l.elements)) (take l.index l.slots))
    × (length l.slots ≡ 16)
    × All (LiesInHeader (parts_of l.packet)) (take l.index l.slots)
