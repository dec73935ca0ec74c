use Rattle.std.proofs.Common.{All, take}
use Rattle.rtp_ext.specs.declared.form.ExtensionsForm.TheVariants.{TwoByte}
use Rattle.rtp_ext.specs.ElementsInARow.{IsWritable}
use Rattle.rtp_route.proofs.preparing.first_unwritable.Given as goal

-- those before the index can be carried
abbrev pub invariant-loop-index : goal.invariant-loop-index
invariant-loop-index g l = All (IsWritable TwoByte) (take l.index (g.L.ElementList.elements l.elements))
