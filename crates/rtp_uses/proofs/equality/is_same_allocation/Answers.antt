use Rattle.std.proofs.Common.{sym, ◌∙◌}
use Rattle.rtp_wire.specs.AllocationEqual.{same_allocation-decides}
use Rattle.rtp_uses.proofs.equality.is_same_allocation.Goals as goal

pub returns : goal.returns
returns c =
    let decides = same_allocation-decides c.args.a.now c.args.b.now in
    (λ yes. decides.0 (sym c.eq.ensures ∙ yes), λ same. c.eq.ensures ∙ decides.1 same)
