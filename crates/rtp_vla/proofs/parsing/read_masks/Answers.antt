use Rattle.std.proofs.Common.{arith, ◌+◌}
use Rattle.rtp_vla.proofs.AllocationParts.{HasMasks-shared}
use Rattle.rtp_vla.proofs.AllocationLayout.{head_parts, HasMasks-at}
use Rattle.rtp_vla.proofs.parsing.read_masks.Goals as goal

pub returns-then-shared-ne0-clause-found : goal.returns-then-shared-ne0-clause-found
returns-then-shared-ne0-clause-found c =
    let parts = head_parts c.args.head c.from-streams.result c.from-streams.ensures in
    HasMasks-at _ _ _ _ _ _ _ parts.0 parts.1 (HasMasks-shared c.args.bytes.now _ (c.from-streams.result + 1) (omega arith) (omega (arith, parts.0)) (omega (arith, parts.1)))
