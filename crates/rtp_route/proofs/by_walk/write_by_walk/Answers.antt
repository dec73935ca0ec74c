use Rattle.rtp_ext.specs.NewIds.{new_id}
use Rattle.rtp_wire.specs.PartsOf.{parts_of}
use Rattle.rtp_route.proofs.FormsLemmas.{start-own}
use Rattle.rtp_route.proofs.by_walk.write_by_walk.Goals as goal

pub write_from-made-requires-clause-start : goal.write_from-made-requires-clause-start
write_from-made-requires-clause-start g c =
    start-own (g.G.GroupTable.allows c.args.group) (new_id (g.G.GroupTable.ids c.args.group)) (parts_of c.args.packet.now).block c.in_ok-was.was' c.in_ok-was.body.now c.in_ok-was.ensures.parts
