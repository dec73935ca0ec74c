use Rattle.std.proofs.Common.{rules, length, take, subst}
use Rattle.rtp_ext.specs.NewIds.{new_id}
use Rattle.rtp_wire.specs.declared.packet.fields.Fields.{Fields}
use Rattle.rtp_wire.specs.PartsOf.{datagram_of}
use Rattle.rtp_route.specs.declared.not_routed.NotRouted.{NotRouted}
use Rattle.rtp_route.specs.Calls.{no_fields, header_in}
use Rattle.rtp_route.specs.NotRouted.{KeepsFromRouting}
use Rattle.rtp_route.specs.Walk.{IsWalked}
use Rattle.rtp_route.proofs.ByWalkLemmas.{group-by_walk}
use Rattle.rtp_route.proofs.making.make_from_table.Goals as goal

pub returns-in-Some-clause-made : goal.returns-in-Some-clause-made
returns-in-Some-clause-made g c =
    let packet = c.args.packet.now in
    let ids = new_id (g.G.GroupTable.ids c.args.group) in
    let news = g.G.ElementList.elements c.args.group in
    let allowed = g.G.GroupTable.allows c.args.group in
    let slots = take (length news) c.write_by_walk.new.slots in
    let walked : IsWalked packet no_fields ids news allowed (length c.args.buf.now) c.write_by_walk.new.buf slots c.in-Some.made.0 =
    subst (λ (fields : Fields). IsWalked packet fields ids news allowed (length c.args.buf.now) c.write_by_walk.new.buf slots c.in-Some.made.0) (search rules) c.in-Some.ensures.walked in
    group-by_walk (datagram_of packet) ids news allowed (take c.in-Some.made.0 c.write_by_walk.new.buf) slots (g.met.G.GroupTable.can_be_put c.args.group c.requires).own walked.made

pub returns-in-Some-clause-none_refused : goal.returns-in-Some-clause-none_refused
returns-in-Some-clause-none_refused g c =
    let packet = c.args.packet.now in
    let ids = new_id (g.G.GroupTable.ids c.args.group) in
    let news = g.G.ElementList.elements c.args.group in
    let allowed = g.G.GroupTable.allows c.args.group in
    subst (λ (fields : Fields). (cause : NotRouted) → KeepsFromRouting (header_in packet) fields ids news allowed (length c.args.buf.now) cause → ⊥) (search rules) c.in-Some.ensures.walked.none_refused
