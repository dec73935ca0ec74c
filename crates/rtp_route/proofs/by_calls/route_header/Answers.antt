use Rattle.std.proofs.Common.{ℕ, ◌↔◌, take, subst, arith, IsErr, IfErr}
use Rattle.rtp_ext.specs.NewIds.{new_id}
use Rattle.rtp_wire.specs.PartsOf.{datagram_of}
use Rattle.rtp_route.specs.Calls.{header_in}
use Rattle.rtp_route.specs.NotRouted.{KeepsFromRouting}
use Rattle.rtp_route.specs.declared.not_routed.NotRouted.{NotRouted}
use Rattle.rtp_route.proofs.NotPutLemmas.{refused-exactly}
use Rattle.rtp_route.proofs.OneHeaderLemmas.{are_taken, one-header}
use Rattle.rtp_route.proofs.RoutingLemmas.{on-ok, routed-of}
use Rattle.rtp_route.proofs.by_calls.route_header.Goals as goal

pub returns-clause-routed : goal.returns-clause-routed
returns-clause-routed g c =
    on-ok c.make_header.result _ _ _
    (λ len made none. routed-of c.args.packet.now c.make_header.new.buf len c.args.fields.now (new_id c.args.group.now.ids.now) (g.L.ElementList.elements c.args.group.now.elements) c.args.group.now.allowed none made)
    c.make_header.ensures.made c.make_header.ensures.ids

pub returns-clause-only : goal.returns-clause-only
returns-clause-only g c =
    let ids = new_id c.args.group.now.ids.now in
    let news = g.L.ElementList.elements c.args.group.now.elements in
    let allowed = c.args.group.now.allowed in
    on-ok c.make_header.result _ _ _
    (λ len made none header bytes routed.
    one-header (datagram_of c.args.packet.now) c.args.fields.now ids news allowed header (take len c.make_header.new.buf) bytes
    (are_taken len c.make_header.new.buf (λ k. omega (arith, c.type_inv.buf k))) routed (routed-of c.args.packet.now c.make_header.new.buf len c.args.fields.now ids news allowed none made))
    c.make_header.ensures.made c.make_header.ensures.ids

pub returns-in-Some-write_by_walk-clause-only : goal.returns-in-Some-write_by_walk-clause-only
returns-in-Some-write_by_walk-clause-only g c header bytes routed =
    one-header (datagram_of c.args.packet.now) c.args.fields.now (new_id c.args.group.now.ids.now) (g.L.ElementList.elements c.args.group.now.elements) c.args.group.now.allowed header
    (take c.in-Some-write_by_walk.len c.write_by_walk.new.buf) bytes (are_taken c.in-Some-write_by_walk.len c.write_by_walk.new.buf (λ k. omega (arith, c.type_inv.buf k))) routed c.in-Some-write_by_walk.ensures.walked.made.routed

pub returns-clause-cause : goal.returns-clause-cause
returns-clause-cause g c =
    subst (λ (k : ℕ). IfErr c.make_header.result (KeepsFromRouting (header_in c.args.packet.now) c.args.fields.now (new_id c.args.group.now.ids.now) (g.L.ElementList.elements c.args.group.now.elements) c.args.group.now.allowed k))
    c.if-count-le-MAX_ELEMENTS.auto.buf c.make_header.ensures.cause

pub returns-clause-refused : goal.returns-clause-refused
returns-clause-refused g c =
    subst (λ (k : ℕ). IsErr c.make_header.result ↔ ((cause : NotRouted)
    × KeepsFromRouting (header_in c.args.packet.now) c.args.fields.now (new_id c.args.group.now.ids.now) (g.L.ElementList.elements c.args.group.now.elements) c.args.group.now.allowed k cause))
    c.if-count-le-MAX_ELEMENTS.auto.buf (refused-exactly c.make_header.result _ c.make_header.ensures.cause c.make_header.ensures.none_refused)
