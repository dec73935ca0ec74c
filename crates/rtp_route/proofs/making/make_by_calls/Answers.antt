use Rattle.std.proofs.Common.{rules, ◌≡◌, ap, ℕ, List, Some, All, IfSome, length, length-take, take, Result, Ok, Err, IsOk, subst, arith, refl}
use Rattle.std.specs.Result.{IsOkAnd}
use Rattle.rtp_ext.specs.NewIds.{new_id}
use Rattle.rtp_wire.specs.declared.packet.fields.Fields.{Fields}
use Rattle.rtp_wire.specs.PartsOf.{datagram_of, parts_of}
use Rattle.rtp_wire.proofs.PartsLemmas.{length-packet, IsPacket-found}
use Rattle.rtp_route.specs.declared.slots.Slot.{Slot}
use Rattle.rtp_route.specs.GroupHeader.{IsGroupHeader}
use Rattle.rtp_route.specs.Calls.{no_fields, header_in}
use Rattle.rtp_route.specs.NotRouted.{KeepsFromRouting}
use Rattle.rtp_route.specs.Template.{LiesInHeader}
use Rattle.rtp_route.proofs.LengthLemmas.{short-header}
use Rattle.rtp_route.proofs.RoutingLemmas.{routed-of}
use Rattle.rtp_route.proofs.TemplateLemmas.{routed-length, routed-alone, slots-there, group-made}
use Rattle.rtp_route.proofs.making.make_by_calls.Goals as goal

is-ok : {A E : Type 0} (result : Result A E) (P : A → Type 0) → IsOkAnd result P → IsOk result
is-ok (Ok value) P is = refl
is-ok (Err cause) P is = absurd is

pub unwrap-header-requires : goal.unwrap-header-requires
unwrap-header-requires g c =
    let routed = routed-of c.args.packet c.make_header.new.buf c.in_ok-len.len c.default.result (new_id c.args.group.now.ids.now) (g.L.ElementList.elements c.args.group.now.elements) c.args.group.now.allowed
    c.in_ok-len.ensures.ids c.in_ok-len.ensures.made in
    is-ok c.parse.result _ (c.parse.ensures.only _ routed.is_packet)

pub unwrap-requires : goal.unwrap-requires
unwrap-requires g c =
    let packet = c.args.packet in
    let ids = new_id c.args.group.now.ids.now in
    let news = g.L.ElementList.elements c.args.group.now.elements in
    let allowed = c.args.group.now.allowed in
    let header = c.unwrap-header.result in
    let bytes : datagram_of header ≡ take c.in_ok-len.len c.make_header.new.buf = rw c.unwrap-header.ensures at c.parse.ensures.bytes in
    let routed = routed-alone packet header c.default.result ids news allowed c.make_header.new.buf c.in_ok-len.len (search rules) c.in_ok-len.ensures.ids c.in_ok-len.ensures.made bytes in
    slots-there (datagram_of packet) ids news allowed header (length (g.L.ElementList.elements c.args.group.now.elements)) c.slots_of.result routed c.requires.own c.slots_of.ensures.found c.slots_of.ensures.none

pub returns-clause-made : goal.returns-clause-made
returns-clause-made g c =
    let packet = c.args.packet in
    let ids = new_id c.args.group.now.ids.now in
    let news = g.L.ElementList.elements c.args.group.now.elements in
    let allowed = c.args.group.now.allowed in
    let header = c.unwrap-header.result in
    let bytes : datagram_of header ≡ take c.in_ok-len.len c.make_header.new.buf = rw c.unwrap-header.ensures at c.parse.ensures.bytes in
    let routed = routed-alone packet header c.default.result ids news allowed c.make_header.new.buf c.in_ok-len.len (search rules) c.in_ok-len.ensures.ids c.in_ok-len.ensures.made bytes in
    let count = length (g.L.ElementList.elements c.args.group.now.elements) in
    subst (λ (b : List ℕ). IsGroupHeader (datagram_of packet) ids news allowed b (take count c.unwrap.result)) bytes
    (group-made (datagram_of packet) ids news allowed header c.unwrap.result count routed c.requires.own refl
    (rw c.unwrap.ensures at c.slots_of.ensures.found))

pub returns-clause-short : goal.returns-clause-short
returns-clause-short g c =
    let packet = c.args.packet in
    let ids = new_id c.args.group.now.ids.now in
    let news = g.L.ElementList.elements c.args.group.now.elements in
    let allowed = c.args.group.now.allowed in
    let header = c.unwrap-header.result in
    let bytes : datagram_of header ≡ take c.in_ok-len.len c.make_header.new.buf = rw c.unwrap-header.ensures at c.parse.ensures.bytes in
    let routed = routed-alone packet header c.default.result ids news allowed c.make_header.new.buf c.in_ok-len.len (search rules) c.in_ok-len.ensures.ids c.in_ok-len.ensures.made bytes in
    let long = routed-length (datagram_of packet) no_fields ids news allowed header routed in
    omega (arith, short-header header, long, ap length bytes, length-take c.in_ok-len.len c.make_header.new.buf, c.in_ok-len.ensures.within)

pub returns-clause-within : goal.returns-clause-within
returns-clause-within g c k d there =
    let packet = c.args.packet in
    let ids = new_id c.args.group.now.ids.now in
    let news = g.L.ElementList.elements c.args.group.now.elements in
    let allowed = c.args.group.now.allowed in
    let header = c.unwrap-header.result in
    let bytes : datagram_of header ≡ take c.in_ok-len.len c.make_header.new.buf = rw c.unwrap-header.ensures at c.parse.ensures.bytes in
    let routed = routed-alone packet header c.default.result ids news allowed c.make_header.new.buf c.in_ok-len.len (search rules) c.in_ok-len.ensures.ids c.in_ok-len.ensures.made bytes in
    let long = routed-length (datagram_of packet) no_fields ids news allowed header routed in
    let within : IfSome (Some c.unwrap.result) (λ (slots : List Slot). All (LiesInHeader (parts_of header)) (take (length (g.L.ElementList.elements c.args.group.now.elements)) slots)) = rw c.unwrap.ensures at c.slots_of.ensures.within in
    omega (arith, within k d there, long, ap length bytes, length-take c.in_ok-len.len c.make_header.new.buf, c.in_ok-len.ensures.within)

pub returns-clause-none_refused : goal.returns-clause-none_refused
returns-clause-none_refused g c cause kept =
    c.in_ok-len.ensures.none_refused cause
    (subst (λ (fields : Fields). KeepsFromRouting (header_in c.args.packet) fields (new_id c.args.group.now.ids.now) (g.L.ElementList.elements c.args.group.now.elements) c.args.group.now.allowed (length c.args.buf.now) cause)
    (search rules) kept)

pub returns-clause-held : goal.returns-clause-held
returns-clause-held g c =
    let header = c.unwrap-header.result in
    let len = c.in_ok-len.len in
    let bytes : datagram_of header ≡ take len c.make_header.new.buf = rw c.unwrap-header.ensures at c.parse.ensures.bytes in
    let routed = routed-alone c.args.packet header c.default.result (new_id c.args.group.now.ids.now) (g.L.ElementList.elements c.args.group.now.elements) c.args.group.now.allowed c.make_header.new.buf len (search rules)
    c.in_ok-len.ensures.ids c.in_ok-len.ensures.made bytes in
    let long = routed-length (datagram_of c.args.packet) no_fields _ _ _ header routed in
    record {
      parts = parts_of header;
      is_packet = rw c.unwrap-header.ensures at c.parse.ensures.found;
      form_is = c.form.ensures;
      len_is = omega (arith, long, length-packet (datagram_of header) (parts_of header) (IsPacket-found header), ap length bytes, length-take len c.make_header.new.buf, c.in_ok-len.ensures.within);
    }
