use Rattle.std.proofs.Common.{ℕ, List, sym, subst, arith}
use Rattle.rtp_wire.specs.ChangedPacket.{ChangesOnly}
use Rattle.rtp_wire.specs.Packet.{IsPacket}
use Rattle.rtp_wire.proofs.PartsLemmas.{length-packet}
use Rattle.rtp_route.proofs.ByCallsLemmas.{alone_parts, header-alone}
use Rattle.rtp_route.proofs.TemplateLemmas.{copied-header}
use Rattle.rtp_route.proofs.in_place.copy_header.Goals as goal

pub put_header-requires : goal.put_header-requires
put_header-requires c = omega (arith, c.requires.room, length-packet c.header_bytes.result.now _ c.header_bytes.ensures.alone)

pub set_fields-requires-clause-held : goal.set_fields-requires-clause-held
set_fields-requires-clause-held c =
    let copied = copied-header c.args.packet.now c.header_bytes.result.now c.args.buf.now c.put_header.new.buf c.header_bytes.ensures.alone c.header_bytes.ensures.front c.put_header.ensures (omega (arith, c.put_header.auto.buf, c.requires.room)) in
    record {
      parts = alone_parts c.args.packet.now;
      is_packet = subst (λ (b : List ℕ). IsPacket b (alone_parts c.args.packet.now)) (sym copied) (header-alone c.args.packet.now).1;
      form_is = c.form.ensures;
      len_is = omega arith;
    }

pub returns-clause-set : goal.returns-clause-set
returns-clause-set c parts is =
    let copied = copied-header c.args.packet.now c.header_bytes.result.now c.args.buf.now c.put_header.new.buf c.header_bytes.ensures.alone c.header_bytes.ensures.front c.put_header.ensures (omega (arith, c.put_header.auto.buf, c.requires.room)) in
    c.set_fields.ensures.set parts (subst (λ (b : List ℕ). IsPacket b parts) (sym copied) is)

pub returns-clause-fixed : goal.returns-clause-fixed
returns-clause-fixed c =
    let copied = copied-header c.args.packet.now c.header_bytes.result.now c.args.buf.now c.put_header.new.buf c.header_bytes.ensures.alone c.header_bytes.ensures.front c.put_header.ensures (omega (arith, c.put_header.auto.buf, c.requires.room)) in
    subst (λ (b : List ℕ). ChangesOnly 1 12 b c.set_fields.new.header) copied c.set_fields.ensures.fixed
