use Rattle.rtp_c.proofs.Common.{ap, ◌∙◌, arith, header_len_of, PacketParts, parts_of, length-packet}
use Rattle.rtp_c.proofs.changing.layout_of.Goals as goal

pub returns-in-Ok-clause-found : goal.returns-in-Ok-clause-found
returns-in-Ok-clause-found c =
    let parts = parts_of c.in-Ok.packet in
    record {
      parts = parts;
      is_packet = c.in-Ok.ensures.found;
      form_is = c.form.ensures;
      len_is = omega (arith, c.header_len.ensures, length-packet c.args.datagram.now parts c.in-Ok.ensures.found);
    }

pub returns-in-Ok-clause-only : goal.returns-in-Ok-clause-only
returns-in-Ok-clause-only c parts is = c.header_len.ensures ∙ ap (λ (q : PacketParts). header_len_of q) (c.in-Ok.ensures.only parts is)
