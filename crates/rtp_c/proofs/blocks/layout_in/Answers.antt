use Rattle.rtp_c.proofs.Common.{take, arith, parts_of, length-packet}
use Rattle.rtp_c.proofs.blocks.layout_in.Goals as goal

pub returns-clause-found : goal.returns-clause-found
returns-clause-found c =
    let parts = parts_of c.in_ok-packet.packet in
    record {
      parts = parts;
      is_packet = c.in_ok-packet.ensures.found;
      form_is = c.form.ensures;
      len_is = omega (arith, c.header_len.ensures, length-packet (take c.args.len c.args.buf.now) parts c.in_ok-packet.ensures.found);
    }
