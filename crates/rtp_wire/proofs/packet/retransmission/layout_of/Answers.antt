use Rattle.std.proofs.Common.{arith, length-take-le, ◌≤◌, length}
use Rattle.rtp_wire.proofs.RetransmissionBytes.{end_fits}
use Rattle.rtp_wire.proofs.packet.retransmission.layout_of.Goals as goal

pub overflow_add-result : goal.overflow_add-result
overflow_add-result c =
    let within : c.args.len ≤ length c.args.buf.now = omega arith in
    omega (
      arith,
      end_fits _ _ _ c.in-Ok.ensures.found c.in-Some.ensures.found,
      c.header_len-header_len.ensures,
      length-take-le c.args.len c.args.buf.now within,
      c.ranges.len.fits,
    )
