use Rattle.std.proofs.Common.{arith}
use Rattle.rtp_wire.proofs.payload.padding.try_create_padding_packet.Goals as goal

pub returns-then-branch-clause-refused : goal.returns-then-branch-clause-refused
returns-then-branch-clause-refused c n is = omega (arith, c.padding_len-len.ensures.only n is, c.in_ok-checked_add.ensures)
