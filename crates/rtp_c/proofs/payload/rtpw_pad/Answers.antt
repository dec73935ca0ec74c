use Rattle.std.proofs.Common.{arith}
use Rattle.rtp_c.proofs.payload.rtpw_pad.Goals as goal

pub returns-in_default-clause-done : goal.returns-in_default-clause-done
returns-in_default-clause-done c some wanted n is room = absurd (omega (arith, c.in_default.ensures.refused n is, room))

pub returns-clause-short : goal.returns-clause-short
returns-clause-short c some wanted n is short = absurd (omega (arith, c.in-Some.ensures.room wanted, c.in-Some.ensures.only wanted n is, short))
