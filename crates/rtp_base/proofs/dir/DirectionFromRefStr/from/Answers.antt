use Rattle.rtp_base.specs.declared.dir.Direction.TheVariants.{SendOnly, RecvOnly, SendRecv}
use Rattle.rtp_base.proofs.DirectionLemmas.{IsDirectionName-from_text}
use Rattle.rtp_base.proofs.dir.DirectionFromRefStr.from.Goals as goal

pub returns-in-sendonly : goal.returns-in-sendonly
returns-in-sendonly c = IsDirectionName-from_text c.args.v.now SendOnly c.in-sendonly.is

pub returns-in-recvonly : goal.returns-in-recvonly
returns-in-recvonly c = IsDirectionName-from_text c.args.v.now RecvOnly c.in-recvonly.is

pub returns-in-sendrecv : goal.returns-in-sendrecv
returns-in-sendrecv c = IsDirectionName-from_text c.args.v.now SendRecv c.in-sendrecv.is
