use Rattle.std.specs.Prelude.{Some}
use Rattle.rtp_receive.proofs.RestartingLemmas.{no_packets}
use Rattle.rtp_receive.proofs.restarting.RestartingStreamReceiver.with_max_misorder.Goals as goal

pub returns-clause-empty : goal.returns-clause-empty
returns-clause-empty g c remembers = no_packets g.W.ReplayWindow.size c.args.self (Some c.args.max_misorder) remembers
