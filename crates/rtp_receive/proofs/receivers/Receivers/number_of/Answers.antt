use Rattle.std.proofs.Common.{rules}
use Rattle.rtp_receive.proofs.receivers.Receivers.number_of.Goals as goal

pub returns-in-None-clause-true_number : goal.returns-in-None-clause-true_number
returns-in-None-clause-true_number c count numbers number holds is =
    c.number_of.ensures.true_number count numbers number (search rules) is
