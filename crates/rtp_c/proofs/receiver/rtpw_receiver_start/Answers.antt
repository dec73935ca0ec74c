use Rattle.rtp_c.proofs.Common.{refl, sym, subst, ReceiverState, Holds}
use Rattle.rtp_c.proofs.receiver.rtpw_receiver_start.Goals as goal

pub returns-clause-started : goal.returns-clause-started
returns-clause-started c low taken none =
    c.store.ensures.held c.args.rollover_count taken (subst (λ (state : ReceiverState). Holds state c.args.rollover_count taken) (sym c.starting_at.ensures) (refl, none))
