use Rattle.rtp_receive.proofs.TrueNumberLemmas.{one_greatest}
use Rattle.rtp_receive.proofs.replay_window.SeqNoWindowReplayWindow.max_seq.Goals as goal

pub returns-clause-is : goal.returns-clause-is
returns-clause-is c =
    let kept = c.max_seq.ensures.some in one_greatest kept.0 _ _ (c.max_seq.ensures.greatest kept.0 kept.1) kept.1.top
