use Rattle.std.proofs.Common.{Bool, if◌then◌else◌, sym, ◌∙◌, subst, inl, inr}
use Rattle.std.proofs.lemmas.Bool.{cases_Bool, false≢true}
use Rattle.rtp_base.specs.Window.{including}
use Rattle.rtp_receive.specs.Receiver.{HoldsOf}
use Rattle.rtp_receive.proofs.ReceiverLemmas.{HoldsOf-refused}
use Rattle.rtp_receive.proofs.stream_receiver.StreamReceiver.record.Goals as goal

pub returns-clause-recorded : goal.returns-clause-recorded
returns-clause-recorded g c count taken holds =
    let told = c.take.ensures.accepts count taken holds in
    let held = λ (answer : Bool). HoldsOf g.W.ReplayWindow.size c.take.new.self count (if answer then including taken c.args.number else taken) in
    elim (cases_Bool c.take.result) [
      | inl answered ↦ subst held answered (c.take.ensures.taken count taken holds)
      | inr refuses ↦
          HoldsOf-refused g.W.ReplayWindow.size c.take.new.self count taken c.args.number (λ fresh. false≢true (sym refuses ∙ told.1 fresh)) (subst held refuses (c.take.ensures.taken count taken holds))
    ]

pub returns-clause-unchanged : goal.returns-clause-unchanged
returns-clause-unchanged g c count taken holds refused =
    let told = c.take.ensures.accepts count taken holds in
    elim (cases_Bool c.take.result) [ inl answered ↦ absurd (refused (told.0 answered)) | inr refuses ↦ c.take.ensures.refused refuses ]
