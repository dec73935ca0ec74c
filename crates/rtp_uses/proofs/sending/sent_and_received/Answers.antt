use Rattle.std.proofs.Common.{◌≡◌, sym, ◌∙◌, subst}
use Rattle.std.proofs.lemmas.Option.{same_Some}
use Rattle.rtp_receive.specs.TrueNumbers.{IsTrueNumber}
use Rattle.rtp_uses.proofs.ReceivingLemmas.{judged_fresh, number_of_image}
use Rattle.rtp_uses.proofs.sending.sent_and_received.Goals as goal

-- what was read has the number of what was written
same_number : (c : goal.Joined-received) → c.in-Some.received.sequence_number ≡ c.args.header.now.sequence_number
same_number c =
    number_of_image c.args.exts.now c.args.header.now c.in-Some.received (same_Some _ _ (sym c.in-Some.is ∙ c.in_ok-written_and_read.ensures))

pub returns-in-Some-clause-taken : goal.returns-in-Some-clause-taken
returns-in-Some-clause-taken c count numbers number holds is fresh =
    judged_fresh numbers number c.receive.result fresh
    (c.receive.ensures.true_number count numbers number holds (subst (λ low. IsTrueNumber count numbers low number) (sym (same_number c)) is))

pub returns-in-Some-clause-recorded : goal.returns-in-Some-clause-recorded
returns-in-Some-clause-recorded c count numbers number holds is =
    c.receive.ensures.true_numbers count numbers number holds (subst (λ low. IsTrueNumber count numbers low number) (sym (same_number c)) is)
