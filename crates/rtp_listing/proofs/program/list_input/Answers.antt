use Rattle.rtp_listing.proofs.RunLemmas.{for_known, Prints-none, Prints-unread}
use Rattle.rtp_listing.proofs.program.list_input.Goals as goal
use Rattle.rtp_listing.proofs.program.list_input.Goals.{in-OutOfMemory, in_default-kind}

pub returns-in-Err-clause-err : goal.returns-in-Err-clause-err
returns-in-Err-clause-err g c =
    elim c.match-kind.branch [
      | in-OutOfMemory w ↦ rw w.result-is (for_known (g.R.Read.remaining c.args.input.now) _ (λ text. Prints-none text (g.W.Write.contents c.args.output.now)))
      | in_default-kind w ↦ rw w.result-is (for_known (g.R.Read.remaining c.args.input.now) _ (λ text. Prints-unread text (g.W.Write.contents c.args.output.now)))
    ]
