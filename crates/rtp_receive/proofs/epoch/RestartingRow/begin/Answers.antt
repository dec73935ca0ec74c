use Rattle.std.proofs.Common.{◌+◌, ◌%◌, refl}
use Rattle.rtp_receive.proofs.RestartingLemmas.{row_grown}
use Rattle.rtp_receive.proofs.epoch.RestartingRow.begin.Goals as goal

pub returns-in-None-clause-row : goal.returns-in-None-clause-row
returns-in-None-clause-row c later k few =
    let grown = row_grown c.args.self.now.len c.args.self.now.next c.saturating_add-self.result ((c.args.sequence_number + 1) % 65536) c.before-in-None.result c.args.sequence_number later k few
    c.saturating_add-self.ensures refl c.before-in-None.ensures in
    (λ leads. let parts = grown.0 leads in (refl, parts.0, parts.1), λ parts. grown.1 (parts.1, parts.2))
