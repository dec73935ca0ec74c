use Rattle.std.proofs.Common.{rules}
use Rattle.rtp_route.proofs.ChangeFormLemmas.{ids-in_table}
use Rattle.rtp_route.proofs.in_place.known_ids.Goals as goal

pub returns-clause-each : goal.returns-clause-each
returns-clause-each c id = ids-in_table c.ids.result c.args.ids.now c.ids.ensures.ids (λ k. search rules) id
