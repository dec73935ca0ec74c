use Rattle.std.proofs.Common.{◌∙◌}
use Rattle.rtp_ext.proofs.NewIdLemmas.{ids_in_bytes-zero}
use Rattle.rtp_ext.proofs.new_ids.NewIds.ids.Goals as goal

pub returns-clause-ids : goal.returns-clause-ids
returns-clause-ids c = ids_in_bytes-zero c.self.inside.ids c.self.invariant.1 ∙ c.self.view_is
