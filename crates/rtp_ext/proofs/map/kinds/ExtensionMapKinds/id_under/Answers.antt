use Rattle.std.proofs.Common.{length, sym, ap, ◌∙◌}
use Rattle.rtp_ext.proofs.NewIdLemmas.{HasNoIdAbove-length}
use Rattle.rtp_ext.proofs.map.kinds.ExtensionMapKinds.id_under.Goals as goal

pub returns-in_err-extension-clause-no_others : goal.returns-in_err-extension-clause-no_others
returns-in_err-extension-clause-no_others c = HasNoIdAbove-length c.args.self.now (ap length (sym c.self.view_is) ∙ c.self.invariant.0)

pub returns-clause-no_others : goal.returns-clause-no_others
returns-clause-no_others c = HasNoIdAbove-length c.args.self.now (ap length (sym c.self.view_is) ∙ c.self.invariant.0)
