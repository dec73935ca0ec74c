use Rattle.rtp_ext.proofs.Common.{rules, extension_of_kind}
use Rattle.rtp_ext.proofs.RenamedIdLemmas.{renamed_first}
use Rattle.rtp_ext.proofs.new_ids.NewIds.renaming.Goals as goal

pub invariant_of-result : goal.invariant_of-result
invariant_of-result g c = (
  search rules,
  renamed_first (g.K.Kinds.slots c.args.exts.now) (extension_of_kind c.args.from) (extension_of_kind c.args.to) c.renamed_ids.result c.renamed_ids.ensures,
  search rules,
)
