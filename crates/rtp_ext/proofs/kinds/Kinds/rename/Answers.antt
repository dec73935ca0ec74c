use Rattle.rtp_ext.proofs.Common.{rules, extension_of_kind}
use Rattle.rtp_ext.proofs.RenamesLemmas.{IsRenamedBut-start, IsRenamedBut-next, Renames-walked}
use Rattle.rtp_ext.proofs.kinds.Kinds.rename.Goals as goal

pub loop-id-init : goal.loop-id-init
loop-id-init g c = (
  IsRenamedBut-start (g.Self.Kinds.known c.args.self.now) (extension_of_kind c.args.from) (extension_of_kind c.args.to) c.args.lowest c.args.ids.now
      c.walk_end-end.ensures.all c.told-ids,
  c.walk_end-end.ensures.within,
)

pub loop-id-preserved : goal.loop-id-preserved
loop-id-preserved g c =
    let byte = c.renamed.ensures in (
      IsRenamedBut-next c.args.from c.args.to _ c.renamed.result c.in-Some.kind
          c.in-Some.ensures.some (search rules) c.from-index.ensures byte.renamed byte.gone byte.others c.loop-id.invariant.0,
      c.in-Some.ensures.within,
    )

pub returns : goal.returns
returns g c = Renames-walked c.in_default.ensures.none c.loop-id.invariant.0
