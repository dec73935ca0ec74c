use Rattle.std.proofs.Common.{sym, ◌∙◌}
use Rattle.std.proofs.lemmas.Bool.{not-true, not-false}
use Rattle.rtp_wire.proofs.LeftOutLemmas.{left-clear, left-set}
use Rattle.rtp_wire.proofs.header.left_out.values_left_out.Goals as goal

pub returns-then-not-fixed : goal.returns-then-not-fixed
returns-then-not-fixed g c =
    left-clear (g.K.Kinds.slots c.args.exts.now) (g.F.GetFields.header c.args.fields.now) (g.V.ElementValues.values c.args.values.now) c.kinds.result (sym c.fixed.ensures.has_extension ∙ not-true _ c.if-not-fixed.true)
    c.kinds.ensures

pub returns : goal.returns
returns g c =
    left-set c.of.result (g.K.Kinds.slots c.args.exts.now) (g.F.GetFields.header c.args.fields.now) (g.V.ElementValues.values c.args.values.now) c.values_left_out.result
    c.of.ensures (sym c.fixed.ensures.has_extension ∙ not-false _ c.if-not-fixed.false) c.values_left_out.ensures
