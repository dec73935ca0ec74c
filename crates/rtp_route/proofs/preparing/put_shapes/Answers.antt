use Rattle.std.proofs.Common.{◌∙◌, arith, length-set}
use Rattle.rtp_ext.specs.Elements.{Element}
use Rattle.rtp_route.proofs.KnownGroupLemmas.{shapes-more}
use Rattle.rtp_route.proofs.preparing.put_shapes.Goals as goal

pub loop-index-preserved : goal.loop-index-preserved
loop-index-preserved g c =
    let at = c.loop-index in
    let news = g.L.ElementList.elements c.args.elements in
    let element : Element = (c.at-id.result.0, c.at-id.result.1.now) in (
      length-set at.ids at.index element.0 ∙ at.invariant.0,
      length-set at.lens at.index _ ∙ at.invariant.1,
      shapes-more at.ids at.lens at.index news element (omega (arith, at.invariant.0, c.loop-index-test.true, c.requires.few, c.count-index-end.ensures)) (omega (arith, at.invariant.1, c.loop-index-test.true, c.requires.few, c.count-index-end.ensures)) c.at-id.ensures at.invariant.2,
    )
