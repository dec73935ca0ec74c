use Rattle.rtp_ext.proofs.Common.{◌+◌, drop, false≢true, Element}
use Rattle.rtp_ext.proofs.RawWritingLemmas.{left-more, AreWritableIn-more, AreWritableIn-not}
use Rattle.rtp_ext.proofs.raw_writing.fit.Goals as goal

pub returns-in_default : goal.returns-in_default
returns-in_default g c =
    let elements = g.L.ElementList.elements c.args.elements in
    let i = c.loop-index.index in
    let element : Element = (c.at-id.result.0, c.at-id.result.1.now) in (
      λ is. absurd (false≢true is),
      λ fit. absurd (AreWritableIn-not (drop (i + 1) elements) element (left-more elements i element c.at-id.ensures)
          c.in_default.ensures.none (c.loop-index.invariant.1 fit)),
    )

pub loop-index-preserved : goal.loop-index-preserved
loop-index-preserved g c =
    let elements = g.L.ElementList.elements c.args.elements in
    let i = c.loop-index.index in
    let element : Element = (c.at-id.result.0, c.at-id.result.1.now) in
    let more = AreWritableIn-more c.args.form (drop (i + 1) elements) element c.in-Some.rest (left-more elements i element c.at-id.ensures)
    c.in-Some.ensures.some.0 c.in-Some.ensures.some.1 in (
      λ fit. c.loop-index.invariant.0 (more.0 fit),
      λ fit. more.1 (c.loop-index.invariant.1 fit),
    )
