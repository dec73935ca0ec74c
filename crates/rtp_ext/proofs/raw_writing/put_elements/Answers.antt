use Rattle.rtp_ext.proofs.Common.{◌≡◌, ◌+◌, ◌++◌, length, drop, arith, drop_all, Element, elements_bytes}
use Rattle.rtp_ext.proofs.RawWritingLemmas.{left-more, AreUnderWay-room, AreUnderWay-step, AreUnderWay-end, AreWritableIn-read}
use Rattle.rtp_ext.proofs.raw_writing.put_elements.Goals as goal

pub put_element-at-requires : goal.put_element-at-requires
put_element-at-requires g c =
    let elements = g.L.ElementList.elements c.args.elements in
    let i = c.loop-index.index in
    let element : Element = (c.at-id.result.0, c.at-id.result.1.now) in
    let fits = AreUnderWay-room (drop (i + 1) elements) element
    c.loop-index.invariant (left-more elements i element c.at-id.ensures) in
    record { room = fits.0; writable = fits.1 }

pub loop-index-preserved : goal.loop-index-preserved
loop-index-preserved g c =
    let elements = g.L.ElementList.elements c.args.elements in
    let i = c.loop-index.index in
    let element : Element = (c.at-id.result.0, c.at-id.result.1.now) in
    AreUnderWay-step (drop (i + 1) elements) element
    c.loop-index.invariant (left-more elements i element c.at-id.ensures) c.put_element-at.ensures.written c.put_element-at.ensures.end

-- all are written
all : (g : _) (c : goal.After-loop-index g) → (c.loop-index.at ≡ length (elements_bytes c.args.form (g.L.ElementList.elements c.args.elements)))
    × (c.loop-index.buf ≡ elements_bytes c.args.form (g.L.ElementList.elements c.args.elements) ++ drop c.loop-index.at c.args.buf.now)
all g c =
    let elements = g.L.ElementList.elements c.args.elements in
    AreUnderWay-end c.loop-index.invariant (drop_all c.loop-index.index elements (omega arith))

pub returns-clause-length : goal.returns-clause-length
returns-clause-length g c = (all g c).0

pub returns-clause-written : goal.returns-clause-written
returns-clause-written g c = (all g c).1

pub returns-clause-elements : goal.returns-clause-elements
returns-clause-elements g c zeros = AreWritableIn-read zeros c.requires
