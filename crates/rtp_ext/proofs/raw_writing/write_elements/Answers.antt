use Rattle.std.proofs.Common.{drop}
use Rattle.rtp_ext.proofs.RawWritingLemmas.{AreElements-front}
use Rattle.rtp_ext.proofs.raw_writing.write_elements.Goals as goal

pub returns-clause-elements : goal.returns-clause-elements
returns-clause-elements g c zeros =
    AreElements-front (drop c.put_elements.result c.args.buf.now) zeros
    c.put_elements.ensures.length c.put_elements.ensures.written (c.put_elements.ensures.elements zeros)
