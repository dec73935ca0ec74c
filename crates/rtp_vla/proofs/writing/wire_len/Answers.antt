use Rattle.rtp_vla.proofs.Common.{◌∙◌, length, written_of}
use Rattle.rtp_vla.proofs.AllocationWriting.{some_value}
use Rattle.rtp_vla.proofs.writing.wire_len.Goals as goal

pub returns : goal.returns
returns c =
    let v = c.args.v.now in
    let measured = c.checked_wire_len.ensures in
    c.unwrap_or.ensures ∙ some_value c.checked_wire_len.result v (length (written_of v)) measured.found measured.none c.requires
