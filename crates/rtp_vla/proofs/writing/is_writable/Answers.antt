use Rattle.std.proofs.Common.{◌∙◌, sym}
use Rattle.rtp_vla.proofs.AllocationWriting.{Writable-from, can_be_written-from}
use Rattle.rtp_vla.proofs.writing.is_writable.Goals as goal

pub returns : goal.returns
returns c =
    let v = c.args.v.now in
    let cases = c.is_some.ensures ∙ c.checked_wire_len.ensures.cases in
    record {
      cases = cases;
      writable = (λ is. Writable-from v (sym cases ∙ is), λ some. cases ∙ can_be_written-from v some);
    }
