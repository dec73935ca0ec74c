use Rattle.rtp_vla.proofs.Common.{sym, ◌∙◌, overwritten-nil}
use Rattle.rtp_vla.proofs.AllocationWritingLemmas.{mask_bytes-none}
use Rattle.rtp_vla.proofs.writing.put_masks.Goals as goal

pub returns-else-shared-eq0-clause-written : goal.returns-else-shared-eq0-clause-written
returns-else-shared-eq0-clause-written c =
    rw (mask_bytes-none c.args.masks.now (λ none. c.if-shared-eq0.false (c.requires.shared ∙ none))) (sym (overwritten-nil c.args.buf.now c.args.at))
