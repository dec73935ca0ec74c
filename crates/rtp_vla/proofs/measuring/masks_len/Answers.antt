use Rattle.std.proofs.Common.{sym, ◌∙◌}
use Rattle.rtp_vla.proofs.AllocationWritingLemmas.{length-mask_bytes}
use Rattle.rtp_vla.proofs.measuring.masks_len.Goals as goal

pub returns-then-shared-eq0-clause-len : goal.returns-then-shared-eq0-clause-len
returns-then-shared-eq0-clause-len c = sym (length-mask_bytes c.args.masks.now (sym c.requires.shared ∙ c.if-shared-eq0.true))
