use Rattle.rtp_vla.proofs.AllocationReadingLemmas.{half_read}
use Rattle.rtp_vla.proofs.parts.half_at.Goals as goal

pub returns : goal.returns
returns c = half_read c.args.bytes.now c.args.i c.requires
