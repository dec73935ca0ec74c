use Rattle.std.proofs.Common.{rules}
use Rattle.rtp_c.proofs.StandardLemmas.{WritesData-put}
use Rattle.rtp_c.proofs.standard.transmission_offset.rtpw_write_transmission_offset.Goals as goal

pub returns : goal.returns
returns c = WritesData-put (search rules) c.put_data.ensures
