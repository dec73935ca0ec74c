use Rattle.rtp_c.proofs.StandardLemmas.{WritesData-put}
use Rattle.rtp_c.proofs.standard.orientation.rtpw_write_orientation.Goals as goal

pub returns : goal.returns
returns c = WritesData-put (record { orientation = c.in-Some.given; is_given = c.in-Some.ensures.found; bytes_are = c.to_bytes.ensures.bytes }) c.put_data.ensures
