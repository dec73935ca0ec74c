use Rattle.rtp_vla.proofs.Common.{length, can_be_written, written_of}
use Rattle.rtp_vla.proofs.AllocationWriting.{some_found, none_found, some_is}
use Rattle.rtp_vla.proofs.video_layers.VideoLayers.checked_wire_len.Goals as goal

pub returns : goal.returns
returns c =
    let v = c.args.self.now in
    let measured = rw c.held.ensures at c.writable_len.ensures in
    record {
      found = some_found c.writable_len.result v (length (written_of v)) measured.fits;
      none = none_found c.writable_len.result v measured.unfit;
      cases = some_is c.writable_len.result (can_be_written v) (length (written_of v)) measured.fits measured.unfit;
    }
