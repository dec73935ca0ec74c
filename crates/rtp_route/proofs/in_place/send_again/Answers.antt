use Rattle.rtp_route.proofs.RetransmittedLemmas.{first-of_front, number-put}
use Rattle.rtp_route.proofs.in_place.send_again.Goals as goal

pub returns : goal.returns
returns c =
    let buf = c.args.buf.now in
    number-put buf c.clear_padding.new.header c.put.new.buf c.to_be_bytes.result c.args.header_len _ c.args.original_number c.to_be_bytes.ensures c.clear_padding.ensures c.put.ensures.written c.requires.some c.requires.room
    (first-of_front buf c.args.header_len c.requires.some)
