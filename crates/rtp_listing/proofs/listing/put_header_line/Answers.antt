use Rattle.rtp_listing.proofs.Common.{take, codes, decimal, ◌++◌}
use Rattle.rtp_listing.proofs.TextLemmas.{joined}
use Rattle.rtp_listing.proofs.listing.put_header_line.Goals as goal

pub returns-in-None-clause-written : goal.returns-in-None-clause-written
returns-in-None-clause-written c =
    let number = take c.put_field-end.result c.put_field-end.new.text in
    let line = take c.put_bytes.result c.put_bytes.new.text in
    rw c.in-None.is (joined (take c.args.at c.args.text.now) number line (codes "packet " ++ decimal c.args.packet) (codes ": unreadable")
    c.put_field-end.ensures.written c.put_bytes.ensures.written)
