use Rattle.rtp_wire.proofs.Common.{refl, arith, length, elements_bytes}
use Rattle.rtp_wire.proofs.BlockWriting.{length-block_of, row-put}
use Rattle.rtp_wire.proofs.header.block.write_block_of.Goals as goal

pub returns-clause-written : goal.returns-clause-written
returns-clause-written g c =
    let buf = c.args.buf.now in
    let row = elements_bytes c.args.form (g.L.ElementList.elements c.args.elements) in
    let put = row-put row buf c.put_elements-elements_len.new.buf c.put_elements-elements_len.result
    c.put_elements-elements_len.ensures.length c.put_elements-elements_len.ensures.written
    (omega (arith, c.requires.room, length-block_of c.args.form row (length row) refl)) in
    c.close_block.ensures.closed buf row put.put put.long c.put_elements-elements_len.ensures.length
