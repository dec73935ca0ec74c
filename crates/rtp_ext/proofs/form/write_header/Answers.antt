use Rattle.rtp_ext.proofs.Common.{◌≡◌, ◌*◌, ◌∙◌, arith, overwritten-set, overwritten-set_two}
use Rattle.rtp_ext.proofs.FormLemmas.{rotated_id}
use Rattle.rtp_ext.proofs.form.write_header.Goals as goal

pub returns-in-OneByte : goal.returns-in-OneByte
returns-in-OneByte c =
    let fits = c.requires.room in
    let turned : c.rotate_left.result ≡ c.args.id * 16 = c.rotate_left.ensures ∙ rotated_id c.args.id (c.requires.fits c.in-OneByte.is).0 in
    rw c.in-OneByte.is (rw turned (overwritten-set c.args.buf.now c.args.at _ (omega (arith, rw c.in-OneByte.is at fits))))

pub returns-in-TwoByte : goal.returns-in-TwoByte
returns-in-TwoByte c =
    let fits = c.requires.room in
    rw c.in-TwoByte.is (overwritten-set_two c.args.buf.now c.args.at c.args.id c.args.len (omega (arith, rw c.in-TwoByte.is at fits)))
