use Rattle.rtp_wire.proofs.Common.{refl, arith, length, elements_bytes, written_elements}
use Rattle.rtp_wire.proofs.BlockWriting.{length-block}
use Rattle.rtp_wire.proofs.header.block.block_fits.Goals as goal

pub returns-then-values_len_at_most-room : goal.returns-then-values_len_at_most-room
returns-then-values_len_at_most-room g c =
    let exts = c.args.ids.now in
    let ev = g.V.ElementValues.values c.args.ev.now in
    let len = length (elements_bytes c.args.form (written_elements exts ev)) in (
      λ _. omega (arith, length-block c.args.form exts ev len refl, c.values_len_at_most.ensures.most, c.if-values_len_at_most-room.true),
      λ _. refl,
    )
