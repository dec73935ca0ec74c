use Rattle.rtp_wire.proofs.Common.{refl, arith, ap, ◌∙◌, length, OnTrue_at, elements_bytes, written_elements}
use Rattle.rtp_ext.specs.KindsById.{known_slots}
use Rattle.rtp_ext.specs.ElementWriting.{items_bytes}
use Rattle.rtp_ext.proofs.WrittenBlockLemmas.{items_bytes-nil}
use Rattle.rtp_ext.proofs.KnownWritingLemmas.{known_bytes}
use Rattle.rtp_wire.proofs.BlockWriting.{length-block}
use Rattle.rtp_wire.proofs.header.block.block_len.Goals as goal

pub returns-then-are_none-clause-length : goal.returns-then-are_none-clause-length
returns-then-are_none-clause-length g c =
    let values = g.V.ElementValues.values c.args.ev.now in
    let none = ap length (ap (items_bytes c.args.form values) (OnTrue_at c.if-are_none.true c.are_none.ensures) ∙ items_bytes-nil c.args.form values) in
    let whole = ap length (known_bytes c.args.form c.args.ids.now (known_slots c.args.ids.now) values refl) in
    omega (arith, none, whole, length-block c.args.form c.args.ids.now values (length (elements_bytes c.args.form (written_elements c.args.ids.now values))) refl)

pub returns-clause-length : goal.returns-clause-length
returns-clause-length g c =
    omega (
      arith,
      c.in_words.ensures,
      length-block c.args.form c.args.ids.now (g.V.ElementValues.values c.args.ev.now) c.values_len.result c.values_len.ensures.length,
    )
