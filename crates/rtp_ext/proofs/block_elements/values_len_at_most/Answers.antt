use Rattle.rtp_ext.proofs.Common.{refl, arith, ◌≤◌, ◌+◌, ◌*◌, VideoLayersAllocation, spelled_data, sym, length, subst, ExtensionsForm, elements_bytes, written_elements, known_slots}
use Rattle.rtp_ext.proofs.ShortBlockLemmas.{weakened, plain_block, short_by, written_at_most}
use Rattle.rtp_ext.proofs.block_elements.values_len_at_most.Goals as goal

pub returns-in-OneByte-clause-most : goal.returns-in-OneByte-clause-most
returns-in-OneByte-clause-most g c =
    let exts = c.args.ids.now in
    let values = g.V.ElementValues.values c.args.ev.now in
    subst (λ (form : ExtensionsForm). length (elements_bytes form (written_elements exts values)) ≤ 17 * c.at_most.result) (sym c.in-OneByte.is)
    (short_by exts (known_slots c.args.ids.now) values c.at_most.result refl (c.requires.short c.in-OneByte.is) c.at_most.ensures.most)

pub returns-else-is_told-clause-most : goal.returns-else-is_told-clause-most
returns-else-is_told-clause-most g c =
    let exts = c.args.ids.now in
    let values = g.V.ElementValues.values c.args.ev.now in
    subst (λ (form : ExtensionsForm). length (elements_bytes form (written_elements exts values)) ≤ c.most_in_two_byte_form.result) (sym c.in-TwoByte.is)
    (written_at_most exts values c.most_in_two_byte_form.result c.iter.ensures.all (c.most_in_two_byte_form.ensures.most values c.requires.few))

pub returns-then-is_told-clause-most : goal.returns-then-is_told-clause-most
returns-then-is_told-clause-most g c =
    let exts = c.args.ids.now in
    let values = g.V.ElementValues.values c.args.ev.now in
    let n = c.max-longest.result in
    let most = c.at_most-in-TwoByte.result in
    subst (λ (form : ExtensionsForm). length (elements_bytes form (written_elements exts values)) ≤ (2 + n) * most) (sym c.in-TwoByte.is)
    (plain_block exts (known_slots c.args.ids.now) values n most refl c.requires.few (omega (arith, c.max-longest.ensures))
    (weakened c.layers_at_most-layers.result n (spelled_data VideoLayersAllocation values) (omega (arith, c.max-longest.ensures)) c.layers_at_most-layers.ensures.most)
    c.at_most-in-TwoByte.ensures.most)
