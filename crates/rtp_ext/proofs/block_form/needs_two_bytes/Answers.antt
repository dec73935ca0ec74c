use Rattle.rtp_ext.proofs.Common.{sym, ◌∙◌, refl, items_from, known_slots}
use Rattle.rtp_ext.proofs.KnownItemsLemmas.{needs_two_by, not_long_known, no_empty}
use Rattle.rtp_ext.proofs.ShortBlockLemmas.{short_block}
use Rattle.rtp_ext.proofs.block_form.needs_two_bytes.Goals as goal

pub returns-then-has_long-clause-needed : goal.returns-then-has_long-clause-needed
returns-then-has_long-clause-needed g c =
    sym (needs_two_by c.args.ids.now (known_slots c.args.ids.now) (g.V.ElementValues.values c.args.ev.now) refl
    (sym c.if-has_long.true ∙ c.has_long.ensures))

pub returns-then-has_empty-clause-needed : goal.returns-then-has_empty-clause-needed
returns-then-has_empty-clause-needed g c =
    c.has_empty_data.ensures
    ∙ sym (needs_two_by c.args.ids.now (known_slots c.args.ids.now) (g.V.ElementValues.values c.args.ev.now) refl
    (sym c.if-has_long.false ∙ c.has_long.ensures))

pub returns-else-has_empty-clause-needed : goal.returns-else-has_empty-clause-needed
returns-else-has_empty-clause-needed g c =
    c.if-has_empty.false
    ∙ sym (no_empty (g.V.ElementValues.values c.args.ev.now) (items_from 0 (known_slots c.args.ids.now)) (sym c.has_empty_text-has_empty.ensures.empty ∙ c.if-has_empty.false))
    ∙ sym (needs_two_by c.args.ids.now (known_slots c.args.ids.now) (g.V.ElementValues.values c.args.ev.now) refl
    (sym c.if-has_long.false ∙ c.has_long.ensures))

pub returns-then-has_empty-clause-short : goal.returns-then-has_empty-clause-short
returns-then-has_empty-clause-short g c = λ none.
    short_block (known_slots c.args.ids.now) (g.V.ElementValues.values c.args.ev.now)
    (sym (not_long_known c.args.ids.now (known_slots c.args.ids.now) refl
    (sym c.has_long.ensures ∙ c.if-has_long.false))) refl c.has_empty_text-has_empty.ensures.few

pub returns-else-has_empty-clause-short : goal.returns-else-has_empty-clause-short
returns-else-has_empty-clause-short g c = λ none.
    short_block (known_slots c.args.ids.now) (g.V.ElementValues.values c.args.ev.now)
    (sym (not_long_known c.args.ids.now (known_slots c.args.ids.now) refl
    (sym c.has_long.ensures ∙ c.if-has_long.false))) refl c.has_empty_text-has_empty.ensures.few
