use Rattle.rtp_ext.proofs.Common.{[], ◌∷◌, ◌++◌, List, ℕ, refl, sym, ap, ◌∙◌, append_assoc, append-nil, codes, HasWritten, Extension, item_text, items_text}
use Rattle.std.proofs.Output.{writes_in_calls_nil, has_written_append, has_written_of_eq}
use Rattle.rtp_ext.proofs.iter.write_entries.Goals as goal

pub loop-id-init : goal.loop-id-init
loop-id-init g c = (
  ([], (refl, refl)),
  λ plain. ([], record { wrote = writes_in_calls_nil g.W.Write.write_str_gives _; plain = plain }, ap (items_text []) c.into_iter-id-iterator.ensures.into_iter_gives),
)

pub loop-id-preserved : goal.loop-id-preserved
unfolding lib.Utf8.encode
loop-id-preserved g c = (
  (44 ∷ 32 ∷ [], (refl, refl)),
  λ plain.
      let took = g.W.Write.write_str_gives in
      let so_far = c.loop-id.invariant.1 plain in
      let item : ℕ × Extension = (c.in-Some.id, c.in-Some.ext.now) in
      let text = c.loop-id.lead.now ++ item_text item in
      let rest = items_text (codes ", ") c.next.new.self in
      let here : HasWritten took c.loop-id.f text c.write.new.self = c.in_ok-write.ensures.writes so_far.1.plain refl in (
        so_far.0 ++ text,
        has_written_append took _ _ _ _ _ so_far.1 here,
        append_assoc so_far.0 text rest
            ∙ (ap (λ (xs : List ℕ). so_far.0 ++ xs) (append_assoc c.loop-id.lead.now (item_text item) rest)
            ∙ (ap (λ items. so_far.0 ++ items_text c.loop-id.lead.now items) (sym c.in-Some.ensures.steps) ∙ so_far.2)),
      ),
)

pub returns : goal.returns
returns g c plain ok =
    let took = g.W.Write.write_str_gives in
    let so_far = c.loop-id.invariant.1 plain in
    has_written_of_eq took _ _ _ _
    (sym (append-nil so_far.0) ∙ ap (λ items. so_far.0 ++ items_text c.loop-id.lead.now items) (sym c.in-None.ensures.steps.0) ∙ so_far.2)
    so_far.1
