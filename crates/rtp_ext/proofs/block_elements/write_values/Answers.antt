use Rattle.rtp_ext.proofs.Common.{refl, arith, sym, ap, ◌∙◌, ◌≡◌, ◌++◌, List, length, drop, replicate, subst, AllByRecursion, extension_of_kind, items_bytes, IsCarried, items_from, elements_bytes, written_elements, Element, AreElements, known_slots}
use Rattle.rtp_ext.proofs.FormLemmas.{all_fit}
use Rattle.rtp_ext.proofs.WrittenBlockLemmas.{IsUnderWay, IsUnderWay-start, IsUnderWay-next, IsUnderWay-step, IsUnderWay-stopped, length-items, length-header_bytes}
use Rattle.rtp_ext.proofs.KnownWritingLemmas.{known_bytes, AreValues_by}
use Rattle.rtp_ext.proofs.KnownItemsLemmas.{chosen_known, written_known, count_known}
use Rattle.rtp_ext.proofs.WrittenElementsLemmas.{AreElements-written}
use Rattle.rtp_ext.proofs.WrittenValuesLemmas.{AreValues-written}
use Rattle.rtp_ext.proofs.block_elements.write_values.Goals as goal

pub loop-id-init : goal.loop-id-init
loop-id-init g c =
    let exts = known_slots c.args.ids.now in
    subst (λ items. IsUnderWay c.args.form (g.V.ElementValues.values c.args.ev.now) c.args.buf.now c.args.buf.now (items_from 0 exts) items 0)
    (sym c.iter-items.ensures.all)
    (IsUnderWay-start c.args.form (g.V.ElementValues.values c.args.ev.now) c.args.buf.now (items_from 0 exts) (all_fit exts (g.V.ElementValues.values c.args.ev.now) c.args.form (chosen_known c.args.ids.now exts (g.V.ElementValues.values c.args.ev.now) c.args.form refl c.requires.form)))

pub write_element-at-requires : goal.write_element-at-requires
write_element-at-requires g c =
    let exts = known_slots c.args.ids.now in
    let next = IsUnderWay-next c.next_within.new.items (c.in-Some.id, (extension_of_kind c.in-Some.kind))
    c.loop-id.invariant c.in-Some.ensures.some.1
    (omega (arith, c.requires.room, ap length (known_bytes c.args.form c.args.ids.now (known_slots c.args.ids.now) (g.V.ElementValues.values c.args.ev.now) refl))) in
    record {
      header = omega (arith, c.in-Some.ensures.some.0, c.element_header_len-header_len.ensures c.in-Some.id 0);
      room = next.0;
      id = next.1.0;
      fits = next.1.1;
    }

pub loop-id-preserved : goal.loop-id-preserved
loop-id-preserved g c =
    let exts = known_slots c.args.ids.now in
    IsUnderWay-step c.next_within.new.items (c.in-Some.id, (extension_of_kind c.in-Some.kind)) c.loop-id.invariant c.in-Some.ensures.some.1
    (omega (arith, c.requires.room, ap length (known_bytes c.args.form c.args.ids.now (known_slots c.args.ids.now) (g.V.ElementValues.values c.args.ev.now) refl)))
    c.write_element-at.ensures.written c.write_element-at.ensures.end c.write_element-at.ensures.carried

-- all are written
ended : (g : _) (c : goal.In_default g) →
    (c.loop-id.at ≡ length (items_bytes c.args.form (g.V.ElementValues.values c.args.ev.now) (items_from 0 (known_slots c.args.ids.now))))
    × (c.loop-id.buf ≡ items_bytes c.args.form (g.V.ElementValues.values c.args.ev.now) (items_from 0 (known_slots c.args.ids.now))
    ++ drop (length (items_bytes c.args.form (g.V.ElementValues.values c.args.ev.now) (items_from 0 (known_slots c.args.ids.now)))) c.args.buf.now)
    × AllByRecursion (IsCarried c.args.form (g.V.ElementValues.values c.args.ev.now)) (items_from 0 (known_slots c.args.ids.now))
ended g c =
    IsUnderWay-stopped c.element_header_len-header_len.result c.element_header_len-header_len.ensures
    (omega (arith, c.requires.room, ap length (known_bytes c.args.form c.args.ids.now (known_slots c.args.ids.now) (g.V.ElementValues.values c.args.ev.now) refl)))
    c.loop-id.invariant c.in_default.ensures.none

pub returns-clause-length : goal.returns-clause-length
returns-clause-length g c = (ended g c).0 ∙ ap length (known_bytes c.args.form c.args.ids.now (known_slots c.args.ids.now) (g.V.ElementValues.values c.args.ev.now) refl)

pub returns-clause-written : goal.returns-clause-written
returns-clause-written g c =
    (ended g c).1 ∙ ap (λ bytes. bytes ++ drop (length bytes) c.args.buf.now) (known_bytes c.args.form c.args.ids.now (known_slots c.args.ids.now) (g.V.ElementValues.values c.args.ev.now) refl)
    ∙ ap (λ end. elements_bytes c.args.form (written_elements c.args.ids.now (g.V.ElementValues.values c.args.ev.now)) ++ drop end c.args.buf.now) (sym (returns-clause-length g c))

pub returns-clause-bound : goal.returns-clause-bound
returns-clause-bound g c =
    omega (arith, (ended g c).0, length-items c.args.form (g.V.ElementValues.values c.args.ev.now) (items_from 0 (known_slots c.args.ids.now)) (ended g c).2, c.iter-items.ensures.few, ap length c.iter-items.ensures.all)

pub returns-clause-by_map : goal.returns-clause-by_map
returns-clause-by_map g c =
    omega (
      arith,
      (ended g c).0,
      length-items c.args.form (g.V.ElementValues.values c.args.ev.now) (items_from 0 (known_slots c.args.ids.now)) (ended g c).2,
      count_known c.args.ids.now (known_slots c.args.ids.now) refl,
    )

pub returns-clause-elements : goal.returns-clause-elements
returns-clause-elements g c = λ zeros.
    subst (λ (elements : List Element). AreElements c.args.form (elements_bytes c.args.form elements ++ replicate zeros 0) elements)
    (written_known c.args.ids.now (known_slots c.args.ids.now) (g.V.ElementValues.values c.args.ev.now) refl)
    (AreElements-written c.args.form (known_slots c.args.ids.now) (g.V.ElementValues.values c.args.ev.now) zeros (ended g c).2)

pub returns-clause-values : goal.returns-clause-values
returns-clause-values g c =
    AreValues_by c.args.ids.now (known_slots c.args.ids.now) (g.V.ElementValues.values c.args.ev.now) refl
    (AreValues-written c.args.form (known_slots c.args.ids.now) (g.V.ElementValues.values c.args.ev.now) (ended g c).2)

pub overflow_add-at : goal.overflow_add-at
overflow_add-at g c =
    omega (
      arith,
      c.loop-id.invariant.ends,
      c.loop-id.invariant.long,
      c.requires.room,
      ap length (known_bytes c.args.form c.args.ids.now (known_slots c.args.ids.now) (g.V.ElementValues.values c.args.ev.now) refl),
      c.element_header_len-header_len.ensures 0 0,
      length-header_bytes c.args.form 0 0,
    )
