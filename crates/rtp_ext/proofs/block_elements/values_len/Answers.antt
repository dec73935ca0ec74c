use Rattle.rtp_ext.proofs.Common.{refl, arith, ap, ◌∙◌, length, length-append, extension_of_kind, spelled_data, items_bytes, element_or_nothing, known_slots}
use Rattle.rtp_ext.proofs.WrittenBlockLemmas.{items_bytes-nil, items_bytes-cons}
use Rattle.rtp_ext.proofs.KnownWritingLemmas.{known_bytes}
use Rattle.rtp_ext.proofs.KnownItemsLemmas.{count_known}
use Rattle.rtp_ext.proofs.block_elements.values_len.Goals as goal

pub with_element-len-requires : goal.with_element-len-requires
with_element-len-requires g c = omega (arith, ap length c.in-Some.ensures.some, c.loop-kind.invariant.1, c.loop-kind.invariant.2)

pub loop-kind-preserved : goal.loop-kind-preserved
loop-kind-preserved g c =
    let id = c.in-Some.field-0-0 in
    let more = c.next.new.self in
    let data_is = spelled_data (extension_of_kind c.in-Some.kind) (g.V.ElementValues.values c.args.ev.now) in
    let split = ap length (ap (items_bytes c.args.form (g.V.ElementValues.values c.args.ev.now)) c.in-Some.ensures.some
    ∙ items_bytes-cons c.args.form (g.V.ElementValues.values c.args.ev.now) (id, (extension_of_kind c.in-Some.kind)) more) in
    let long = length-append (element_or_nothing c.args.form id data_is) (items_bytes c.args.form (g.V.ElementValues.values c.args.ev.now) more) in (
      omega (arith, c.loop-kind.invariant.0, split, long, c.with_element-len.ensures.length id),
      omega (arith, ap length c.in-Some.ensures.some, c.loop-kind.invariant.1, c.with_element-len.ensures.few),
      c.loop-kind.invariant.2,
    )

pub returns-clause-length : goal.returns-clause-length
returns-clause-length g c =
    let none = ap length (ap (items_bytes c.args.form (g.V.ElementValues.values c.args.ev.now)) c.in_default.ensures.none ∙ items_bytes-nil c.args.form (g.V.ElementValues.values c.args.ev.now)) in
    let whole = ap length (known_bytes c.args.form c.args.ids.now (known_slots c.args.ids.now) (g.V.ElementValues.values c.args.ev.now) refl) in
    omega (arith, c.loop-kind.invariant.0, none, whole)

pub returns-clause-by_map : goal.returns-clause-by_map
returns-clause-by_map g c =
    omega (arith, c.loop-kind.invariant.1, count_known c.args.ids.now (known_slots c.args.ids.now) refl)
