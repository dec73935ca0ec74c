use Rattle.rtp_ext.proofs.Common.{[], ◌∷◌, ap, sym, refl, ◌∙◌, subst, List, option_map, extension_of_kind, one_kind, Element, AreElements, ReadUntilRefused, ReadElements}
use Rattle.rtp_ext.proofs.MemoryLemmas.{OnErr-from}
use Rattle.rtp_ext.proofs.KindsByIdLemmas.{ReadElements-known, ReadUntilRefused-known}
use Rattle.rtp_ext.proofs.ValuesLaws.{ReadElements-none, ReadElements-passed, ReadElements-parsed}
use Rattle.rtp_ext.proofs.LastAllocationLemmas.{mapped-to, mapped-to-layers, ReadElements-row, IsPastRow-other, IsPastRow-row, IsReadPastRow-start, IsReadPastRow-more, IsReadTo-end, IsReadPastRow-refused}
use Rattle.rtp_ext.proofs.ApartLemmas.{other_kind}
use Rattle.rtp_ext.proofs.ValuesFound.{unmapped-carries}
use Rattle.rtp_ext.proofs.block_values.read_in.Goals as goal

pub loop-id-init : goal.loop-id-init
loop-id-init g c = IsReadPastRow-start g.V.SetValues.shows (g.K.Kinds.known c.args.exts.now) c.new-elements.result c.args.ev.now

pub loop-id-preserved : goal.loop-id-preserved
loop-id-preserved g c =
    let exts = g.K.Kinds.known c.args.exts.now in
    let element : Element = (c.in-Some.id, c.in-Some.bytes.now) in
    let mapped = sym c.get.ensures ∙ ap (option_map extension_of_kind) c.in_default-get.is in
    IsReadPastRow-more g.V.SetValues.shows c.next.new.self [] element c.loop-id.ev c.in-Some.ensures.steps
    (ReadElements-passed g.V.SetValues.shows exts [] element c.loop-id.ev c.loop-id.ev
    (unmapped-carries exts element mapped)
    (ReadElements-none g.V.SetValues.shows exts c.loop-id.ev))
    (IsPastRow-other exts c.next.new.self element (λ allocation. let both = sym mapped ∙ allocation.0 in absurd cc)) c.loop-id.invariant

pub loop-id-preserved-in_ok-parse_value-in_default-kind : goal.loop-id-preserved-in_ok-parse_value-in_default-kind
loop-id-preserved-in_ok-parse_value-in_default-kind g c =
    let exts = g.K.Kinds.known c.args.exts.now in
    let told = c.parse_value-in_default-kind.ensures in
    let element : Element = (c.in-Some.id, c.in-Some.bytes.now) in
    let mapped = mapped-to exts c.in-Some.id c.in-Some-get.kind c.get.ensures c.in-Some-get.is in
    IsReadPastRow-more g.V.SetValues.shows c.next.new.self [] element c.parse_value-in_default-kind.new.ev
    c.in-Some.ensures.steps
    (ReadElements-parsed g.V.SetValues.shows exts [] element (extension_of_kind c.in-Some-get.kind) c.loop-id.ev c.loop-id.ev c.parse_value-in_default-kind.new.ev c.parse_value-in_default-kind.result
    mapped
    (rw c.in_ok-parse_value-in_default-kind.was refl) told.found told.only told.unchanged (ReadElements-none g.V.SetValues.shows exts c.loop-id.ev))
    (IsPastRow-other exts c.next.new.self element
    (λ allocation. other_kind c.in-Some-get.kind c.in_default-kind.not-VideoLayersAllocation (one_kind (sym mapped ∙ allocation.0))))
    c.loop-id.invariant

pub loop-id-preserved-in_ok-parse_value-in-VideoLayersAllocation :
    goal.loop-id-preserved-in_ok-parse_value-in-VideoLayersAllocation
loop-id-preserved-in_ok-parse_value-in-VideoLayersAllocation g c =
    let exts = g.K.Kinds.known c.args.exts.now in
    let told = c.parse_value.ensures in
    let row = c.last_in_row-last.ensures.row in
    let element : Element = (c.in-Some.id, c.in-Some.bytes.now) in
    IsReadPastRow-more g.V.SetValues.shows c.last_in_row-last.new.elements row.row element c.parse_value.new.ev
    (c.in-Some.ensures.steps ∙ ap (λ (es : List Element). element ∷ es) row.elements_are)
    (ReadElements-row g.V.SetValues.shows element c.loop-id.ev c.parse_value.new.ev c.parse_value.result
    (mapped-to-layers exts c.in-Some.id c.get.ensures c.in-Some-get.is c.in-VideoLayersAllocation.is refl)
    row.no_other row.last (rw c.in_ok-parse_value-in-VideoLayersAllocation.was refl) told.found told.only told.unchanged)
    (IsPastRow-row exts row.row c.last_in_row-last.new.elements element row.elements_are
    c.last_in_row-last.ensures.whole c.last_in_row-last.ensures.short)
    c.loop-id.invariant

-- memory was refused to an allocation
stopped : (g : _) (c : goal.After-from_residual g) (elements : List Element) → AreElements c.args.form c.args.buf.now elements
    → ReadUntilRefused g.V.SetValues.shows (g.K.Kinds.slots c.args.exts.now) elements c.args.ev.now c.parse_value.new.ev
stopped g c elements are =
    let exts = g.K.Kinds.known c.args.exts.now in
    let element : Element = (c.in-Some.id, c.in-Some.bytes.now) in
    let told = c.parse_value.ensures in
    ReadUntilRefused-known g.V.SetValues.shows (g.K.Kinds.slots c.args.exts.now) _ elements _ _ (g.met.K.Kinds.known_is c.args.exts.now)
    (subst (λ es. ReadUntilRefused g.V.SetValues.shows exts es c.args.ev.now c.parse_value.new.ev) (sym (c.new-elements.ensures.only elements are))
    (IsReadPastRow-refused g.V.SetValues.shows c.next.new.self element c.in-Some.ensures.steps
    (mapped-to-layers exts c.in-Some.id c.get.ensures c.in-Some-get.is c.in-VideoLayersAllocation.is refl)
    (c.last_in_row-last.ensures.row.memory (told.refused (rw c.in_err-parse_value-in-VideoLayersAllocation.was refl)).1.1)
    (told.unchanged (λ same. let is = c.in_err-parse_value-in-VideoLayersAllocation.was in cc)) c.loop-id.invariant))

pub returns-in_err-parse_value-in-VideoLayersAllocation-clause-refused :
    goal.returns-in_err-parse_value-in-VideoLayersAllocation-clause-refused
returns-in_err-parse_value-in-VideoLayersAllocation-clause-refused g c =
    OnErr-from c.from_residual.result _ (λ elements are. ((c.parse_value.ensures.refused (rw c.in_err-parse_value-in-VideoLayersAllocation.was refl)).0, stopped g c elements are))

pub returns-in_err-parse_value-in-VideoLayersAllocation-clause-succeeds :
    goal.returns-in_err-parse_value-in-VideoLayersAllocation-clause-succeeds
returns-in_err-parse_value-in-VideoLayersAllocation-clause-succeeds g c elements are none =
    absurd (none (c.parse_value.ensures.refused (rw c.in_err-parse_value-in-VideoLayersAllocation.was refl)).0 (stopped g c elements are).at)

pub returns-clause-values : goal.returns-clause-values
returns-clause-values g c = λ elements are.
    let exts = g.K.Kinds.known c.args.exts.now in
    ReadElements-known g.V.SetValues.shows (g.K.Kinds.slots c.args.exts.now) _ elements _ _ (g.met.K.Kinds.known_is c.args.exts.now)
    (subst (λ es. ReadElements g.V.SetValues.shows exts es c.args.ev.now c.loop-id.ev) (sym (c.new-elements.ensures.only elements are))
    (IsReadTo-end g.V.SetValues.shows c.in_default.ensures.steps.0 c.loop-id.invariant.is_read))
