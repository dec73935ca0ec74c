use Rattle.std.proofs.Common.{[], ◌∷◌, ◌∙◌, ap, sym, refl, subst, false, List}
use Rattle.std.specs.Option.{option_map}
use Rattle.std.proofs.lemmas.Bool.{false≢true}
use Rattle.rtp_values.specs.KnownKind.{extension_of_kind}
use Rattle.rtp_ext.specs.Elements.{Element}
use Rattle.rtp_ext.specs.BlockValues.{ReadElements, ShowsApart}
use Rattle.rtp_ext.proofs.KindsByIdLemmas.{ReadElements-known}
use Rattle.rtp_ext.proofs.ValuesLaws.{ReadElements-none, ReadElements-passed, ReadElements-parsed}
use Rattle.rtp_ext.proofs.LastAllocationLemmas.{mapped-to, mapped-to-layers, IsReadTo-start, IsReadTo-more, IsReadTo-end}
use Rattle.rtp_ext.proofs.ValuesFound.{unmapped-carries}
use Rattle.rtp_ext.proofs.ApartLemmas.{ReadsInto-apart, ReadElements-layers, ReadElements-no_layers, other_kind, not_refused}
use Rattle.rtp_ext.proofs.block_values.read_apart_in.Goals as goal

pub loop-id-init : goal.loop-id-init
loop-id-init g c =
    (IsReadTo-start (ShowsApart g.V.SetValues.shows g.L.SetLayers.shows) (g.K.Kinds.known c.args.exts.now) c.new-elements.result (c.args.ev.now, c.args.layers.now, false), λ _. refl)

pub loop-id-preserved : goal.loop-id-preserved
loop-id-preserved g c =
    let exts = g.K.Kinds.known c.args.exts.now in
    let Shows = ShowsApart g.V.SetValues.shows g.L.SetLayers.shows in
    let element : Element = (c.in-Some.id, c.in-Some.bytes.now) in (
      IsReadTo-more Shows exts c.new-elements.result c.loop-id.elements c.next.new.self (element ∷ []) (c.args.ev.now, c.args.layers.now, false) _ _
          c.in-Some.ensures.steps
          (ReadElements-passed Shows exts [] element (c.loop-id.ev, c.loop-id.layers, c.loop-id.found) (c.loop-id.ev, c.loop-id.layers, c.loop-id.found)
          (unmapped-carries exts element (sym c.get.ensures ∙ ap (option_map extension_of_kind) c.in_default-get.is))
          (ReadElements-none Shows exts _)) c.loop-id.invariant.0,
      c.loop-id.invariant.1,
    )

pub loop-id-preserved-in_default-kind : goal.loop-id-preserved-in_default-kind
loop-id-preserved-in_default-kind g c =
    let exts = g.K.Kinds.known c.args.exts.now in
    let Shows = ShowsApart g.V.SetValues.shows g.L.SetLayers.shows in
    let told = c.parse_value.ensures in
    let kind = extension_of_kind c.in-Some-get.kind in
    let differs = other_kind c.in-Some-get.kind c.in_default-kind.not-VideoLayersAllocation in
    let element : Element = (c.in-Some.id, c.in-Some.bytes.now) in (
      IsReadTo-more Shows exts c.new-elements.result c.loop-id.elements c.next.new.self (element ∷ []) (c.args.ev.now, c.args.layers.now, false) _ _
          c.in-Some.ensures.steps
          (ReadElements-parsed Shows exts [] element kind (c.loop-id.ev, c.loop-id.layers, c.loop-id.found) (c.loop-id.ev, c.loop-id.layers, c.loop-id.found)
          (c.parse_value.new.ev, c.loop-id.layers, c.loop-id.found) c.parse_value.result
          (mapped-to exts c.in-Some.id c.in-Some-get.kind c.get.ensures c.in-Some-get.is)
          (not_refused c.parse_value.result kind c.in-Some.bytes.now _ differs told.refused)
          (λ found. ReadsInto-apart g.V.SetValues.shows g.L.SetLayers.shows kind c.in-Some.bytes.now _ _ c.loop-id.layers c.loop-id.found differs (told.found found))
          told.only
          (λ other i. (told.unchanged other i, c.loop-id.layers, c.loop-id.found))
          (ReadElements-none Shows exts _)) c.loop-id.invariant.0,
      c.loop-id.invariant.1,
    )

pub loop-id-preserved-then-read_into : goal.loop-id-preserved-then-read_into
loop-id-preserved-then-read_into g c =
    let exts = g.K.Kinds.known c.args.exts.now in
    let row = c.last_in_row-last.ensures.row in
    let element : Element = (c.in-Some.id, c.in-Some.bytes.now) in (
      IsReadTo-more (ShowsApart g.V.SetValues.shows g.L.SetLayers.shows) exts c.new-elements.result c.loop-id.elements c.last_in_row-last.new.elements (element ∷ row.row)
          (c.args.ev.now, c.args.layers.now, false) _ _
          (c.in-Some.ensures.steps ∙ ap (λ (es : List Element). element ∷ es) row.elements_are)
          (ReadElements-layers g.V.SetValues.shows g.L.SetLayers.shows element c.loop-id.ev c.loop-id.layers c.read_into.new.layers c.loop-id.found
          (mapped-to-layers exts c.in-Some.id c.get.ensures c.in-Some-get.is c.in-VideoLayersAllocation.is refl)
          row.no_other row.last c.if-read_into.ensures.found)
          c.loop-id.invariant.0,
      λ none. absurd (false≢true (sym none)),
    )

pub loop-id-preserved-else-read_into : goal.loop-id-preserved-else-read_into
loop-id-preserved-else-read_into g c =
    let exts = g.K.Kinds.known c.args.exts.now in
    let row = c.last_in_row-last.ensures.row in
    let element : Element = (c.in-Some.id, c.in-Some.bytes.now) in
    let same = c.read_into.ensures.unchanged c.if-read_into.false in (
      IsReadTo-more (ShowsApart g.V.SetValues.shows g.L.SetLayers.shows) exts c.new-elements.result c.loop-id.elements c.last_in_row-last.new.elements (element ∷ row.row)
          (c.args.ev.now, c.args.layers.now, false) _ _
          (c.in-Some.ensures.steps ∙ ap (λ (es : List Element). element ∷ es) row.elements_are)
          (ReadElements-no_layers g.V.SetValues.shows g.L.SetLayers.shows element c.loop-id.ev c.loop-id.found
          (mapped-to-layers exts c.in-Some.id c.get.ensures c.in-Some-get.is c.in-VideoLayersAllocation.is refl)
          row.no_other row.last c.read_into.ensures.only c.if-read_into.false same)
          c.loop-id.invariant.0,
      λ none. same ∙ c.loop-id.invariant.1 none,
    )

pub returns-clause-read : goal.returns-clause-read
returns-clause-read g c = λ elements are.
    let exts = g.K.Kinds.known c.args.exts.now in
    let Shows = ShowsApart g.V.SetValues.shows g.L.SetLayers.shows in
    ReadElements-known Shows (g.K.Kinds.slots c.args.exts.now) _ elements _ _ (g.met.K.Kinds.known_is c.args.exts.now)
    (subst (λ es. ReadElements Shows exts es (c.args.ev.now, c.args.layers.now, false) (c.loop-id.ev, c.loop-id.layers, c.loop-id.found)) (sym (c.new-elements.ensures.only elements are))
    (IsReadTo-end Shows c.in_default.ensures.steps.0 c.loop-id.invariant.0))
