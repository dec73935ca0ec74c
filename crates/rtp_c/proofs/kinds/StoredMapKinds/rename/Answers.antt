use Rattle.rtp_c.proofs.Common.{ap, refl, sym, ◌∙◌, get_or, extension_of_kind, IsRenamedTo-first, IsRenamedTo-next, Renames-end, kind_numbered, numbered_slots}
use Rattle.rtp_c.proofs.KindNumberLemmas.{number_of_kind, one_kind}
use Rattle.rtp_c.proofs.NumberedLemmas.{extension_numbered, number_found}
use Rattle.rtp_c.proofs.kinds.StoredMapKinds.rename.Goals as goal

pub loop-id-init : goal.loop-id-init
loop-id-init c = (
  IsRenamedTo-first (numbered_slots c.args.self.now.kind) (extension_of_kind c.args.from) (extension_of_kind c.args.to) c.args.lowest c.args.ids.now c.told-ids,
  c.number_of-from.ensures,
  c.number_of-to.ensures,
)

pub loop-id-preserved : goal.loop-id-preserved
loop-id-preserved c =
    let numbers = c.args.self.now.kind in
    let number = get_or numbers c.loop-id.id 0 in
    let byte = c.renamed.ensures in (
      IsRenamedTo-next (numbered_slots numbers) c.args.from c.args.to c.args.lowest c.args.ids.now c.loop-id.ids c.loop-id.id c.renamed.result (kind_numbered number)
          c.loop-id-test.true (extension_numbered numbers c.loop-id.id (kind_numbered number) c.loop-id.auto.id refl)
          (λ found. byte.renamed (number_found number c.args.from found ∙ sym c.number_of-from.ensures))
          (λ found. byte.gone (λ same. c.requires (one_kind c.args.from c.args.to (sym (same ∙ c.number_of-from.ensures) ∙ number_found number c.args.to found)))
          (number_found number c.args.to found ∙ sym c.number_of-to.ensures))
          (λ not_from not_to. byte.others (λ same. not_from (ap kind_numbered (same ∙ c.number_of-from.ensures) ∙ number_of_kind c.args.from))
          (λ same. not_to (ap kind_numbered (same ∙ c.number_of-to.ensures) ∙ number_of_kind c.args.to)))
          c.loop-id.invariant.0,
      c.loop-id.invariant.1,
      c.loop-id.invariant.2,
    )

pub returns : goal.returns
returns c =
    Renames-end (numbered_slots c.args.self.now.kind) (extension_of_kind c.args.from) (extension_of_kind c.args.to) c.args.lowest c.args.ids.now c.loop-id.ids c.loop-id.id
    c.loop-id-test.false c.loop-id.invariant.0
