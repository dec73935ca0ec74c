use Rattle.std.proofs.Common.{rules, sym, ◌∙◌, subst}
use Rattle.rtp_ext.specs.ExtensionMap as spec
use Rattle.rtp_ext.proofs.CopiedLemmas.{IsOfMediumBut-start, IsOfMediumBut-next}
use Rattle.rtp_ext.proofs.map.ExtensionMap.cloned_with_type.Goals as goal

pub loop-id-init : goal.loop-id-init
loop-id-init c = IsOfMediumBut-start c.args.audio _
    (subst (spec.ListsItems c.args.self.now (spec.is_of_medium c.args.audio)) (sym c.into_iter-id-iterator.ensures.into_iter_gives) c.iter_by_media_type-id-items.ensures)
    c.empty-exts.ensures

pub loop-id-preserved-in-Some-known_kind : goal.loop-id-preserved-in-Some-known_kind
loop-id-preserved-in-Some-known_kind c =
    IsOfMediumBut-next _ _ (c.in-Some.id, c.in-Some.ext.now) c.loop-id.invariant
    c.in-Some.ensures.steps (search rules) (c.in-Some-known_kind.ensures.known ∙ sym c.from.ensures) (λ is_id. c.put.ensures)
