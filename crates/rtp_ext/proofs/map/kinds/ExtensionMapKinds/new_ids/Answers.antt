use Rattle.std.proofs.Common.{refl, rules, ◌∙◌}
use Rattle.rtp_ext.proofs.NewBytesLemmas.{HasNewBytesBut-start, HasNewBytesBut-next}
use Rattle.rtp_ext.proofs.map.kinds.ExtensionMapKinds.new_ids.Goals as goal

pub loop-id-init : goal.loop-id-init
loop-id-init c = HasNewBytesBut-start c.args.self.now c.args.other.now _ (c.into_iter-id-iterator.ensures.into_iter_gives ∙ c.iter-id-items.ensures.items) refl

pub loop-id-preserved : goal.loop-id-preserved
loop-id-preserved c =
    let lowest = c.lowest_id.ensures in
    HasNewBytesBut-next _ (c.in-Some.id, c.in-Some.ext.now)
    c.lowest_id.result c.loop-id.invariant c.in-Some.ensures.steps (search rules) c.from.ensures c.unwrap_or.ensures
    (record { found = lowest.found; valid = lowest.valid; none = lowest.none })
