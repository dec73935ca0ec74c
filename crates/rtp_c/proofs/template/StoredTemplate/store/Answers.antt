use Rattle.std.proofs.Common.{◌<◌, length, refl, ◌∙◌, arith, rules}
use Rattle.std.proofs.Math.ListN.{length-set}
use Rattle.std.proofs.lemmas.List.Sums.{sum_by_more}
use Rattle.rtp_route.specs.declared.slots.Slot.{Slot}
use Rattle.rtp_c.proofs.TemplateLemmas.{stored-more, zeros-alone, zeros-behind}
use Rattle.rtp_c.proofs.template.StoredTemplate.store.Goals as goal

pub loop-index-init : goal.loop-index-init
loop-index-init c = (search rules, refl, refl, refl, omega arith, λ k _. zeros-alone 16 k, λ k _. zeros-alone 16 k)

pub loop-index-preserved : goal.loop-index-preserved
loop-index-preserved c =
    let none : Slot = record { start = 0; len = 0 } in
    let at = c.loop-index in
    let slots = c.args.slots.now in
    let there : at.index < length slots = omega (arith, c.loop-index-test.true) in
    let more = sum_by_more (λ (s : Slot). s.len) slots at.index none there in (
      stored-more slots at.self.data_at at.self.data_len at.index none (omega (arith, at.invariant.1, at.invariant.2)) (omega (arith, at.invariant.1, c.requires.few, there)) there at.invariant.0,
      length-set at.self.data_at at.index _ ∙ at.invariant.1,
      length-set at.self.data_len at.index _ ∙ at.invariant.2,
      omega (arith, more, at.invariant.3),
      search rules,
      zeros-behind at.self.data_at at.index _ at.invariant.5,
      zeros-behind at.self.data_len at.index _ at.invariant.6,
    )
