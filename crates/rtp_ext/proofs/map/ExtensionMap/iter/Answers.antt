use Rattle.rtp_ext.proofs.Common.{◌≡◌, ◌∙◌, ap, arith, sym, subst, true, length, items_from}
use Rattle.rtp_ext.specs.ExtensionMap as spec
use Rattle.rtp_ext.proofs.ListingLemmas.{ListsItems-from_slots, length-items_from}
use Rattle.rtp_ext.proofs.WalkLemmas.{walk-all}
use Rattle.rtp_ext.proofs.map.ExtensionMap.iter.Goals as goal

items : (c : goal.After-new) → c.new.result ≡ items_from 0 c.args.self.now
items c = c.new.ensures ∙ walk-all c.self.inside.slots c.from.result (λ id above. c.self.invariant.1.none_above id (omega (arith, above, c.from.ensures))) ∙ ap (items_from 0) c.self.view_is

pub returns-clause-items : goal.returns-clause-items
returns-clause-items c = items c

pub returns-clause-listing : goal.returns-clause-listing
returns-clause-listing c = subst (spec.ListsItems c.args.self.now (λ _. true)) (sym (items c)) (ListsItems-from_slots c.args.self.now)

pub returns-clause-few : goal.returns-clause-few
returns-clause-few c =
    omega (arith, ap length (items c), length-items_from 0 c.args.self.now, ap length c.self.view_is, c.self.invariant.0)
