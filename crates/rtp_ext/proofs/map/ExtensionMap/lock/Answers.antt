use Rattle.rtp_ext.proofs.Common.{◌≡◌, ◌+◌, ◌-◌, ◌<◌, length, arith, refl, ◌∙◌, length-set}
use Rattle.rtp_ext.proofs.ReplacedLemmas.{locked_in_step, Puts-locked}
use Rattle.rtp_ext.proofs.WalkLemmas.{IsLastId-locked}
use Rattle.rtp_ext.proofs.map.ExtensionMap.lock.Goals as goal

pub invariant_of-self : goal.invariant_of-self
invariant_of-self c =
    let slots = c.self.inside.slots in
    let index : (c.from.result - 1) + 1 ≡ c.args.id = omega (arith, c.from.ensures, c.requires.0) in
    let here : c.from.result - 1 < length slots = omega (arith, c.from.ensures, c.requires.0, c.requires.1, c.self.invariant.0) in (
      length-set slots (c.from.result - 1) _ ∙ c.self.invariant.0,
      IsLastId-locked c.self.invariant.1 (Puts-locked slots slots (c.from.result - 1) _ refl index here c.lock.ensures),
      locked_in_step slots (c.from.result - 1) _ c.self.invariant.2 here c.lock.ensures,
    )

pub returns : goal.returns
returns c =
    let index : (c.from.result - 1) + 1 ≡ c.args.id = omega (arith, c.from.ensures, c.requires.0) in
    Puts-locked c.self.inside.slots c.args.self.now (c.from.result - 1) _ c.self.view_is index
    (omega (arith, index, c.requires.1, c.self.invariant.0)) c.lock.ensures
