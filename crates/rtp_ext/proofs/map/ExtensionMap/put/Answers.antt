use Rattle.rtp_ext.proofs.Common.{◌≡◌, ◌+◌, ◌-◌, ◌<◌, length, arith, refl, ◌∙◌, rules, length-set}
use Rattle.rtp_ext.proofs.KindsByIdLemmas.{known_slots-put}
use Rattle.rtp_ext.proofs.ReplacedLemmas.{Puts-replaced}
use Rattle.rtp_ext.proofs.WalkLemmas.{IsLastId-put}
use Rattle.rtp_ext.proofs.map.ExtensionMap.put.Goals as goal

pub invariant_of-self : goal.invariant_of-self
invariant_of-self c =
    let slots = c.self.inside.slots in
    let k = c.from.result - 1 in
    let index : k + 1 ≡ c.args.id = omega (arith, c.from.ensures, c.requires.0) in
    let here : k < length slots = omega (arith, index, c.requires.1, c.self.invariant.0) in (
      length-set slots k _ ∙ c.self.invariant.0,
      IsLastId-put c.max-self-inside.result _ c.self.invariant.1
          (Puts-replaced slots slots k _ _ refl index here c.from-new.ensures) (omega (arith, c.max-self-inside.ensures)) (omega (arith, c.max-self-inside.ensures)) (search rules),
      known_slots-put slots _ _ k c.args.id _ _ c.self.invariant.2 index c.set.ensures c.known_kind.ensures,
    )

pub returns : goal.returns
returns c =
    let index : (c.from.result - 1) + 1 ≡ c.args.id = omega (arith, c.from.ensures, c.requires.0) in
    let put = Puts-replaced c.self.inside.slots c.args.self.now (c.from.result - 1) _ _ c.self.view_is index
    (omega (arith, index, c.requires.1, c.self.invariant.0)) c.from-new.ensures in
    record { this = put.this; others = put.others }
