use Rattle.rtp_ext.proofs.Common.{◌≡◌, ◌+◌, ◌-◌, ◌<◌, length, arith, refl, sym, ◌∙◌, subst, Slots, slots_of, known_slots, Swaps}
use Rattle.rtp_ext.proofs.ReplacedLemmas.{swapped_known, Swaps-swapped}
use Rattle.rtp_ext.proofs.WalkLemmas.{HasNoIdAbove-swapped}
use Rattle.rtp_ext.proofs.map.ExtensionMap.exchange.Goals as goal

pub last_id-self-inside-requires-clause-none_above : goal.last_id-self-inside-requires-clause-none_above
last_id-self-inside-requires-clause-none_above c =
    let slots = c.self.inside.slots in
    let index : (c.from-here.result - 1) + 1 ≡ c.args.from = omega (arith, c.from-here.ensures, c.requires.ids.0.0) in
    let next : (c.from-there.result - 1) + 1 ≡ c.args.to = omega (arith, c.from-there.ensures, c.requires.ids.1.0) in
    HasNoIdAbove-swapped c.self.inside.last c.max-2.result c.self.invariant.1.none_above
    (subst (λ (s : Slots). Swaps slots s c.args.from c.args.to) (sym c.swap.ensures.after)
    (Swaps-swapped slots slots (c.from-here.result - 1) (c.from-there.result - 1) refl index next c.requires.apart
    (omega (arith, index, c.requires.ids.0.1, c.self.invariant.0)) (omega (arith, next, c.requires.ids.1.1, c.self.invariant.0))))
    (omega (arith, c.max.ensures, c.max-2.ensures)) (omega (arith, c.max.ensures, c.max-2.ensures)) (omega (arith, c.max-2.ensures))

pub invariant_of-self : goal.invariant_of-self
invariant_of-self c =
    let slots = c.self.inside.slots in
    let i = c.from-here.result - 1 in
    let j = c.from-there.result - 1 in
    let index : i + 1 ≡ c.args.from = omega (arith, c.from-here.ensures, c.requires.ids.0.0) in
    let next : j + 1 ≡ c.args.to = omega (arith, c.from-there.ensures, c.requires.ids.1.0) in
    let here : i < length slots = omega (arith, index, c.requires.ids.0.1, c.self.invariant.0) in
    let there : j < length slots = omega (arith, next, c.requires.ids.1.1, c.self.invariant.0) in (
      c.swap.ensures.len ∙ c.self.invariant.0,
      c.last_id-self-inside.ensures,
      subst (λ (s : Slots). slots_of c.exchange.new.self ≡ known_slots s) (sym c.swap.ensures.after)
          (swapped_known slots i j c.self.invariant.2 index next here there c.exchange.ensures),
    )

pub returns : goal.returns
returns c =
    let slots = c.self.inside.slots in
    let index : (c.from-here.result - 1) + 1 ≡ c.args.from = omega (arith, c.from-here.ensures, c.requires.ids.0.0) in
    let next : (c.from-there.result - 1) + 1 ≡ c.args.to = omega (arith, c.from-there.ensures, c.requires.ids.1.0) in
    subst (λ (s : Slots). Swaps c.args.self.now s c.args.from c.args.to) (sym c.swap.ensures.after)
    (Swaps-swapped slots c.args.self.now (c.from-here.result - 1) (c.from-there.result - 1) c.self.view_is index next c.requires.apart
    (omega (arith, index, c.requires.ids.0.1, c.self.invariant.0)) (omega (arith, next, c.requires.ids.1.1, c.self.invariant.0)))
