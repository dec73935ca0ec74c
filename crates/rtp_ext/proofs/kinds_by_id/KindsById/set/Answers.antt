use Rattle.rtp_ext.proofs.Common.{◌≡◌, ◌≢◌, ℕ, Bool, true, false, not, get_or, None, is_some, arith, refl, sym, ap, ◌∙◌, slots_of}
use Rattle.std.specs.Bool.{beq}
use Rattle.rtp_ext.proofs.KindsByIdLemmas.{slots_of-set_slots, slots_of-others}
use Rattle.rtp_ext.proofs.ListingLemmas.{length-items_from}
use Rattle.rtp_ext.proofs.NextIdLemmas.{next_ids-kept}
use Rattle.rtp_ext.proofs.TableLemmas.{set-length, set-padding, slots-long, few_layers, once, layers_count-set, mapped_count-set}
use Rattle.rtp_ext.proofs.kinds_by_id.KindsById.set.Goals as goal

pub overflow_add-self : goal.overflow_add-self
overflow_add-self c =
    omega (arith, few_layers c.self.inside.kinds c.self.inside.layers c.self.invariant.0 c.self.invariant.4, once c.is_layers.result, c.from-3.ensures)

pub overflow_sub-self : goal.overflow_sub-self
overflow_sub-self c =
    omega (
      arith,
      layers_count-set c.self.inside.kinds c.args.kind None c.from.ensures c.from-2.ensures (omega (arith, c.requires.1, c.self.invariant.0)) refl c.self.invariant.4
          c.is_layers.ensures c.is_layers-2.ensures c.from-3.ensures c.from-4.ensures,
    )

pub overflow_add-self-2 : goal.overflow_add-self-2
overflow_add-self-2 c =
    let kinds = c.self.inside.kinds in
    omega (arith, c.self.invariant.3, length-items_from 0 (slots_of kinds), slots-long kinds c.self.invariant.0, once c.is_some.result, c.from-5.ensures)

pub overflow_sub-self-2 : goal.overflow_sub-self-2
overflow_sub-self-2 c =
    omega (
      arith,
      mapped_count-set c.self.inside.kinds c.args.kind None c.from.ensures c.from-2.ensures (λ none. omega (arith, none, c.requires.0)) (omega (arith, c.requires.1, c.self.invariant.0)) refl
          c.self.invariant.3 c.is_some.ensures c.is_some-2.ensures c.from-5.ensures c.from-6.ensures,
    )

pub set_next-requires-clause-others : goal.set_next-requires-clause-others
set_next-requires-clause-others c =
    (slots_of c.self.inside.kinds, slots_of-others c.self.inside.kinds c.from-2.result c.args.id c.args.kind c.from-2.ensures, c.self.invariant.2)

pub invariant_of-self : goal.invariant_of-self
invariant_of-self c =
    let kinds = c.self.inside.kinds in (
      set-length kinds c.from-2.result c.args.kind c.self.invariant.0,
      set-padding kinds c.from-2.result c.args.kind (omega (arith, c.from-2.ensures, c.requires.0)) c.self.invariant.1,
      c.set_next.ensures,
      omega (
        arith,
        mapped_count-set c.self.inside.kinds c.args.kind None c.from.ensures c.from-2.ensures (λ none. omega (arith, none, c.requires.0)) (omega (arith, c.requires.1, c.self.invariant.0)) refl
            c.self.invariant.3 c.is_some.ensures c.is_some-2.ensures c.from-5.ensures c.from-6.ensures,
      ),
      omega (
        arith,
        layers_count-set c.self.inside.kinds c.args.kind None c.from.ensures c.from-2.ensures (omega (arith, c.requires.1, c.self.invariant.0)) refl c.self.invariant.4
            c.is_layers.ensures c.is_layers-2.ensures c.from-3.ensures c.from-4.ensures,
      ),
    )

same : (a b : Bool) → not (beq a b) ≡ false → a ≡ b
same true true told = refl
same false false told = refl
same true false told = cc
same false true told = cc

pub invariant_of-self-else-is_some : goal.invariant_of-self-else-is_some
invariant_of-self-else-is_some c =
    let kinds = c.self.inside.kinds in
    let some : c.from-2.result ≢ 0 = λ none. omega (arith, none, c.from-2.ensures, c.requires.0) in (
      set-length kinds c.from-2.result c.args.kind c.self.invariant.0,
      set-padding kinds c.from-2.result c.args.kind some c.self.invariant.1,
      c.self.invariant.2 ∙ sym (next_ids-kept kinds c.from-2.result c.args.kind None some (sym c.is_some-3.ensures ∙ same _ _ c.if-is_some.false ∙ c.is_some-4.ensures ∙ ap (λ (n : ℕ). is_some (get_or kinds n None)) (c.from.ensures ∙ sym c.from-2.ensures))),
      omega (
        arith,
        mapped_count-set c.self.inside.kinds c.args.kind None c.from.ensures c.from-2.ensures (λ none. omega (arith, none, c.requires.0)) (omega (arith, c.requires.1, c.self.invariant.0)) refl
            c.self.invariant.3 c.is_some.ensures c.is_some-2.ensures c.from-5.ensures c.from-6.ensures,
      ),
      omega (
        arith,
        layers_count-set c.self.inside.kinds c.args.kind None c.from.ensures c.from-2.ensures (omega (arith, c.requires.1, c.self.invariant.0)) refl c.self.invariant.4
            c.is_layers.ensures c.is_layers-2.ensures c.from-3.ensures c.from-4.ensures,
      ),
    )

pub returns-then-is_some : goal.returns-then-is_some
returns-then-is_some c =
    slots_of-set_slots c.self.inside.kinds c.args.self.now c.from-2.result c.args.id c.args.kind c.from-2.ensures c.self.view_is c.requires

pub returns-else-is_some : goal.returns-else-is_some
returns-else-is_some c =
    slots_of-set_slots c.self.inside.kinds c.args.self.now c.from-2.result c.args.id c.args.kind c.from-2.ensures c.self.view_is c.requires
