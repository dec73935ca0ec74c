use Rattle.rtp_ext.proofs.Common.{◌≡◌, length, arith, refl, rules, sym, ap, same_true, same_false, the_type, subst, ℕ, drop, items_from, extension_of_kind, slots_of}
use Rattle.rtp_ext.proofs.RenamedIdLemmas.{AreLeft, AreLeft-start, AreLeft-next, IsLowest-left, IsUnmapped-left}
use Rattle.rtp_values.proofs.KindSetLemmas.{same_kind}
use Rattle.rtp_ext.proofs.kinds_by_id.KindsById.lowest_id.Goals as goal

pub loop-id-init : goal.loop-id-init
loop-id-init c = AreLeft-start (slots_of c.args.self.now) (extension_of_kind c.args.kind) _ refl

pub returns-then-eq-clause-found : goal.returns-then-eq-clause-found
returns-then-eq-clause-found c =
    let this : c.in-Some.found ≡ c.args.kind = same_true the_type tt _ _ (sym c.if-eq.ensures) in
    (IsLowest-left _ _ _ _ (c.in-Some.id, extension_of_kind c.in-Some.found) c.loop-id.invariant c.in-Some.ensures.some (ap extension_of_kind this)).0

pub returns-then-eq-clause-valid : goal.returns-then-eq-clause-valid
returns-then-eq-clause-valid c =
    let this : c.in-Some.found ≡ c.args.kind = same_true the_type tt _ _ (sym c.if-eq.ensures) in
    let above = (IsLowest-left _ _ _ _ (c.in-Some.id, extension_of_kind c.in-Some.found) c.loop-id.invariant c.in-Some.ensures.some (ap extension_of_kind this)).1 in
    (omega (arith, above), search rules)

pub loop-id-smaller : goal.loop-id-smaller
loop-id-smaller c =
    omega (
      arith,
      ap length c.in-Some.ensures.some,
      ap (λ (id : ℕ). length (items_from id (drop id (slots_of c.args.self.now)))) c.from-passed.ensures,
    )

pub loop-id-preserved : goal.loop-id-preserved
loop-id-preserved c =
    subst (λ (id : ℕ). AreLeft (slots_of c.args.self.now) (extension_of_kind c.args.kind) (items_from id (drop id (slots_of c.args.self.now)))) (sym c.from-passed.ensures)
    (AreLeft-next _ _ _ _ (c.in-Some.id, extension_of_kind c.in-Some.found) c.loop-id.invariant c.in-Some.ensures.some
    (λ same. same_false the_type _ _ (sym c.if-eq.ensures) (same_kind c.in-Some.found c.args.kind same)))

pub returns-clause-none : goal.returns-clause-none
returns-clause-none c = IsUnmapped-left _ _ _ c.loop-id.invariant c.in_default.ensures.none
