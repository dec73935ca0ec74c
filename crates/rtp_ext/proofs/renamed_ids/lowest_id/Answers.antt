use Rattle.rtp_ext.proofs.Common.{refl, ◌≡◌, sym, ap, same_true, same_false, the_type, extension_of_kind}
use Rattle.rtp_ext.proofs.RenamedIdLemmas.{AreLeft-start, AreLeft-next, IsLowest-left, IsUnmapped-left, IsLowest-known, IsUnmapped-known}
use Rattle.rtp_values.proofs.KindSetLemmas.{same_kind}
use Rattle.rtp_ext.proofs.renamed_ids.lowest_id.Goals as goal

pub loop-id-init : goal.loop-id-init
loop-id-init g c = AreLeft-start _ _ _ c.iter-items.ensures.all

pub returns-then-eq-clause-lowest : goal.returns-then-eq-clause-lowest
returns-then-eq-clause-lowest g c =
    let this : c.in-Some.found ≡ c.args.kind = same_true the_type tt _ _ (sym c.if-eq.ensures) in
    IsLowest-known c.args.ids.now _ c.args.kind c.in-Some.id refl
    ((IsLowest-left _ _ _ _ (c.in-Some.id, extension_of_kind c.in-Some.found) c.loop-id.invariant c.in-Some.ensures.some (ap extension_of_kind this)).0)

pub returns-then-eq-clause-some_id : goal.returns-then-eq-clause-some_id
returns-then-eq-clause-some_id g c =
    let this : c.in-Some.found ≡ c.args.kind = same_true the_type tt _ _ (sym c.if-eq.ensures) in
    (IsLowest-left _ _ _ _ (c.in-Some.id, extension_of_kind c.in-Some.found) c.loop-id.invariant c.in-Some.ensures.some (ap extension_of_kind this)).1

pub loop-id-preserved : goal.loop-id-preserved
loop-id-preserved g c =
    AreLeft-next _ _ _ _ (c.in-Some.id, extension_of_kind c.in-Some.found) c.loop-id.invariant c.in-Some.ensures.some
    (λ same. same_false the_type _ _ (sym c.if-eq.ensures) (same_kind c.in-Some.found c.args.kind same))

pub returns-clause-none : goal.returns-clause-none
returns-clause-none g c =
    IsUnmapped-known c.args.ids.now _ c.args.kind refl
    (IsUnmapped-left _ _ _ c.loop-id.invariant c.in_default.ensures.none)
