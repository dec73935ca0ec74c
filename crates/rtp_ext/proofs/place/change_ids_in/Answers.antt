use Rattle.rtp_ext.proofs.Common.{◌≡◌, ℕ, Bool, true, false, not, ◌||◌, Option, Some, None, is_some, is_none, arith, refl, sym, subst, false≢true, ids_of, HasOtherIdsTo}
use Rattle.rtp_ext.proofs.PlaceLemmas.{LiesAt-next}
use Rattle.rtp_ext.proofs.RenumberingLemmas.{HasOtherIdsTo-start, fits-next, HasOtherIdsTo-next, HasOtherIdsTo-end, lost-end}
use Rattle.rtp_ext.proofs.place.change_ids_in.Goals as goal

none_of : (id : Option ℕ) (none : Bool) → is_some id ≡ not none → none ≡ is_none id
none_of None true is = refl
none_of None false is = absurd (false≢true is)
none_of (Some id) true is = absurd (false≢true (sym is))
none_of (Some id) false is = refl

pub loop-place-init : goal.loop-place-init
loop-place-init c = HasOtherIdsTo-start c.args.form (ids_of c.args.change) c.args.body.now c.requires

pub write_id-requires-clause-lies : goal.write_id-requires-clause-lies
write_id-requires-clause-lies c = LiesAt-next c.args.form c.loop-place.body c.loop-place.at c.in-Some.place (omega (arith, c.in-Some.ensures.further)) c.in-Some.ensures.found

pub write_id-requires-clause-fits : goal.write_id-requires-clause-fits
write_id-requires-clause-fits c = fits-next c.new_id-id.result
    c.loop-place.invariant c.in-Some.ensures.found c.new_id-id.ensures

pub loop-place-preserved : goal.loop-place-preserved
loop-place-preserved c =
    subst (λ b. HasOtherIdsTo c.args.form (ids_of c.args.change) c.args.body.now c.write_id.new.body c.in-Some.place.end (c.loop-place.lost || b))
    (sym (none_of c.new_id-id.result c.is_none-lost.result c.is_none-lost.ensures))
    (HasOtherIdsTo-next c.write_id.new.body
    (omega (arith, c.in-Some.ensures.further)) c.loop-place.invariant c.in-Some.ensures.found c.new_id-id.ensures c.write_id.ensures)

pub returns : goal.returns
returns c = record {
  changed = HasOtherIdsTo-end c.loop-place.invariant c.in_default.ensures.none;
  lost = λ elements are. lost-end c.loop-place.invariant c.in_default.ensures.none are;
}
