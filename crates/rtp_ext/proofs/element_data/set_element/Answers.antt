use Rattle.rtp_ext.proofs.Common.{◌≡◌, length, arith, refl, ap, subst, false≢true, no_values, SetsLast, AreValues}
use Rattle.rtp_ext.proofs.LastPlaceLemmas.{AreElements-same, HasLast-place, HasLast-only, SetsLast-at}
use Rattle.rtp_ext.proofs.SetValuesLemmas.{other_fields, said_fields}
use Rattle.rtp_ext.proofs.element_data.set_element.Goals as goal

pub returns-then-place-data-clause-answer : goal.returns-then-place-data-clause-answer
returns-then-place-data-clause-answer c = λ elements are. (
  λ is. absurd (false≢true is),
  λ has.
      let place = c.in-Some.ensures.found in
      let same = HasLast-only has.0 has.1 (HasLast-place place are) in
      absurd (omega (arith, c.if-place-data.true, place.end_is, ap length same, has.2)),
)

set_last : goal.returns-clause-set
set_last c =
    SetsLast-at c.args.form c.args.data.now c.in-Some.ensures.found c.if-place-data.false c.put_few.ensures

pub returns-clause-set : goal.returns-clause-set
returns-clause-set c = set_last c

pub returns-clause-written : goal.returns-clause-written
returns-clause-written c = record {
  place = c.in-Some.place;
  id_is = c.in-Some.ensures.id;
  lies = c.in-Some.ensures.lies;
  end_is = omega (arith, c.in-Some.ensures.found.end_is, c.if-place-data.false);
  new_is = c.put_few.ensures;
}

pub returns-clause-answer : goal.returns-clause-answer
returns-clause-answer c = λ elements are. (
  λ is.
      let place = c.in-Some.ensures.found in
      let as_many : length place.was ≡ length c.args.data.now = omega (arith, place.end_is, c.if-place-data.false) in
      (place.was, HasLast-place place are, as_many),
  λ has. refl,
)

pub returns-clause-other_values : goal.returns-clause-other_values
returns-clause-other_values c exts kind old new mapped was says =
    let set : SetsLast c.args.form c.args.id c.args.data.now c.args.body.now c.put_few.new.buf = set_last c in
    other_fields exts c.args.id kind set.before set.after set.was c.args.data.now old new mapped
    (subst (λ es. AreValues exts es no_values old) (AreElements-same c.args.form c.args.body.now was.elements _ was.are_elements set.old_elements) was.are_values)
    (subst (λ es. AreValues exts es no_values new) (AreElements-same c.args.form c.put_few.new.buf says.elements _ says.are_elements set.new_elements) says.are_values)

pub returns-clause-values : goal.returns-clause-values
returns-clause-values c exts kind new only well_formed says =
    let set : SetsLast c.args.form c.args.id c.args.data.now c.args.body.now c.put_few.new.buf = set_last c in
    said_fields set.before set.after c.args.data.now new only set.last well_formed
    (subst (λ es. AreValues exts es no_values new) (AreElements-same c.args.form c.put_few.new.buf says.elements _ says.are_elements set.new_elements) says.are_values)
