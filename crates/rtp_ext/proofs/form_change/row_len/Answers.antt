use Rattle.rtp_ext.proofs.Common.{◌≡◌, ◌+◌, ◌-◌, true, ap, subst, length, take, drop, refl, arith, IsWritable, goes, false≢true}
use Rattle.rtp_ext.specs.BodySurvey.{IsRowLengthTo}
use Rattle.rtp_ext.proofs.RowLengthLemmas.{IsRowLengthTo-start, IsRowLengthTo-gone, IsRowLengthTo-other, content-is, not-carried, row-length, row-carried}
use Rattle.rtp_ext.proofs.GatheredLemmas.{goes-this, goes-zero}
use Rattle.rtp_ext.proofs.form_change.row_len.Goals as goal
use Rattle.rtp_ext.proofs.form_change.row_len.Goals.{After-element_header_len, then-place-id-via-then-place-id, then-place-id-via-else-place-id+then-place-eq0}

pub loop-place-init : goal.loop-place-init
loop-place-init c = IsRowLengthTo-start c.args.form c.args.new_form c.args.id c.args.body.now

pub loop-place-preserved-then-place-id : goal.loop-place-preserved-then-place-id
loop-place-preserved-then-place-id c =
    let gone : goes c.args.id (c.in-Some.place.id, c.in-Some.ensures.found.bytes) ≡ true =
    elim c.then-place-id.branch [
      | then-place-id-via-then-place-id w ↦ goes-this c.args.id (c.in-Some.place.id, c.in-Some.ensures.found.bytes) w.if-place-id.true
      | then-place-id-via-else-place-id+then-place-eq0 w ↦ goes-zero c.args.id (c.in-Some.place.id, c.in-Some.ensures.found.bytes) w.if-place-eq0.true
    ] in
    IsRowLengthTo-gone c.args.form c.args.new_form c.args.id c.args.body.now c.loop-place.at c.loop-place.len c.in-Some.place c.loop-place.invariant c.in-Some.ensures.found gone

pub returns-then-not-can_carry-clause-none : goal.returns-then-not-can_carry-clause-none
returns-then-not-can_carry-clause-none c = λ elements are all.
    not-carried c.args.form c.args.new_form c.args.id c.args.body.now c.loop-place.at c.loop-place.len c.in-Some.place c.loop-place.invariant c.in-Some.ensures.found
    elements c.if-place-id.false c.if-place-eq0.false (λ is. absurd (false≢true (c.if-not-can_carry.ensures.carried.1 is))) are all

counted : (c : After-element_header_len) → IsRowLengthTo c.args.form c.args.new_form c.args.id c.args.body.now c.in-Some.place.end
    (c.loop-place.len + (c.element_header_len.result + length (take (c.in-Some.place.end - c.in-Some.place.data_start) (drop c.in-Some.place.data_start c.args.body.now))))
counted c =
    let data_is = content-is c.args.form c.args.new_form c.args.id c.args.body.now c.loop-place.at c.loop-place.len c.in-Some.place c.loop-place.invariant c.in-Some.ensures.found in
    IsRowLengthTo-other c.args.form c.args.new_form c.args.id c.args.body.now c.loop-place.at c.loop-place.len c.in-Some.place c.loop-place.invariant c.in-Some.ensures.found
    c.element_header_len.result _ c.if-place-id.false c.if-place-eq0.false
    (subst (λ xs. IsWritable c.args.new_form (c.in-Some.place.id, xs)) data_is (c.if-not-can_carry.ensures.carried.0 refl)) (c.element_header_len.ensures _ _) (ap length data_is)

pub overflow_add-len : goal.overflow_add-len
overflow_add-len c = let small = (counted c).small in let most = (counted c).within in omega (arith, c.requires)

pub overflow_add-len-in-Some : goal.overflow_add-len-in-Some
overflow_add-len-in-Some c = let small = (counted c).small in let most = (counted c).within in omega (arith, c.requires)

pub loop-place-preserved : goal.loop-place-preserved
loop-place-preserved c = counted c

pub returns-clause-length : goal.returns-clause-length
returns-clause-length c = λ elements are.
    row-length c.args.form c.args.new_form c.args.id c.args.body.now c.loop-place.at c.loop-place.len c.loop-place.invariant c.in_default.ensures.none elements are

pub returns-clause-carried : goal.returns-clause-carried
returns-clause-carried c = λ elements are.
    row-carried c.args.form c.args.new_form c.args.id c.args.body.now c.loop-place.at c.loop-place.len c.loop-place.invariant c.in_default.ensures.none elements are
