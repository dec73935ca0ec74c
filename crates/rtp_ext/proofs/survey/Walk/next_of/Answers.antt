use Rattle.rtp_ext.proofs.Common.{ℕ, ◌+◌, length, Some, arith, refl, sym, ◌∙◌, subst, false≢true, BeginsWithElement, IsSurveyedTo}
use Rattle.rtp_ext.proofs.SurveyLemmas.{IsSurveyedTo-this, IsSurveyedTo-zero, IsSurveyedTo-other}
use Rattle.rtp_ext.proofs.PlaceLemmas.{length-header-some}
use Rattle.rtp_ext.proofs.LeftLemmas.{IsLeft-next, next_left, place_left, next_other, end_other, id_other, len_other, fits_all}
use Rattle.rtp_ext.proofs.survey.Walk.next_of.Goals as goal

pub returns-then-other-id-clause-left : goal.returns-then-other-id-clause-left
returns-then-other-id-clause-left c =
    IsLeft-next c.args.form c.args.body.now c.loop-other.self.left.now c.in-Some.other c.in-Some.data.now c.in-Some.after.now c.loop-other.invariant.0 c.in-Some.ensures

pub returns-then-other-id-clause-some : goal.returns-then-other-id-clause-some
returns-then-other-id-clause-some c = λ last was.
    let begins = subst (λ (i : ℕ). BeginsWithElement c.args.form c.loop-other.self.left.now (i, c.in-Some.data.now) c.in-Some.after.now) c.if-other-id.true c.in-Some.ensures in
    let next = next_left c.args.form c.args.body.now c.loop-other.self.left.now c.args.id c.in-Some.data.now c.in-Some.after.now c.loop-other.invariant.0 begins
    c.place_before.result c.place_before.ensures.id c.place_before.ensures.start c.place_before.ensures.data_start c.place_before.ensures.end in
    subst (λ (at : ℕ). IsSurveyedTo c.args.form c.args.body.now at c.args.id (Some c.place_before.result) (c.loop-other.self.count + 1) c.loop-other.self.others_len) (omega (arith, c.place_before.ensures.end))
    (IsSurveyedTo-this (c.loop-other.invariant.4 last was) next c.place_before.ensures.id)

pub overflow_add-self-else-is_paddings : goal.overflow_add-self-else-is_paddings
overflow_add-self-else-is_paddings c =
    let few = fits_all c.args.form c.args.body.now c.loop-other.self.left.now c.in-Some.other c.in-Some.data.now c.in-Some.after.now c.loop-other.invariant.0 c.in-Some.ensures in
    omega (arith, few, c.element_header_len.ensures c.in-Some.other (length c.in-Some.data.now))

pub overflow_add-self-else-is_paddings-2 : goal.overflow_add-self-else-is_paddings-2
overflow_add-self-else-is_paddings-2 c =
    let few = fits_all c.args.form c.args.body.now c.loop-other.self.left.now c.in-Some.other c.in-Some.data.now c.in-Some.after.now c.loop-other.invariant.0 c.in-Some.ensures in
    let small = c.loop-other.invariant.2 in
    omega (arith, few, small, c.element_header_len.ensures c.in-Some.other (length c.in-Some.data.now))

pub loop-other-preserved-then-is_paddings : goal.loop-other-preserved-then-is_paddings
loop-other-preserved-then-is_paddings c =
    let left = c.loop-other.invariant.0 in
    let place = place_left c.args.form c.args.body.now c.loop-other.self.left.now c.in-Some.other c.in-Some.data.now c.in-Some.after.now left c.in-Some.ensures in
    let end = end_other c.args.form c.args.body.now c.loop-other.self.left.now c.in-Some.other c.in-Some.data.now c.in-Some.after.now left c.in-Some.ensures in
    let id = id_other c.args.form c.args.body.now c.loop-other.self.left.now c.in-Some.other c.in-Some.data.now c.in-Some.after.now left c.in-Some.ensures in
    let few = fits_all c.args.form c.args.body.now c.loop-other.self.left.now c.in-Some.other c.in-Some.data.now c.in-Some.after.now left c.in-Some.ensures in
    let fewer = c.loop-other.invariant.1 in
    let small = c.loop-other.invariant.2 in
    let counted = c.loop-other.invariant.3 in
    let header = length-header-some c.args.form c.in-Some.other (length c.in-Some.data.now) in (
      IsLeft-next c.args.form c.args.body.now c.loop-other.self.left.now c.in-Some.other c.in-Some.data.now c.in-Some.after.now left c.in-Some.ensures,
      omega (arith, few, fewer, left.few),
      omega (arith, few, small, left.few),
      omega (arith, few, counted, header, left.few, c.one_more-self.ensures),
      λ last was.
          subst (λ (at : ℕ). IsSurveyedTo c.args.form c.args.body.now at c.args.id last c.one_more-self.result c.loop-other.self.others_len) end
          (subst (λ (more : ℕ). IsSurveyedTo c.args.form c.args.body.now place.end c.args.id last more c.loop-other.self.others_len) (sym c.one_more-self.ensures)
          (IsSurveyedTo-zero (c.loop-other.invariant.4 last was)
          (next_other c.args.form c.args.body.now c.loop-other.self.left.now c.in-Some.other c.in-Some.data.now c.in-Some.after.now left c.in-Some.ensures)
          (λ same. c.if-other-id.false (sym id ∙ same)) (id ∙ c.if-is_paddings.ensures.0 refl))),
    )

pub loop-other-preserved : goal.loop-other-preserved
loop-other-preserved c =
    let left = c.loop-other.invariant.0 in
    let place = place_left c.args.form c.args.body.now c.loop-other.self.left.now c.in-Some.other c.in-Some.data.now c.in-Some.after.now left c.in-Some.ensures in
    let end = end_other c.args.form c.args.body.now c.loop-other.self.left.now c.in-Some.other c.in-Some.data.now c.in-Some.after.now left c.in-Some.ensures in
    let id = id_other c.args.form c.args.body.now c.loop-other.self.left.now c.in-Some.other c.in-Some.data.now c.in-Some.after.now left c.in-Some.ensures in
    let len = len_other c.args.form c.args.body.now c.loop-other.self.left.now c.in-Some.other c.in-Some.data.now c.in-Some.after.now left c.in-Some.ensures in
    let few = fits_all c.args.form c.args.body.now c.loop-other.self.left.now c.in-Some.other c.in-Some.data.now c.in-Some.after.now left c.in-Some.ensures in
    let fewer = c.loop-other.invariant.1 in
    let small = c.loop-other.invariant.2 in
    let counted = c.loop-other.invariant.3 in
    let header = c.element_header_len.ensures c.in-Some.other (length c.in-Some.data.now) in (
      IsLeft-next c.args.form c.args.body.now c.loop-other.self.left.now c.in-Some.other c.in-Some.data.now c.in-Some.after.now left c.in-Some.ensures,
      omega (arith, few, fewer, left.few),
      omega (arith, few, small, header, left.few),
      omega (arith, few, counted, left.few),
      λ last was.
          subst (λ (at : ℕ). IsSurveyedTo c.args.form c.args.body.now at c.args.id last c.loop-other.self.count (c.loop-other.self.others_len + (c.element_header_len.result + length c.in-Some.data.now))) end
          (subst (λ (more : ℕ). IsSurveyedTo c.args.form c.args.body.now place.end c.args.id last c.loop-other.self.count (c.loop-other.self.others_len + more)) (omega (arith, len, header))
          (IsSurveyedTo-other (c.loop-other.invariant.4 last was)
          (next_other c.args.form c.args.body.now c.loop-other.self.left.now c.in-Some.other c.in-Some.data.now c.in-Some.after.now left c.in-Some.ensures)
          (λ same. c.if-other-id.false (sym id ∙ same)) (λ zero_id. absurd (false≢true (c.if-is_paddings.ensures.1 (sym id ∙ zero_id)))))),
    )
