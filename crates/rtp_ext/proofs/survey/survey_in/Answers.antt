use Rattle.rtp_ext.proofs.Common.{ℕ, None, subst, IsSurveyedTo}
use Rattle.rtp_ext.proofs.SurveyLemmas.{IsSurveyedTo-start, IsSurvey-end}
use Rattle.rtp_ext.proofs.LeftLemmas.{none_passed, IsLeft-all}
use Rattle.rtp_ext.proofs.survey.survey_in.Goals as goal

pub loop-place-init : goal.loop-place-init
loop-place-init c = (
  IsLeft-all c.args.body.now,
  subst (λ (at : ℕ). IsSurveyedTo c.args.form c.args.body.now at c.args.id None 0 0) (none_passed c.args.body.now) (IsSurveyedTo-start c.args.form c.args.body.now c.args.id),
)

pub loop-place-preserved : goal.loop-place-preserved
loop-place-preserved c = (c.in-Some.ensures.left, c.in-Some.ensures.some c.loop-place.last c.loop-place.invariant.1)

pub returns : goal.returns
returns c = IsSurvey-end
    (c.in_default.ensures.none c.loop-place.last c.loop-place.invariant.1) c.in_default.ensures.end
