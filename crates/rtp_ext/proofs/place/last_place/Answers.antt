use Rattle.rtp_ext.proofs.Common.{IfNone, subst, IfSome_then, HasNone}
use Rattle.rtp_ext.proofs.LastPlaceLemmas.{AreElements-same, IsLastPlace-lies, lies-within}
use Rattle.rtp_ext.proofs.place.last_place.Goals as goal

pub returns-clause-found : goal.returns-clause-found
returns-clause-found c = IfSome_then c.survey_by.result.last c.survey_by.ensures.last_is (IsLastPlace-lies c.args.form c.args.id c.args.body.now)

pub returns-clause-id : goal.returns-clause-id
returns-clause-id c = IfSome_then c.survey_by.result.last c.survey_by.ensures.last_is (λ place is. is.0)

pub returns-clause-lies : goal.returns-clause-lies
returns-clause-lies c = IfSome_then c.survey_by.result.last c.survey_by.ensures.last_is (λ place is. is.1)

pub returns-clause-within : goal.returns-clause-within
returns-clause-within c = lies-within c.args.form c.args.id c.args.body.now c.survey_by.result.last c.survey_by.ensures.last_is

pub returns-clause-none : goal.returns-clause-none
returns-clause-none c = λ elements are.
    subst (λ es. IfNone c.survey_by.result.last (HasNone es c.args.id))
    (AreElements-same c.args.form c.args.body.now c.survey_by.ensures.elements elements c.survey_by.ensures.are_elements are) c.survey_by.ensures.none_is
