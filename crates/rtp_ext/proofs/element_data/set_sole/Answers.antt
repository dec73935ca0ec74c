use Rattle.rtp_ext.proofs.Common.{arith, refl, false≢true}
use Rattle.rtp_ext.proofs.LastPlaceLemmas.{SetsLast-at}
use Rattle.rtp_ext.proofs.PutLemmas.{sole-absent, last_known, data_within, data_in_body, counted_once, sole_found, sole_set}
use Rattle.rtp_ext.proofs.element_data.set_sole.Goals as goal
use Rattle.rtp_ext.proofs.element_data.set_sole.Goals.{then-survey-ne1-via-then-survey-ne1, then-survey-ne1-via-else-survey-ne1+then-place-data}

pub returns-in_default-clause-answer : goal.returns-in_default-clause-answer
returns-in_default-clause-answer c = λ form elements is are. (
  λ yes. absurd (false≢true yes),
  λ sole. absurd (sole-absent c.args.data.now is are c.in_default.is sole),
)

pub overflow_sub-place : goal.overflow_sub-place
overflow_sub-place c = data_within c.requires.0 c.args.body.now c.args.id c.args.survey.now c.in-Some.place c.requires.1 c.in-Some.is

pub returns-then-survey-ne1-clause-answer : goal.returns-then-survey-ne1-clause-answer
returns-then-survey-ne1-clause-answer c = λ form elements is are. (
  λ yes. absurd (false≢true yes),
  λ sole. let once = counted_once form c.args.body.now c.args.id c.args.survey.now c.in-Some.place is c.in-Some.is elements c.args.data.now are sole in
      elim c.then-survey-ne1.branch [
        | then-survey-ne1-via-then-survey-ne1 w ↦ absurd (w.if-survey-ne1.true once.0)
        | then-survey-ne1-via-else-survey-ne1+then-place-data w ↦ absurd (w.if-place-data.true once.1)
      ],
)

pub put_few-requires : goal.put_few-requires
put_few-requires c =
    let d = data_within c.requires.0 c.args.body.now c.args.id c.args.survey.now c.in-Some.place c.requires.1 c.in-Some.is in
    let e = data_in_body c.requires.0 c.args.body.now c.args.id c.args.survey.now c.in-Some.place c.requires.1 c.in-Some.is in
    omega arith

pub returns-clause-set : goal.returns-clause-set
returns-clause-set c = λ form is. SetsLast-at form c.args.data.now
    (last_known form c.args.body.now c.args.id c.args.survey.now c.in-Some.place is c.in-Some.is) c.if-place-data.false c.put_few.ensures

pub returns-clause-answer : goal.returns-clause-answer
returns-clause-answer c = λ form elements is are. (
  λ yes. sole_found form c.args.body.now c.args.id c.args.survey.now c.in-Some.place is c.in-Some.is elements c.args.data.now are c.if-survey-ne1.false c.if-place-data.false,
  λ sole. refl,
)

pub returns-clause-elements : goal.returns-clause-elements
returns-clause-elements c = λ form elements is are.
    sole_set form c.args.body.now c.args.id c.args.survey.now c.in-Some.place is c.in-Some.is elements c.args.data.now are c.if-survey-ne1.false c.if-place-data.false c.put_few.new.buf c.put_few.ensures
