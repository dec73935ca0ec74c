use Rattle.rtp_c.proofs.Common.{Option, refl, sym, ◌∙◌, subst, false≢true, ExtensionsForm, NotPut}
use Rattle.rtp_c.specs.ChangedBlock.{KeepsElement}
use Rattle.rtp_c.proofs.PutLemmas.{status≢ok}
use Rattle.rtp_c.proofs.WritingLemmas.{one_allowed}
use Rattle.rtp_c.proofs.blocks.rtpw_add_element.Goals as goal

pub returns-in-Err-clause-added : goal.returns-in-Err-clause-added
returns-in-Err-clause-added c = λ form same is_ok. absurd (status≢ok c.put_status_of.result c.in-Err.cause c.put_status_of.ensures is_ok)

pub returns-in-Err-clause-within : goal.returns-in-Err-clause-within
returns-in-Err-clause-within c = λ is_ok. absurd (status≢ok c.put_status_of.result c.in-Err.cause c.put_status_of.ensures is_ok)

pub returns-in-Err-clause-refused : goal.returns-in-Err-clause-refused
returns-in-Err-clause-refused c = λ form same. (
  λ _. subst (λ (f : Option ExtensionsForm). (cause : NotPut) × KeepsElement c.args.buf.now c.args.len.now (c.args.id, c.args.data.now) f cause)
      (one_allowed c.in-Some.allowed form (c.in-Some.ensures.found ∙ sym same)) (c.in-Err.ensures.refused.0 refl),
  λ _ is_ok. status≢ok c.put_status_of.result c.in-Err.cause c.put_status_of.ensures is_ok,
)

pub returns-in-Ok-clause-refused : goal.returns-in-Ok-clause-refused
returns-in-Ok-clause-refused c = λ form same. (
  λ wrong. absurd (wrong refl),
  λ fact _. false≢true (c.in-Ok.ensures.refused.1
      (subst (λ (f : Option ExtensionsForm). (cause : NotPut) × KeepsElement c.args.buf.now c.args.len.now (c.args.id, c.args.data.now) f cause)
      (sym (one_allowed c.in-Some.allowed form (c.in-Some.ensures.found ∙ sym same))) fact)),
)
