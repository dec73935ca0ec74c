use Rattle.rtp_c.proofs.Common.{take, [], refl, sym, ◌∙◌, subst, false≢true, ExtensionsForm, NotPut}
use Rattle.rtp_wire.specs.PartsAt.{form_in}
use Rattle.rtp_wire.specs.RemadeBlock.{RemakesBlock, IsInOther}
use Rattle.rtp_c.specs.ChangedBlock.{KeepsBlock}
use Rattle.rtp_c.proofs.PutLemmas.{status≢ok}
use Rattle.rtp_c.proofs.WritingLemmas.{one_form}
use Rattle.rtp_c.proofs.blocks.rtpw_change_form.Goals as goal

pub returns-in-Err-clause-changed : goal.returns-in-Err-clause-changed
returns-in-Err-clause-changed c = λ f same is_ok. absurd (status≢ok c.put_status_of.result c.in-Err.cause c.put_status_of.ensures is_ok)

pub returns-in-Err-clause-within : goal.returns-in-Err-clause-within
returns-in-Err-clause-within c = λ is_ok. absurd (status≢ok c.put_status_of.result c.in-Err.cause c.put_status_of.ensures is_ok)

pub returns-in-Err-clause-refused : goal.returns-in-Err-clause-refused
returns-in-Err-clause-refused c = λ f same. (
  λ _. subst (λ (g : ExtensionsForm). (cause : NotPut) × KeepsBlock c.args.buf.now c.args.len.now g cause)
      (one_form c.in-Some.form f (c.in-Some.ensures.found ∙ sym same)) (c.in-Err.ensures.refused.0 refl),
  λ _ is_ok. status≢ok c.put_status_of.result c.in-Err.cause c.put_status_of.ensures is_ok,
)

pub returns-in-Ok-clause-changed : goal.returns-in-Ok-clause-changed
returns-in-Ok-clause-changed c = λ f same _ other.
    let is = one_form c.in-Some.form f (c.in-Some.ensures.found ∙ sym same) in
    subst (λ (g : ExtensionsForm). RemakesBlock (take c.args.len.now c.args.buf.now) g [] c.change_form.new.buf c.in-Ok.new_len) is
    (c.in-Ok.ensures.changed (subst (IsInOther (form_in (take c.args.len.now c.args.buf.now))) (sym is) other))

pub returns-in-Ok-clause-refused : goal.returns-in-Ok-clause-refused
returns-in-Ok-clause-refused c = λ f same. (
  λ wrong. absurd (wrong refl),
  λ fact _. false≢true (c.in-Ok.ensures.refused.1
      (subst (λ (g : ExtensionsForm). (cause : NotPut) × KeepsBlock c.args.buf.now c.args.len.now g cause)
      (sym (one_form c.in-Some.form f (c.in-Some.ensures.found ∙ sym same))) fact)),
)
