use Rattle.rtp_c.proofs.Common.{take, Option, w32, to_z, of_z, refl, sym, ◌∙◌, subst, false≢true, ExtensionsForm, NotPut, IsPutStatus}
use Rattle.rtp_wire.specs.PutIntoPacket.{PutsElement, AppliesToPut}
use Rattle.rtp_c.proofs.PutLemmas.{status_is, status≢ok}
use Rattle.rtp_c.proofs.WritingLemmas.{one_allowed}
use Rattle.rtp_c.proofs.growing.rtpw_put_element.Goals as goal

pub returns-in-Err-clause-put : goal.returns-in-Err-clause-put
returns-in-Err-clause-put c = λ form same is_ok. absurd (status≢ok c.put_status_of.result c.in-Err.cause c.put_status_of.ensures is_ok)

pub returns-in-Err-clause-within : goal.returns-in-Err-clause-within
returns-in-Err-clause-within c = λ is_ok. absurd (status≢ok c.put_status_of.result c.in-Err.cause c.put_status_of.ensures is_ok)

pub returns-in-Err-clause-cause : goal.returns-in-Err-clause-cause
returns-in-Err-clause-cause c = λ form same not_ok.
    subst (λ (f : Option ExtensionsForm). IsPutStatus c.args.buf.now c.args.len.now (c.args.id, c.args.data.now) f (to_z w32 (of_z w32 c.put_status_of.result)))
    (one_allowed c.in-Some.allowed form (c.in-Some.ensures.found ∙ sym same))
    (record { cause = c.in-Err.cause; is_first = c.in-Err.ensures.cause; status_is = status_is c.put_status_of.result c.in-Err.cause c.put_status_of.ensures })

pub returns-in-Err-clause-refused : goal.returns-in-Err-clause-refused
returns-in-Err-clause-refused c = λ form same. (
  λ _. subst (λ (f : Option ExtensionsForm). (cause : NotPut) × AppliesToPut c.args.buf.now c.args.len.now (c.args.id, c.args.data.now) f cause)
      (one_allowed c.in-Some.allowed form (c.in-Some.ensures.found ∙ sym same)) (c.in-Err.ensures.refused.0 refl),
  λ _ is_ok. status≢ok c.put_status_of.result c.in-Err.cause c.put_status_of.ensures is_ok,
)

pub returns-in-Ok-clause-put : goal.returns-in-Ok-clause-put
returns-in-Ok-clause-put c = λ form same _.
    subst (λ (f : Option ExtensionsForm). PutsElement (take c.args.len.now c.args.buf.now) (c.args.id, c.args.data.now) f c.put_element.new.buf c.in-Ok.new_len)
    (one_allowed c.in-Some.allowed form (c.in-Some.ensures.found ∙ sym same)) c.in-Ok.ensures.put

pub returns-in-Ok-clause-refused : goal.returns-in-Ok-clause-refused
returns-in-Ok-clause-refused c = λ form same. (
  λ wrong. absurd (wrong refl),
  λ fact _. false≢true (c.in-Ok.ensures.refused.1
      (subst (λ (f : Option ExtensionsForm). (cause : NotPut) × AppliesToPut c.args.buf.now c.args.len.now (c.args.id, c.args.data.now) f cause)
      (sym (one_allowed c.in-Some.allowed form (c.in-Some.ensures.found ∙ sym same))) fact)),
)
