use Rattle.std.proofs.Common.{refl, sym, ap, subst, ◌∙◌, length, []}
use Rattle.std.specs.Prelude.{is_some, ℕ, List, IsErr, IfErr, ◌↔◌}
use Rattle.std.proofs.lemmas.Bool.{false≢true}
use Rattle.rtp_ext.specs.declared.form.ExtensionsForm.{ExtensionsForm}
use Rattle.std.specs.Prelude.{Option}
use Rattle.rtp_wire.specs.declared.packet.not_put.NotPut.{NotPut}
use Rattle.rtp_wire.specs.PartsAt.{parts_at}
use Rattle.rtp_wire.specs.declared.packet.not_put.NotPut.TheVariants.{OtherForm}
use Rattle.rtp_wire.specs.Packet.{PacketParts, HasOtherForm}
use Rattle.rtp_wire.specs.PacketBuf.{bytes_of, parts_within}
use Rattle.rtp_wire.specs.PutIntoPacket.{form_of_block, IsFirstNotPut}
use Rattle.rtp_wire.specs.RemadeBlock.{IsInOther, RemakesBlock}
use Rattle.std.proofs.lemmas.Result.{IfOk-weaker}
use Rattle.rtp_wire.specs.RewrittenBlock.{RewritesBlock, StopsRewriting, IsPlan}
use Rattle.rtp_wire.proofs.PutElementLemmas.{cause-to}
use Rattle.rtp_wire.proofs.RemadeLemmas.{RemakesBlock-rewritten}
use Rattle.rtp_wire.proofs.RemadePacketLemmas.{kept-form, other-form, no-other, to-form, from-form, none-form}
use Rattle.rtp_wire.proofs.packet.rtp_packet_buf.RtpPacketBuf.change_form.Goals as goal
use Rattle.rtp_wire.proofs.packet.rtp_packet_buf.RtpPacketBuf.change_form.Goals.{Else-has_other_form}

-- a block of another profile is there, or it isn't
none : (c : Else-has_other_form) → HasOtherForm (bytes_of c.args.self.now) → ⊥
none c = no-other c.args.self.now (ap (λ (p : PacketParts). is_some p.other_block) (sym c.as_packet-packet.ensures.parts) ∙ sym c.has_other_form.ensures ∙ c.if-has_other_form.false)

pub returns-then-has_other_form-clause-refused : goal.returns-then-has_other_form-clause-refused
returns-then-has_other_form-clause-refused c = (
  λ _. (OtherForm, other-form c.args.self.now (ap (λ (p : PacketParts). is_some p.other_block) (sym c.as_packet-packet.ensures.parts) ∙ sym c.has_other_form.ensures ∙ c.if-has_other_form.true)),
  λ _. refl,
)

pub returns-then-not-is_in_other-clause-changed : goal.returns-then-not-is_in_other-clause-changed
returns-then-not-is_in_other-clause-changed c = λ is.
    absurd (false≢true (sym c.if-not-is_in_other.true
    ∙ c.is_in_other.ensures.1 (subst (λ (was : Option ExtensionsForm). IsInOther was c.args.form) (sym (kept-form c.args.self.now)) is)))

pub returns-then-not-is_in_other-clause-refused : goal.returns-then-not-is_in_other-clause-refused
returns-then-not-is_in_other-clause-refused c = (
  λ wrong. absurd (false≢true wrong),
  λ fact.
      absurd (none-form (bytes_of c.args.self.now) (length c.args.self.now.buf.now) (form_of_block (parts_within c.args.self.now).block) c.args.form
      (λ is.
      false≢true (sym c.if-not-is_in_other.true
      ∙ c.is_in_other.ensures.1 (subst (λ (was : Option ExtensionsForm). IsInOther was c.args.form) (sym (kept-form c.args.self.now)) is)))
      (none (goal.at.returns-then-not-is_in_other-clause-refused c).Else-has_other_form) fact.0 fact.1),
)

pub rewrite-requires-clause-plan : goal.rewrite-requires-clause-plan
rewrite-requires-clause-plan c = subst (λ (b : List ℕ). IsPlan b (parts_at b) 0 c.new-plan.result) c.as_packet-packet.ensures.bytes c.new-plan.ensures.plan

pub returns-clause-changed : goal.returns-clause-changed
returns-clause-changed c =
    IfOk-weaker c.rewrite.result (λ _. RewritesBlock (bytes_of c.args.self.now) c.new-plan.result.new_form 0 [] c.rewrite.new.self.buf.now c.rewrite.new.self.len)
    (λ _. IsInOther (form_of_block (parts_within c.args.self.now).block) c.args.form → RemakesBlock (bytes_of c.args.self.now) c.args.form [] c.rewrite.new.self.buf.now c.rewrite.new.self.len)
    (λ _ made _.
    RemakesBlock-rewritten (bytes_of c.args.self.now) c.args.form [] c.rewrite.new.self.buf.now c.rewrite.new.self.len
    (subst (λ (f : ExtensionsForm). RewritesBlock (bytes_of c.args.self.now) f 0 [] c.rewrite.new.self.buf.now c.rewrite.new.self.len) c.new-plan.ensures.form made))
    c.rewrite.ensures.rewritten

pub returns-clause-same : goal.returns-clause-same
returns-clause-same c = λ other.
    absurd (other (subst (λ (was : Option ExtensionsForm). IsInOther was c.args.form) (kept-form c.args.self.now) (c.is_in_other.ensures.0 c.if-not-is_in_other.false)))

pub returns-clause-cause : goal.returns-clause-cause
returns-clause-cause c =
    let is = subst (λ (was : Option ExtensionsForm). IsInOther was c.args.form) (kept-form c.args.self.now) (c.is_in_other.ensures.0 c.if-not-is_in_other.false) in
    cause-to _ _
    (to-form (bytes_of c.args.self.now) (length c.args.self.now.buf.now) (form_of_block (parts_within c.args.self.now).block) c.args.form is)
    (from-form (bytes_of c.args.self.now) (length c.args.self.now.buf.now) (form_of_block (parts_within c.args.self.now).block) c.args.form
    (none (goal.at.returns-clause-cause c).Else-has_other_form)) c.rewrite.result
    (subst (λ (f : ExtensionsForm). IfErr c.rewrite.result (IsFirstNotPut (StopsRewriting (bytes_of c.args.self.now) (length c.args.self.now.buf.now) f 0 []))) c.new-plan.ensures.form c.rewrite.ensures.cause)

pub returns-clause-refused : goal.returns-clause-refused
returns-clause-refused c =
    let is = subst (λ (was : Option ExtensionsForm). IsInOther was c.args.form) (kept-form c.args.self.now) (c.is_in_other.ensures.0 c.if-not-is_in_other.false) in
    let P : ExtensionsForm → Type 0 = λ f. IsErr c.rewrite.result ↔ ((cause : NotPut) × StopsRewriting (bytes_of c.args.self.now) (length c.args.self.now.buf.now) f 0 [] cause) in
    let refused : P c.args.form = subst P c.new-plan.ensures.form c.rewrite.ensures.refused in (
      λ wrong.
          let fact = refused.0 wrong in
          (fact.0, to-form (bytes_of c.args.self.now) (length c.args.self.now.buf.now) (form_of_block (parts_within c.args.self.now).block) c.args.form is fact.0 fact.1),
      λ fact.
          refused.1 (
            fact.0,
            from-form (bytes_of c.args.self.now) (length c.args.self.now.buf.now) (form_of_block (parts_within c.args.self.now).block) c.args.form
                (none (goal.at.returns-clause-refused c).Else-has_other_form) fact.0 fact.1,
          ),
    )
