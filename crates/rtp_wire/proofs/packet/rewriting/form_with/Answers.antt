use Rattle.rtp_wire.proofs.Common.{◌≡◌, None, Option, sym, ◌∙◌, ap, ExtensionsForm, allowed_form, needed_form, form_of_block, parts_of}
use Rattle.rtp_wire.proofs.PartsLemmas.{IsPacket-found, none_there}
use Rattle.rtp_wire.proofs.PutPlanLemmas.{first-other_form, first-long_id, first-only}
use Rattle.rtp_wire.proofs.packet.rewriting.form_with.Goals as goal
use Rattle.rtp_wire.proofs.packet.rewriting.form_with.Goals.{In_default}

pub returns-then-has_other_form-clause-cause : goal.returns-then-has_other_form-clause-cause
returns-then-has_other_form-clause-cause c =
    first-other_form c.args.packet.now (c.args.id, c.args.data.now) c.args.allowed (sym c.has_other_form.ensures ∙ c.if-has_other_form.true)

-- no form that is allowed serves
none-serves : (c : In_default) → allowed_form c.args.allowed (needed_form (form_of_block (parts_of c.args.packet.now).block) (c.args.id, c.args.data.now)) ≡ None
none-serves c =
    ap (λ (form : Option ExtensionsForm). allowed_form c.args.allowed (needed_form form (c.args.id, c.args.data.now))) (sym c.form.ensures) ∙ sym c.form_to_put.ensures ∙ c.in_default.is

pub returns-then-id-gt-MAX_ID_ONE_BYTE_FORM-clause-cause : goal.returns-then-id-gt-MAX_ID_ONE_BYTE_FORM-clause-cause
returns-then-id-gt-MAX_ID_ONE_BYTE_FORM-clause-cause c =
    first-long_id c.args.packet.now.datagram.now (c.args.id, c.args.data.now) c.args.allowed (parts_of c.args.packet.now) (IsPacket-found c.args.packet.now)
    (none_there _ (sym c.has_other_form.ensures ∙ c.if-has_other_form.false)) (none-serves (goal.at.returns-then-id-gt-MAX_ID_ONE_BYTE_FORM-clause-cause c).In_default)
    c.if-id-gt-MAX_ID_ONE_BYTE_FORM.true

pub returns-clause-cause : goal.returns-clause-cause
returns-clause-cause c =
    first-only c.args.packet.now.datagram.now (c.args.id, c.args.data.now) c.args.allowed (parts_of c.args.packet.now) (IsPacket-found c.args.packet.now)
    (none_there _ (sym c.has_other_form.ensures ∙ c.if-has_other_form.false)) (none-serves (goal.at.returns-clause-cause c).In_default)
    c.if-id-gt-MAX_ID_ONE_BYTE_FORM.false
