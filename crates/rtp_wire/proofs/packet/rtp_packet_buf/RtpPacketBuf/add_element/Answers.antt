use Rattle.std.proofs.Common.{rules, ◌≡◌, ℕ, List, [], ◌∷◌, length, arith, Some, Option, sym, ap, ◌∙◌, subst}
use Rattle.std.specs.Prelude.{IfSome}
use Rattle.std.proofs.lemmas.Result.{IfOk-weaker}
use Rattle.rtp_ext.specs.declared.form.ExtensionsForm.{ExtensionsForm}
use Rattle.rtp_ext.specs.ElementsInARow.{IsWritable}
use Rattle.rtp_ext.specs.Elements.{Element}
use Rattle.rtp_wire.specs.NotAPacket.{IsFirstBy}
use Rattle.rtp_wire.specs.Packet.{PacketParts, HasOtherForm}
use Rattle.rtp_wire.specs.PacketBuf.{bytes_of, parts_within}
use Rattle.rtp_wire.specs.PartsAt.{parts_at}
use Rattle.rtp_wire.specs.PutIntoPacket.{form_of_block, put_place}
use Rattle.rtp_wire.specs.RemadeBlock.{RemakesBlock, form_with, KeepsFromAdding}
use Rattle.rtp_wire.specs.RewrittenBlock.{StopsForm, RewritesBlock, IsPlan}
use Rattle.rtp_wire.proofs.PacketBufLemmas.{is_packet}
use Rattle.rtp_wire.proofs.PartsLemmas.{no_other_form}
use Rattle.rtp_wire.proofs.PutPlanLemmas.{IsWritable-allowed}
use Rattle.rtp_wire.proofs.PutElementLemmas.{first-form, cause-to}
use Rattle.rtp_wire.proofs.RemadeLemmas.{RemakesBlock-rewritten}
use Rattle.rtp_wire.proofs.RemadePacketLemmas.{form-to_adding, adding-to_form, to-adding, from-adding}
use Rattle.rtp_wire.proofs.packet.rtp_packet_buf.RtpPacketBuf.add_element.Goals as goal
use Rattle.rtp_wire.proofs.packet.rtp_packet_buf.RtpPacketBuf.add_element.Goals.{After-form_with, After-new-plan}

-- ---- the form

first : (c : After-form_with) (cause : _) → IsFirstBy put_place (StopsForm c.as_packet-packet.result.datagram.now (c.args.id, c.args.data.now) c.args.allowed) cause
    → IsFirstBy put_place
    (KeepsFromAdding (bytes_of c.args.self.now) (length c.args.self.now.buf.now) (form_of_block (parts_within c.args.self.now).block) (c.args.id, c.args.data.now) c.args.allowed) cause
first c cause =
    let fits = c.in_ok-check_element.ensures.fits in
    first-form (bytes_of c.args.self.now) _ (c.args.id, c.args.data.now) c.args.allowed _ cause c.as_packet-packet.ensures.bytes
    (form-to_adding c.args.self.now (length c.args.self.now.buf.now) (c.args.id, c.args.data.now) c.args.allowed)
    (adding-to_form c.args.self.now (length c.args.self.now.buf.now) (c.args.id, c.args.data.now) c.args.allowed fits.0 fits.1)

pub returns-in_err-form-clause-cause : goal.returns-in_err-form-clause-cause
returns-in_err-form-clause-cause c = let found = first (goal.at.returns-in_err-form-clause-cause c).After-form_with c.in_err-form.field-0.0 c.in_err-form.ensures.cause in search rules

pub returns-in_err-form-clause-refused : goal.returns-in_err-form-clause-refused
returns-in_err-form-clause-refused c =
    let found = first (goal.at.returns-in_err-form-clause-refused c).After-form_with c.in_err-form.field-0.0 c.in_err-form.ensures.cause in
    (λ _. (c.in_err-form.field-0.0, found.applies), λ _. c.from_residual-in_err-form.ensures.0)

-- ---- what is rewritten

some : (c : After-new-plan) → form_with (form_of_block (parts_within c.args.self.now).block) (c.args.id, c.args.data.now) c.args.allowed ≡ Some c.new-plan.result.new_form
some c =
    ap (λ (p : PacketParts). form_with (form_of_block p.block) (c.args.id, c.args.data.now) c.args.allowed) (sym c.as_packet-packet.ensures.parts) ∙ c.in_ok-form.ensures.form
    ∙ ap (λ (f : ExtensionsForm). Some f) (sym c.new-plan.ensures.form)

writable : (c : After-new-plan) → IsWritable c.new-plan.result.new_form (c.args.id, c.args.data.now)
writable c =
    IsWritable-allowed (form_of_block (parts_within c.args.self.now).block) c.args.allowed (c.args.id, c.args.data.now) c.new-plan.result.new_form c.in_ok-check_element.ensures.fits.0
    (let fits = c.ranges.id.fits in omega arith) c.in_ok-check_element.ensures.fits.1 (some c)

-- no block of another profile is there
none : (c : After-new-plan) → HasOtherForm (bytes_of c.args.self.now) → ⊥
none c =
    no_other_form (bytes_of c.args.self.now) (parts_within c.args.self.now) (is_packet c.args.self.now)
    (ap (λ (p : PacketParts). p.other_block) (sym c.as_packet-packet.ensures.parts) ∙ c.in_ok-form.ensures.no_other)

pub rewrite-requires-clause-plan : goal.rewrite-requires-clause-plan
rewrite-requires-clause-plan c = subst (λ (b : List ℕ). IsPlan b (parts_at b) 0 c.new-plan.result) c.as_packet-packet.ensures.bytes c.new-plan.ensures.plan

pub rewrite-requires-clause-writable : goal.rewrite-requires-clause-writable
rewrite-requires-clause-writable c = writable (goal.at.rewrite-requires-clause-writable c).After-new-plan

pub returns-clause-added : goal.returns-clause-added
returns-clause-added c =
    let all = some (goal.at.returns-clause-added c).After-new-plan in
    let element : Element = (c.args.id, c.args.data.now) in
    IfOk-weaker c.rewrite.result (λ _. RewritesBlock (bytes_of c.args.self.now) c.new-plan.result.new_form 0 (element ∷ []) c.rewrite.new.self.buf.now c.rewrite.new.self.len)
    (λ _.
    IfSome (form_with (form_of_block (parts_within c.args.self.now).block) element c.args.allowed)
    (λ form. RemakesBlock (bytes_of c.args.self.now) form (element ∷ []) c.rewrite.new.self.buf.now c.rewrite.new.self.len))
    (λ _ made.
    subst (λ (f : Option ExtensionsForm). IfSome f (λ form. RemakesBlock (bytes_of c.args.self.now) form (element ∷ []) c.rewrite.new.self.buf.now c.rewrite.new.self.len)) (sym all)
    (RemakesBlock-rewritten (bytes_of c.args.self.now) c.new-plan.result.new_form (element ∷ []) c.rewrite.new.self.buf.now c.rewrite.new.self.len made))
    c.rewrite.ensures.rewritten

pub returns-clause-cause : goal.returns-clause-cause
returns-clause-cause c =
    let at = (goal.at.returns-clause-cause c).After-new-plan in
    let element : Element = (c.args.id, c.args.data.now) in
    cause-to _ _
    (to-adding c.args.self.now (length c.args.self.now.buf.now) element c.args.allowed c.in_ok-check_element.ensures.fits.0 c.in_ok-check_element.ensures.fits.1 c.new-plan.result.new_form (some at) (writable at))
    (from-adding c.args.self.now (length c.args.self.now.buf.now) element c.args.allowed c.in_ok-check_element.ensures.fits.0 c.in_ok-check_element.ensures.fits.1 c.new-plan.result.new_form (some at) (writable at) (none at))
    c.rewrite.result c.rewrite.ensures.cause

pub returns-clause-refused : goal.returns-clause-refused
returns-clause-refused c =
    let at = (goal.at.returns-clause-refused c).After-new-plan in
    let element : Element = (c.args.id, c.args.data.now) in
    let to =
    to-adding c.args.self.now (length c.args.self.now.buf.now) element c.args.allowed c.in_ok-check_element.ensures.fits.0 c.in_ok-check_element.ensures.fits.1 c.new-plan.result.new_form (some at) (writable at) in
    let from =
    from-adding c.args.self.now (length c.args.self.now.buf.now) element c.args.allowed c.in_ok-check_element.ensures.fits.0 c.in_ok-check_element.ensures.fits.1 c.new-plan.result.new_form (some at) (writable at) (none at) in
    (λ wrong. let fact = c.rewrite.ensures.refused.0 wrong in (fact.0, to fact.0 fact.1), λ fact. c.rewrite.ensures.refused.1 (fact.0, from fact.0 fact.1))
