use Rattle.rtp_wire.proofs.Common.{◌≡◌, ℕ, ◌+◌, ◌-◌, ◌≤◌, List, length, take, drop, Some, rules, sym, ap, ◌∙◌, subst, OnTrue_at, OnTrue_from, OnFalse_at, OnFalse_from, ExtensionsForm, AreElements, SetsLast, IsSurvey, false≢true}
use Rattle.rtp_wire.proofs.PutPlanLemmas.{plan-of, body-elements}
use Rattle.rtp_wire.proofs.SetInPlaceLemmas.{form-announced, body-ends, body-here, put_mid-same, PutsElement-set}
use Rattle.rtp_wire.proofs.packet.rewriting.Plan.set.Goals as goal

pub slice_bounds-body-end : goal.slice_bounds-body-end
slice_bounds-body-end c =
    let self = c.args.self.now in
    let plan = c.requires.plan in
    let ends = body-ends c.args.datagram.now _ plan.is_packet self.new_form (plan.announced.0 c.if-not-self.false) self.block_at self.payload_at plan.block_is plan.payload_is in
    let first : self.block_at + 4 ≤ self.payload_at = ends.0 in
    let second : self.payload_at ≤ length c.args.datagram.now = ends.1 in
    search rules

pub set_sole-requires : goal.set_sole-requires
set_sole-requires c =
    let self = c.args.self.now in
    let plan = c.requires.plan in (
      self.form,
      subst (λ (b : List ℕ). IsSurvey self.form b c.args.id self.survey)
          (sym (body-here c.args.datagram.now _ plan.is_packet self.new_form (plan.announced.0 c.if-not-self.false) self.block_at self.payload_at plan.block_is plan.payload_is)) plan.survey_is,
    )

pub returns-then-not-self-clause-answer : goal.returns-then-not-self-clause-answer
returns-then-not-self-clause-answer c = λ allowed growth form-is.
    let plan = plan-of c.args.datagram.now growth.parts c.args.id c.args.self.now growth.is_packet c.requires.plan in (
      λ wrong. absurd (false≢true wrong),
      λ is. absurd (false≢true (sym c.if-not-self.true ∙ plan.announced.1 (is.0 ∙ ap (λ (f : ExtensionsForm). Some f) (sym form-is)))),
    )

pub returns-clause-set : goal.returns-clause-set
returns-clause-set c = λ allowed growth form-is.
    let self = c.args.self.now in
    let plan = plan-of c.args.datagram.now growth.parts c.args.id self growth.is_packet c.requires.plan in
    let some = plan.announced.0 c.if-not-self.false in
    let same : self.form ≡ self.new_form = form-announced growth.parts.block self.new_form self.form plan.was_form some in
    let here = body-here c.args.datagram.now growth.parts growth.is_packet self.new_form some self.block_at self.payload_at plan.block_is plan.payload_is in
    let body : List ℕ = take (self.payload_at - (self.block_at + 4)) (drop (self.block_at + 4) c.args.datagram.now) in
    let survey : IsSurvey self.new_form body c.args.id self.survey =
    subst (λ (f : ExtensionsForm). IsSurvey f body c.args.id self.survey) same (subst (λ (b : List ℕ). IsSurvey self.form b c.args.id self.survey) (sym here) plan.survey_is) in
    let are : AreElements self.new_form body growth.elements =
    subst (λ (f : ExtensionsForm). AreElements f body growth.elements) same
    (subst (λ (b : List ℕ). AreElements self.form b growth.elements) (sym here) (body-elements growth.parts.block growth.elements self.new_form self.form plan.was_form growth.are_elements)) in
    OnTrue_from _ _ (λ yes.
    PutsElement-set c.args.datagram.now (c.args.id, c.args.data.now) allowed growth self.new_form self.block_at self.payload_at some plan.block_is plan.payload_is form-is
    c.set_sole.new.body (c.set_sole.auto.body ∙ ap length here) c.requires.above ((c.set_sole.ensures.answer self.new_form growth.elements survey are).0 yes)
    (subst (λ (b : List ℕ). SetsLast self.new_form c.args.id c.args.data.now b c.set_sole.new.body) here (OnTrue_at yes (c.set_sole.ensures.set self.new_form survey)))
    (OnTrue_at yes (c.set_sole.ensures.elements self.new_form growth.elements survey are)))

pub returns-clause-answer : goal.returns-clause-answer
returns-clause-answer c = λ allowed growth form-is.
    let self = c.args.self.now in
    let plan = plan-of c.args.datagram.now growth.parts c.args.id self growth.is_packet c.requires.plan in
    let some = plan.announced.0 c.if-not-self.false in
    let here = body-here c.args.datagram.now growth.parts growth.is_packet self.new_form some self.block_at self.payload_at plan.block_is plan.payload_is in
    let answer = c.set_sole.ensures.answer self.form growth.elements (subst (λ (b : List ℕ). IsSurvey self.form b c.args.id self.survey) (sym here) plan.survey_is)
    (subst (λ (b : List ℕ). AreElements self.form b growth.elements) (sym here) (body-elements growth.parts.block growth.elements self.new_form self.form plan.was_form growth.are_elements)) in
    (λ yes. (some ∙ ap (λ (f : ExtensionsForm). Some f) form-is, answer.0 yes), λ is. answer.1 is.1)

pub returns-clause-unchanged : goal.returns-clause-unchanged
returns-clause-unchanged c =
    let self = c.args.self.now in
    let plan = c.requires.plan in
    OnFalse_from _ _ (λ no.
    put_mid-same c.args.datagram.now _ plan.is_packet self.new_form (plan.announced.0 c.if-not-self.false) self.block_at self.payload_at plan.block_is plan.payload_is
    c.set_sole.new.body (OnFalse_at no c.set_sole.ensures.unchanged))
