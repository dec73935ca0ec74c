use Rattle.rtp_wire.proofs.Common.{◌≡◌, ℕ, ◌≤◌, List, length, arith, rules, refl, sym, ◌∙◌, subst, false≢true, IsSurvey}
use Rattle.rtp_ext.specs.ElementsInARow.{elements_added}
use Rattle.rtp_ext.proofs.RewrittenLemmas.{added-each}
use Rattle.rtp_wire.specs.PartsAt.{parts_at}
use Rattle.rtp_wire.specs.RewrittenBlock.{IsRewritten}
use Rattle.rtp_wire.proofs.PartsLemmas.{length-packet}
use Rattle.rtp_wire.proofs.ResizedLemmas.{block_len-body}
use Rattle.rtp_wire.proofs.SetInPlaceLemmas.{body-before}
use Rattle.rtp_wire.proofs.RewrittenLemmas.{surveyed, new-rewritten, body_len-reckoned, first-long_id, first-uncarried, first-long}
use Rattle.rtp_wire.proofs.packet.rewriting.Plan.new_body_len.Goals as goal
use Rattle.rtp_wire.proofs.packet.rewriting.Plan.new_body_len.Goals.{After-max-len}

pub overflow_sub-body : goal.overflow_sub-body
overflow_sub-body c =
    let plan = c.requires.plan in
    omega (arith, plan.payload_is, plan.body_is, block_len-body (parts_at c.args.datagram.now).block)

pub slice_bounds-body-end : goal.slice_bounds-body-end
slice_bounds-body-end c =
    let plan = c.requires.plan in
    let within : c.args.self.now.payload_at ≤ length c.args.datagram.now = omega (arith, plan.payload_is, length-packet c.args.datagram.now (parts_at c.args.datagram.now) plan.is_packet) in
    search rules

pub rewritten_len-requires-clause-survey : goal.rewritten_len-requires-clause-survey
rewritten_len-requires-clause-survey c =
    let self = c.args.self.now in
    let plan = c.requires.plan in
    subst (λ (b : List ℕ). IsSurvey self.form b c.args.goes self.survey)
    (sym (body-before c.args.datagram.now (parts_at c.args.datagram.now) plan.is_packet (parts_at c.args.datagram.now).block self.payload_at self.body_len refl plan.payload_is plan.body_is)) plan.survey_is

pub returns-then-has_long_id-clause-cause : goal.returns-then-has_long_id-clause-cause
returns-then-has_long_id-clause-cause c = λ room.
    let here = surveyed c.args.datagram.now (parts_at c.args.datagram.now) c.args.goes c.args.self.now c.requires.plan in
    first-long_id c.args.datagram.now (parts_at c.args.datagram.now) c.args.goes c.args.self.now c.requires.plan (elements_added c.args.comes) (added-each c.args.self.now.new_form c.args.comes c.requires.writable)
    (c.in_default.ensures.none _ here) room ((c.has_long_id.ensures _ here).0 c.if-has_long_id.true)

pub returns-in_default-clause-cause : goal.returns-in_default-clause-cause
returns-in_default-clause-cause c = λ room.
    let here = surveyed c.args.datagram.now (parts_at c.args.datagram.now) c.args.goes c.args.self.now c.requires.plan in
    first-uncarried c.args.datagram.now (parts_at c.args.datagram.now) c.args.goes c.args.self.now c.requires.plan (elements_added c.args.comes) (added-each c.args.self.now.new_form c.args.comes c.requires.writable)
    (c.in_default.ensures.none _ here) room (λ long. false≢true (sym c.if-has_long_id.false ∙ (c.has_long_id.ensures _ here).1 long))

abbrev rewritten : (c : After-max-len) → IsRewritten c.args.datagram.now c.args.self.now.new_form c.args.goes (elements_added c.args.comes)
rewritten c =
    new-rewritten c.args.datagram.now (parts_at c.args.datagram.now) c.args.goes c.args.self.now c.requires.plan (elements_added c.args.comes)
    (added-each c.args.self.now.new_form c.args.comes c.requires.writable)
    (c.in-Some.ensures.carried _ (surveyed c.args.datagram.now (parts_at c.args.datagram.now) c.args.goes c.args.self.now c.requires.plan))

reckoned : (c : After-max-len) → c.max-len.result ≡ (rewritten c).body_len
reckoned c =
    let here = surveyed c.args.datagram.now (parts_at c.args.datagram.now) c.args.goes c.args.self.now c.requires.plan in
    body_len-reckoned c.args.datagram.now (parts_at c.args.datagram.now) c.args.goes c.args.self.now c.requires.plan (elements_added c.args.comes)
    (added-each c.args.self.now.new_form c.args.comes c.requires.writable) (c.in-Some.ensures.carried _ here) c.in-Some.elements_len c.in_words.result c.max-len.result
    (c.in-Some.ensures.length _ here) c.in_words.ensures c.max-len.ensures

pub returns-then-len-gt-MAX_BODY_LEN-clause-cause : goal.returns-then-len-gt-MAX_BODY_LEN-clause-cause
returns-then-len-gt-MAX_BODY_LEN-clause-cause c = λ room.
    let at = (goal.at.returns-then-len-gt-MAX_BODY_LEN-clause-cause c).After-max-len in
    first-long c.args.datagram.now c.args.self.now.new_form c.args.goes (elements_added c.args.comes) (rewritten at) room (omega (arith, reckoned at, c.if-len-gt-MAX_BODY_LEN.true))

pub returns-clause-found : goal.returns-clause-found
returns-clause-found c = let at = (goal.at.returns-clause-found c).After-max-len in (rewritten at, reckoned at)
