use Rattle.rtp_c.proofs.Common.{ℕ, List, length, sym, ap, subst, ◌∙◌, arith, refl, false≢true, All, ◌+◌, ◌≤◌, rules}
use Rattle.std.proofs.Common.{take, length-take}
use Rattle.rtp_wire.specs.Packet.{header_len_of}
use Rattle.rtp_route.specs.declared.slots.Slot.{Slot}
use Rattle.rtp_route.specs.Template.{total_of}
use Rattle.rtp_route.proofs.LengthLemmas.{short-slots}
use Rattle.rtp_c.proofs.TemplateLemmas.{group-of, not_routed≢ok, not_routed-is, kept-of, header-of}
use Rattle.rtp_c.proofs.WritingLemmas.{one_allowed}
use Rattle.rtp_c.proofs.template.rtpw_make_template.Goals as goal

pub store-requires-clause-short : goal.store-requires-clause-short
store-requires-clause-short c =
    subst (λ (n : ℕ). All (λ (s : Slot). s.len ≤ 255) (take n c.make_template.new.slots)) (sym c.count.ensures)
    (short-slots _ _ _ _ _ _ c.in-Ok-make_template.ensures.made)

pub returns-in-Ok-make_template-clause-made : goal.returns-in-Ok-make_template-clause-made
returns-in-Ok-make_template-clause-made c form same is_ok =
    group-of c.args.datagram.now _ _ _ _ _ form c.in-Some.allowed c.store.new.self.header_len _ c.make_template.new.buf _ _ c.in-Ok.ensures.bytes c.from_ids-ids.ensures
    c.in-Some-new.ensures.elements (one_allowed c.in-Some.allowed form (c.in-Some.ensures.found ∙ sym same)) (sym c.store.ensures.header_len)
    (ap (λ (n : ℕ). take n c.make_template.new.slots) (sym c.count.ensures) ∙ sym c.store.ensures.slots) c.in-Ok-make_template.ensures.made

pub returns-in-Ok-make_template-clause-in_range : goal.returns-in-Ok-make_template-clause-in_range
returns-in-Ok-make_template-clause-in_range c is_ok =
    let ensures = c.in-Ok-make_template.ensures in
    let number = c.count.result in
    let short : length (take number c.make_template.new.slots) ≤ 16 = omega (arith, ensures.few, length-take number c.make_template.new.slots) in
    record {
      few = subst (λ (n : ℕ). n ≤ 16) (sym c.store.ensures.count) short;
      there = omega (arith, c.store.ensures.header_len, ensures.room);
      within = subst (λ (ss : List Slot). All (λ (s : Slot). s.start + s.len ≤ c.store.new.self.header_len) ss) (sym c.store.ensures.slots)
          (subst (λ (n : ℕ). All (λ (s : Slot). s.start + s.len ≤ n) (take number c.make_template.new.slots)) (sym c.store.ensures.header_len)
          (subst (λ (n : ℕ). All (λ (s : Slot). s.start + s.len ≤ c.in-Ok-make_template.len) (take n c.make_template.new.slots)) (sym c.count.ensures) ensures.within));
      total_is = c.store.ensures.total ∙ ap total_of (sym c.store.ensures.slots);
    }

pub returns-in-Err-make_template-clause-made : goal.returns-in-Err-make_template-clause-made
returns-in-Err-make_template-clause-made c form same is_ok = absurd (not_routed≢ok c.not_routed_status.result c.in-Err-make_template.cause (search rules) c.not_routed_status.ensures is_ok)

pub returns-in-Err-make_template-clause-refusal : goal.returns-in-Err-make_template-clause-refusal
returns-in-Err-make_template-clause-refusal c form named_is not_ok parts is =
    record {
      cause = c.in-Err-make_template.cause;
      applies = kept-of (take (header_len_of parts) c.args.datagram.now) _ _ _ _ _ form c.in-Some.allowed (length c.args.buf.now) c.in-Err-make_template.cause
          (header-of c.in-Ok.packet c.args.datagram.now parts c.in-Ok.ensures.bytes (c.in-Ok.ensures.only parts is)) c.from_ids-ids.ensures
          c.in-Some-new.ensures.elements
          (one_allowed c.in-Some.allowed form (c.in-Some.ensures.found ∙ sym named_is.form_is)) c.in-Err-make_template.ensures.cause;
      status_is = not_routed-is c.not_routed_status.result c.in-Err-make_template.cause (search rules) c.not_routed_status.ensures;
    }

pub returns-in-Err-make_template-clause-refused : goal.returns-in-Err-make_template-clause-refused
returns-in-Err-make_template-clause-refused c form named_is parts is = (
  λ _. (
    c.in-Err-make_template.cause,
    kept-of (take (header_len_of parts) c.args.datagram.now) _ _ _ _ _ form c.in-Some.allowed (length c.args.buf.now) c.in-Err-make_template.cause
        (header-of c.in-Ok.packet c.args.datagram.now parts c.in-Ok.ensures.bytes (c.in-Ok.ensures.only parts is)) c.from_ids-ids.ensures
        c.in-Some-new.ensures.elements
        (one_allowed c.in-Some.allowed form (c.in-Some.ensures.found ∙ sym named_is.form_is)) c.in-Err-make_template.ensures.cause,
  ),
  λ _ is_ok. not_routed≢ok c.not_routed_status.result c.in-Err-make_template.cause (search rules) c.not_routed_status.ensures is_ok,
)

pub returns-in-Ok-make_template-clause-refused : goal.returns-in-Ok-make_template-clause-refused
returns-in-Ok-make_template-clause-refused c form named_is parts is = (
  λ wrong. absurd (wrong refl),
  λ kept _. false≢true (c.in-Ok-make_template.ensures.refused.1 (
    kept.0,
    kept-of _ (take (header_len_of parts) c.args.datagram.now) _ _ _ _ c.in-Some.allowed form (length c.args.buf.now) kept.0
        (sym (header-of c.in-Ok.packet c.args.datagram.now parts c.in-Ok.ensures.bytes (c.in-Ok.ensures.only parts is))) (sym c.from_ids-ids.ensures)
        (sym c.in-Some-new.ensures.elements)
        (sym (one_allowed c.in-Some.allowed form (c.in-Some.ensures.found ∙ sym named_is.form_is))) kept.1,
  )),
)

pub returns-in-Ok-make_template-clause-bad_group : goal.returns-in-Ok-make_template-clause-bad_group
returns-in-Ok-make_template-clause-bad_group c none =
    absurd (none c.in-Some.allowed (record {
      form_is = c.in-Some.ensures.found;
      within = c.in-Some-new.ensures.within;
      few = omega (arith, c.if-elements-gt-MAX_ELEMENTS.false);
    }))

pub returns-in-Err-clause-refusal : goal.returns-in-Err-clause-refusal
returns-in-Err-clause-refusal c form named_is not_ok parts is = absurd (c.in-Err.ensures.only parts is)

pub returns-in-Err-clause-refused : goal.returns-in-Err-clause-refused
returns-in-Err-clause-refused c form named_is parts is = absurd (c.in-Err.ensures.only parts is)

pub returns-in-Err-make_template-clause-cause : goal.returns-in-Err-make_template-clause-cause
returns-in-Err-make_template-clause-cause c form named_is none = absurd (false≢true (c.in-Ok.ensures.refused.1 none))

pub returns-in-Ok-make_template-clause-cause : goal.returns-in-Ok-make_template-clause-cause
returns-in-Ok-make_template-clause-cause c form named_is none = absurd (false≢true (c.in-Ok.ensures.refused.1 none))
