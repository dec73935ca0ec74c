use Rattle.rtp_c.proofs.Common.{◌≡◌, ℕ, List, length, sym, ap, subst, ◌∙◌, arith, refl, false≢true, All, ◌+◌, ◌≤◌, rules}
use Rattle.std.proofs.Common.{take, length-take}
use Rattle.rtp_ext.specs.NewIds.{new_id}
use Rattle.rtp_route.specs.declared.not_routed.NotRouted.{NotRouted}
use Rattle.rtp_route.specs.declared.slots.Slot.{Slot}
use Rattle.rtp_route.specs.declared.stored_group.StoredGroup.{StoredGroup}
use Rattle.rtp_route.specs.Calls.{no_fields}
use Rattle.rtp_route.specs.NotRouted.{KeepsFromRouting}
use Rattle.rtp_route.specs.StoredGroup.{ids_in, elements_in, form_of}
use Rattle.rtp_route.specs.Template.{total_of}
use Rattle.rtp_route.proofs.LengthLemmas.{short-slots}
use Rattle.rtp_c.proofs.TemplateLemmas.{not_routed≢ok, not_routed-is, header-of}
use Rattle.rtp_c.proofs.template.rtpw_make_from_group.Goals as goal

-- the same of a group and a header that are equal to these
kept-same : (one other : StoredGroup) (old bytes : List ℕ) (room : ℕ) (cause : NotRouted) → one ≡ other → old ≡ bytes
    → KeepsFromRouting old no_fields (new_id (ids_in one)) (elements_in one) (form_of one.allowed) room cause
    → KeepsFromRouting bytes no_fields (new_id (ids_in other)) (elements_in other) (form_of other.allowed) room cause
kept-same one other old bytes room cause same same_bytes kept =
    subst (λ (b : List ℕ). KeepsFromRouting b no_fields (new_id (ids_in other)) (elements_in other) (form_of other.allowed) room cause) same_bytes
    (subst (λ (g : StoredGroup). KeepsFromRouting old no_fields (new_id (ids_in g)) (elements_in g) (form_of g.allowed) room cause) same kept)

pub store-requires-clause-short : goal.store-requires-clause-short
store-requires-clause-short c =
    subst (λ (n : ℕ). All (λ (s : Slot). s.len ≤ 255) (take n c.make_from_table.new.slots)) (sym c.count.ensures)
    (short-slots _ _ _ _ _ _ c.in-Ok-make_from_table.ensures.made)

pub returns-in-Ok-make_from_table-clause-in_range : goal.returns-in-Ok-make_from_table-clause-in_range
returns-in-Ok-make_from_table-clause-in_range c is_ok =
    let ensures = c.in-Ok-make_from_table.ensures in
    let number = c.count.result in
    let short : length (take number c.make_from_table.new.slots) ≤ 16 = omega (arith, ensures.few, c.count.ensures, length-take number c.make_from_table.new.slots) in
    record {
      few = subst (λ (n : ℕ). n ≤ 16) (sym c.store.ensures.count) short;
      there = omega (arith, c.store.ensures.header_len, ensures.room);
      within = subst (λ (ss : List Slot). All (λ (s : Slot). s.start + s.len ≤ c.store.new.self.header_len) ss) (sym c.store.ensures.slots)
          (subst (λ (n : ℕ). All (λ (s : Slot). s.start + s.len ≤ n) (take number c.make_from_table.new.slots)) (sym c.store.ensures.header_len)
          (subst (λ (n : ℕ). All (λ (s : Slot). s.start + s.len ≤ c.in-Ok-make_from_table.len) (take n c.make_from_table.new.slots)) (sym c.count.ensures) ensures.within));
      total_is = c.store.ensures.total ∙ ap total_of (sym c.store.ensures.slots);
    }

pub returns-in-Ok-make_from_table-clause-refused : goal.returns-in-Ok-make_from_table-clause-refused
returns-in-Ok-make_from_table-clause-refused c is_group parts is = (
  λ wrong. absurd (wrong refl),
  λ kept _. c.in-Ok-make_from_table.ensures.none_refused kept.0
      (kept-same _ _ _ _ (length c.args.buf.now) kept.0 (sym c.in-Some.ensures.same) (sym (header-of c.in-Ok.packet c.args.datagram.now parts c.in-Ok.ensures.bytes (c.in-Ok.ensures.only parts is))) kept.1),
)

pub returns-in-Err-make_from_table-clause-made : goal.returns-in-Err-make_from_table-clause-made
returns-in-Err-make_from_table-clause-made c is_ok = absurd (not_routed≢ok c.not_routed_status.result c.in-Err-make_from_table.cause (search rules) c.not_routed_status.ensures is_ok)

pub returns-in-Err-make_from_table-clause-refusal : goal.returns-in-Err-make_from_table-clause-refusal
returns-in-Err-make_from_table-clause-refusal c is_group not_ok parts is =
    record {
      cause = c.in-Err-make_from_table.cause;
      applies = kept-same _ _ _ _ (length c.args.buf.now) c.in-Err-make_from_table.cause c.in-Some.ensures.same
          (header-of c.in-Ok.packet c.args.datagram.now parts c.in-Ok.ensures.bytes (c.in-Ok.ensures.only parts is)) c.in-Err-make_from_table.ensures.cause;
      status_is = not_routed-is c.not_routed_status.result c.in-Err-make_from_table.cause (search rules) c.not_routed_status.ensures;
    }

pub returns-in-Err-make_from_table-clause-refused : goal.returns-in-Err-make_from_table-clause-refused
returns-in-Err-make_from_table-clause-refused c is_group parts is = (
  λ _. (
    c.in-Err-make_from_table.cause,
    kept-same _ _ _ _ (length c.args.buf.now) c.in-Err-make_from_table.cause c.in-Some.ensures.same
        (header-of c.in-Ok.packet c.args.datagram.now parts c.in-Ok.ensures.bytes (c.in-Ok.ensures.only parts is)) c.in-Err-make_from_table.ensures.cause,
  ),
  λ _ is_ok. not_routed≢ok c.not_routed_status.result c.in-Err-make_from_table.cause (search rules) c.not_routed_status.ensures is_ok,
)

pub returns-in-Err-clause-refusal : goal.returns-in-Err-clause-refusal
returns-in-Err-clause-refusal c is_group not_ok parts is = absurd (c.in-Err.ensures.only parts is)

pub returns-in-Err-clause-refused : goal.returns-in-Err-clause-refused
returns-in-Err-clause-refused c is_group parts is = absurd (c.in-Err.ensures.only parts is)

pub returns-in-Ok-make_from_table-clause-cause : goal.returns-in-Ok-make_from_table-clause-cause
returns-in-Ok-make_from_table-clause-cause c is_group none = absurd (false≢true (c.in-Ok.ensures.refused.1 none))

pub returns-in-Err-make_from_table-clause-cause : goal.returns-in-Err-make_from_table-clause-cause
returns-in-Err-make_from_table-clause-cause c is_group none = absurd (false≢true (c.in-Ok.ensures.refused.1 none))
