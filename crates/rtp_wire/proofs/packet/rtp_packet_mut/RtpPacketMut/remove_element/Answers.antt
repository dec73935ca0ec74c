use Rattle.rtp_wire.proofs.Common.{rules, ◌≡◌, ◌+◌, ◌≤◌, ◌≢◌, arith, sym, subst, ◌∙◌, ap, [], List, filter_map, false≢true, OnTrue_from, Element, HasNone, ChangesIds, renumbered, all_but, sources_end, parts_in, AreElementsOf}
use Rattle.std.proofs.lemmas.List.Elements.{All-nil}
use Rattle.rtp_wire.proofs.BytesBetween.{ChangesOnly-nothing}
use Rattle.rtp_wire.proofs.ChangedPackets.{no_elements, body_in, AreElements-in, AreElements-out, HasHeader-body, ChangesBlock-body, between}
use Rattle.rtp_wire.proofs.packet.rtp_packet_mut.RtpPacketMut.remove_element.Goals as goal

pub returns-in_default-clause-answer : goal.returns-in_default-clause-answer
returns-in_default-clause-answer c elements are = (
  λ wrong. absurd (false≢true wrong),
  λ some. absurd (some (subst (λ (es : List Element). HasNone es c.args.id) (sym (no_elements c.args.self.now elements c.in_default.is are))
      (All-nil (λ element. element.0 ≢ c.args.id)))),
)

pub returns-in_default-clause-elements : goal.returns-in_default-clause-elements
returns-in_default-clause-elements c elements are =
    let none : elements ≡ [] = no_elements c.args.self.now elements c.in_default.is are in
    subst (AreElementsOf (parts_in c.args.self.now).block) (none ∙ sym (ap (filter_map (renumbered (all_but c.args.id))) none)) are

pub slice_bounds-remove_element-count : goal.slice_bounds-remove_element-count
slice_bounds-remove_element-count c = body_in c.args.self.now c.in-Some.form _ c.in-Some.is (omega (arith, c.body_start-start.ensures))

pub slice_bounds-remove_element-start : goal.slice_bounds-remove_element-start
slice_bounds-remove_element-start c =
    let fits : c.body_start-start.result ≤ c.args.self.now.header_len = body_in c.args.self.now c.in-Some.form _ c.in-Some.is (omega (arith, c.body_start-start.ensures)) in
    search rules

pub invariant_of-self : goal.invariant_of-self
invariant_of-self c =
    HasHeader-body c.args.self.now c.in-Some.form c.body_start-start.result c.in-Some.is (omega (arith, c.body_start-start.ensures))
    c.remove_element.new.body c.remove_element.auto.body

pub returns-clause-removed : goal.returns-clause-removed
returns-clause-removed c = OnTrue_from _ _ (λ _.
    ChangesBlock-body c.args.self.now c.in-Some.form c.body_start-start.result c.in-Some.is (omega (arith, c.body_start-start.ensures))
    c.remove_element.new.body c.remove_element.auto.body (λ form. ChangesIds form (all_but c.args.id)) c.remove_element.ensures.removed)

pub returns-clause-answer : goal.returns-clause-answer
returns-clause-answer c elements are =
    c.remove_element.ensures.answer elements (AreElements-in c.args.self.now c.in-Some.form _ c.in-Some.is (omega (arith, c.body_start-start.ensures)) elements are)

pub returns-clause-elements : goal.returns-clause-elements
returns-clause-elements c elements are =
    let start : c.body_start-start.result ≡ sources_end c.args.self.now.datagram.now + 4 = omega (arith, c.body_start-start.ensures) in
    AreElements-out c.args.self.now c.in-Some.form c.body_start-start.result c.in-Some.is start c.remove_element.new.body c.remove_element.auto.body
    (filter_map (renumbered (all_but c.args.id)) elements)
    (c.remove_element.ensures.elements elements (AreElements-in c.args.self.now c.in-Some.form _ c.in-Some.is start elements are))

pub returns-in_default-clause-bytes : goal.returns-in_default-clause-bytes
returns-in_default-clause-bytes c = ChangesOnly-nothing _ _ c.args.self.now.datagram.now

pub returns-clause-bytes : goal.returns-clause-bytes
returns-clause-bytes c =
    between c.args.self.now c.in-Some.form c.body_start-start.result c.in-Some.is (omega (arith, c.body_start-start.ensures))
    c.remove_element.new.body c.remove_element.auto.body
