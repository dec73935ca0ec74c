use Rattle.rtp_wire.proofs.Common.{rules, ◌≡◌, ◌+◌, ◌≤◌, length, ◌∷◌, ◌∙◌, arith, ap, sym, length-append, false≢true, OnTrue_at, OnTrue_from, SetsLast, sources_end}
use Rattle.rtp_ext.specs.ElementPlaces.{WritesLast}
use Rattle.rtp_wire.proofs.BytesBetween.{ChangesOnly-nothing}
use Rattle.rtp_wire.proofs.ChangedPackets.{no_elements, body_in, AreElements-in, HasValues-in, HasValues-new, HasHeader-body, ChangesBlock-body, between}
use Rattle.rtp_wire.proofs.packet.rtp_packet_mut.RtpPacketMut.set_element.Goals as goal

pub returns-in_default-clause-answer : goal.returns-in_default-clause-answer
returns-in_default-clause-answer c elements are = (
  λ wrong. absurd (false≢true wrong),
  λ has. absurd (omega (
    arith,
    ap length (sym has.1.in_order ∙ no_elements c.args.self.now elements c.in_default.is are),
    length-append has.1.before ((c.args.id, has.0) ∷ has.1.after),
  )),
)

pub slice_bounds-set_element-count : goal.slice_bounds-set_element-count
slice_bounds-set_element-count c = body_in c.args.self.now c.in-Some.form _ c.in-Some.is (omega (arith, c.body_start-start.ensures))

pub slice_bounds-set_element-start : goal.slice_bounds-set_element-start
slice_bounds-set_element-start c =
    let fits : c.body_start-start.result ≤ c.args.self.now.header_len = body_in c.args.self.now c.in-Some.form _ c.in-Some.is (omega (arith, c.body_start-start.ensures)) in
    search rules

pub invariant_of-self : goal.invariant_of-self
invariant_of-self c =
    HasHeader-body c.args.self.now c.in-Some.form c.body_start-start.result c.in-Some.is (omega (arith, c.body_start-start.ensures))
    c.set_element.new.body c.set_element.auto.body

pub returns-clause-set : goal.returns-clause-set
returns-clause-set c = OnTrue_from _ _ (λ set.
    ChangesBlock-body c.args.self.now c.in-Some.form c.body_start-start.result c.in-Some.is (omega (arith, c.body_start-start.ensures))
    c.set_element.new.body c.set_element.auto.body (λ form. SetsLast form c.args.id c.args.data.now) (OnTrue_at set c.set_element.ensures.set))

pub returns-clause-written : goal.returns-clause-written
returns-clause-written c = OnTrue_from _ _ (λ set.
    ChangesBlock-body c.args.self.now c.in-Some.form c.body_start-start.result c.in-Some.is (omega (arith, c.body_start-start.ensures))
    c.set_element.new.body c.set_element.auto.body (λ form. WritesLast form c.args.id c.args.data.now) (OnTrue_at set c.set_element.ensures.written))

pub returns-clause-answer : goal.returns-clause-answer
returns-clause-answer c elements are =
    c.set_element.ensures.answer elements (AreElements-in c.args.self.now c.in-Some.form _ c.in-Some.is (omega (arith, c.body_start-start.ensures)) elements are)

pub returns-clause-other_values : goal.returns-clause-other_values
returns-clause-other_values c exts kind old new mapped was says =
    let start : c.body_start-start.result ≡ sources_end c.args.self.now.datagram.now + 4 = omega (arith, c.body_start-start.ensures) in
    c.set_element.ensures.other_values exts kind old new mapped
    (HasValues-in c.args.self.now c.in-Some.form c.body_start-start.result c.in-Some.is start exts old was)
    (HasValues-new c.args.self.now c.in-Some.form c.body_start-start.result c.in-Some.is start c.set_element.new.body c.set_element.auto.body exts new says)

pub returns-clause-values : goal.returns-clause-values
returns-clause-values c exts kind new only well_formed says =
    let start : c.body_start-start.result ≡ sources_end c.args.self.now.datagram.now + 4 = omega (arith, c.body_start-start.ensures) in
    c.set_element.ensures.values exts kind new only well_formed
    (HasValues-new c.args.self.now c.in-Some.form c.body_start-start.result c.in-Some.is start c.set_element.new.body c.set_element.auto.body exts new says)

pub returns-in_default-clause-bytes : goal.returns-in_default-clause-bytes
returns-in_default-clause-bytes c = ChangesOnly-nothing _ _ c.args.self.now.datagram.now

pub returns-clause-bytes : goal.returns-clause-bytes
returns-clause-bytes c =
    between c.args.self.now c.in-Some.form c.body_start-start.result c.in-Some.is (omega (arith, c.body_start-start.ensures))
    c.set_element.new.body c.set_element.auto.body
