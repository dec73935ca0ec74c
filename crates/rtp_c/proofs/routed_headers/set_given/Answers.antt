use Rattle.std.proofs.Common.{rules, not, nat_eq}
use Rattle.rtp_c.proofs.Common.{◌≡◌, ℕ, Bool, Option, refl, ap, ◌∙◌, arith, with_header_fields}
use Rattle.rtp_wire.specs.Packet.{PacketParts}
use Rattle.rtp_wire.proofs.BytesBetween.{ChangesOnly-then, in_fixed_part}
use Rattle.rtp_route.proofs.ByCallsLemmas.{fields-in, only-in}
use Rattle.rtp_route.specs.Calls.{no_fields}
use Rattle.rtp_c.specs.Given.{is_nonzero, given}
use Rattle.rtp_c.specs.SetFields.{fields_given}
use Rattle.rtp_c.proofs.routed_headers.set_given.Goals as goal

nonzero : (flag : ℕ) → not (nat_eq flag 0) ≡ is_nonzero flag
nonzero flag = search rules

joined : (m marker : Option Bool) (p pt n number t timestamp s ssrc : Option ℕ) → m ≡ marker → p ≡ pt → n ≡ number → t ≡ timestamp → s ≡ ssrc → (parts : PacketParts)
    → with_header_fields (record { marker = m; payload_type = p; sequence_number = n; timestamp = t; ssrc = s }) parts
    ≡ with_header_fields (record { marker = marker; payload_type = pt; sequence_number = number; timestamp = timestamp; ssrc = ssrc }) parts
joined m marker p pt n number t timestamp s ssrc ms ps ns ts ss parts = rw (ms, ps, ns, ts, ss) refl

pub returns-clause-set : goal.returns-clause-set
returns-clause-set c parts is =
    let view = c.args.view.now in
    let marker_is : c.given.result ≡ given view.has_marker (is_nonzero view.marker) = c.given.ensures ∙ ap (given view.has_marker) (nonzero view.marker) in
    let pt_is : c.given-2.result ≡ given view.has_payload_type view.payload_type = c.given-2.ensures ∙ ap (given view.has_payload_type) c.from.ensures in
    let ssrc_is : c.given-5.result ≡ given view.has_ssrc view.ssrc = c.given-5.ensures ∙ ap (given view.has_ssrc) c.from-2.ensures in
    fields-in (fields_given view) c.new-packet.result c.set_fields-5.new.self c.args.buf.now _ parts (omega (arith, c.type_inv.buf 1)) c.new-packet.ensures.same_bytes (search rules) is
    (c.set_fields-5.ensures.parts
    ∙ ap (with_header_fields (record no_fields { ssrc = c.given-5.result })) (c.set_fields-4.ensures.parts
    ∙ ap (with_header_fields (record no_fields { timestamp = c.given-4.result })) (c.set_fields-3.ensures.parts
    ∙ ap (with_header_fields (record no_fields { sequence_number = c.given-3.result })) (c.set_fields-2.ensures.parts
    ∙ ap (with_header_fields (record no_fields { payload_type = c.given-2.result })) c.set_fields.ensures.parts)))
    ∙ joined _ _ _ _ _ _ _ _ _ _ marker_is pt_is c.given-3.ensures c.given-4.ensures ssrc_is _)

pub returns-clause-fixed : goal.returns-clause-fixed
returns-clause-fixed c =
    only-in 1 12 c.new-packet.result.datagram.now c.set_fields-5.new.self.datagram.now _ _ c.new-packet.ensures.same_bytes (search rules)
    (ChangesOnly-then 1 12 1 12 _ c.set_fields-4.new.self.datagram.now _
    (ChangesOnly-then 1 12 1 12 _ c.set_fields-3.new.self.datagram.now _
    (ChangesOnly-then 1 12 1 12 _ c.set_fields-2.new.self.datagram.now _
    (ChangesOnly-then 1 12 1 12 _ c.set_fields.new.self.datagram.now _ (c.set_fields.ensures.bytes 1 12 (in_fixed_part _)) (omega arith, omega arith)
    (c.set_fields-2.ensures.bytes 1 12 (in_fixed_part _))) (omega arith, omega arith)
    (c.set_fields-3.ensures.bytes 1 12 (in_fixed_part _))) (omega arith, omega arith)
    (c.set_fields-4.ensures.bytes 1 12 (in_fixed_part _))) (omega arith, omega arith)
    (c.set_fields-5.ensures.bytes 1 12 (in_fixed_part _)))
