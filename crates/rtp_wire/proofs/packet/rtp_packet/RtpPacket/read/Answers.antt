use Rattle.rtp_wire.proofs.Common.{◌<◌, None, true, arith, sym, ◌∙◌, slice_index, false≢true, CutSources, CutBlockHeader, CutBlock}
use Rattle.rtp_wire.proofs.AnyBlockLemmas.{other-clear}
use Rattle.rtp_wire.proofs.BlockLemmas.{header_word}
use Rattle.rtp_wire.proofs.HeaderFound.{x_clear, x_set, kept_by_packet, found-form_of_word, HasHeader-plain, HasHeader-extended}
use Rattle.rtp_wire.proofs.PacketLemmas.{no_packet}
use Rattle.rtp_wire.proofs.NotAPacketLemmas.{IsFirstCause-block, IsFirstOf-cut_header, IsFirstOf-cut_block}
use Rattle.rtp_wire.proofs.NoHeaderLemmas.{not_a_packet-read, packet-read, no_other, other}
use Rattle.rtp_wire.proofs.packet.rtp_packet.RtpPacket.read.Goals as goal

pub returns-in_default-clause-only : goal.returns-in_default-clause-only
returns-in_default-clause-only c parts is =
    no_packet c.args.datagram.now CutSources parts (omega (arith, c.sources_end-start.ensures, c.in_default.ensures.cases)) is

-- ---- without a block

pub invariant_of-packet : goal.invariant_of-packet
invariant_of-packet c =
    kept_by_packet _ _ _
    (HasHeader-plain c.args.datagram.now c.sources_end-start.result c.if-datagram-lt12.false c.if-first-ne2.false c.sources_end-start.ensures c.in-Some.ensures.cases.0 c.if-first-eq0.true)
    (λ i. omega (arith, c.type_inv.datagram i))

pub returns-then-first-eq0 : goal.returns-then-first-eq0
returns-then-first-eq0 c =
    packet-read c.args.datagram.now _ None
    (HasHeader-plain c.args.datagram.now c.sources_end-start.result c.if-datagram-lt12.false c.if-first-ne2.false c.sources_end-start.ensures c.in-Some.ensures.cases.0 c.if-first-eq0.true)
    (omega (arith, c.type_inv.datagram 1)) true (λ _. other-clear c.args.datagram.now (x_clear _ c.if-first-eq0.true)) (λ wrong. absurd (false≢true (sym wrong)))

-- ---- without all of its block

pub returns-in_default-split_first_chunk : goal.returns-in_default-split_first_chunk
returns-in_default-split_first_chunk c =
    not_a_packet-read c.args.datagram.now CutBlockHeader
    (IsFirstCause-block _ _ _ _ c.if-datagram-lt12.false c.if-first-ne2.false c.sources_end-start.ensures c.in-Some.ensures.cases.0 c.in-Some.ensures.cases.2 c.if-first-eq0.false
    (IsFirstOf-cut_header c.in-Some.after.now c.in_default-split_first_chunk.ensures.cases))

pub returns-then-after-body_len : goal.returns-then-after-body_len
returns-then-after-body_len c =
    let split = c.in-Some-split_first_chunk.ensures.cases in
    let words = c.from-body_len.ensures ∙ c.from_be_bytes.ensures ∙ header_word c.in-Some.after.now c.in-Some-split_first_chunk.header.now 2 split.0 (omega arith) in
    not_a_packet-read c.args.datagram.now CutBlock
    (IsFirstCause-block _ _ _ _ c.if-datagram-lt12.false c.if-first-ne2.false c.sources_end-start.ensures c.in-Some.ensures.cases.0 c.in-Some.ensures.cases.2 c.if-first-eq0.false
    (IsFirstOf-cut_block c.in-Some.after.now (omega (arith, split.2)) (omega (arith, split.2, words, c.if-after-body_len.true))))

-- ---- with a block

pub invariant_of-packet-2 : goal.invariant_of-packet-2
invariant_of-packet-2 c =
    kept_by_packet _ _ _
    (HasHeader-extended c.args.datagram.now c.in-Some.after.now c.in-Some-split_first_chunk.header.now c.sources_end-start.result c.from-body_len.result c.parse-form.result
    c.if-datagram-lt12.false c.if-first-ne2.false c.sources_end-start.ensures c.in-Some.ensures.cases.0 c.in-Some.ensures.cases.2 c.if-first-eq0.false
    c.in-Some-split_first_chunk.ensures.cases.0 (found-form_of_word _ c.parse-form.result c.parse-form.ensures.found c.parse-form.ensures.only) (c.from-body_len.ensures ∙ c.from_be_bytes.ensures)
    (omega (arith, c.in-Some-split_first_chunk.ensures.cases.2)))
    (λ i. omega (arith, c.type_inv.datagram i))

pub returns : goal.returns
returns c =
    let header =
    (HasHeader-extended c.args.datagram.now c.in-Some.after.now c.in-Some-split_first_chunk.header.now c.sources_end-start.result c.from-body_len.result c.parse-form.result
    c.if-datagram-lt12.false c.if-first-ne2.false c.sources_end-start.ensures c.in-Some.ensures.cases.0 c.in-Some.ensures.cases.2 c.if-first-eq0.false
    c.in-Some-split_first_chunk.ensures.cases.0 (found-form_of_word _ c.parse-form.result c.parse-form.ensures.found c.parse-form.ensures.only) (c.from-body_len.ensures ∙ c.from_be_bytes.ensures)
    (omega (arith, c.in-Some-split_first_chunk.ensures.cases.2)))
    in
    let small : slice_index c.args.datagram.now 1 < 256 = omega (arith, c.type_inv.datagram 1) in
    packet-read c.args.datagram.now _ c.parse-form.result header small c.is_some.result
    (no_other c.args.datagram.now _ c.parse-form.result header small c.is_some.result (sym c.is_some.ensures))
    (other c.args.datagram.now _ c.parse-form.result header small (x_set _ c.if-first-eq0.false) c.is_some.result (sym c.is_some.ensures))
