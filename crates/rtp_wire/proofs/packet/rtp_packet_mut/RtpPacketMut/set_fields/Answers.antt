use Rattle.rtp_wire.proofs.Common.{ℕ, List, sym, subst, RtpPacketMut, ChangesOnly, LieBetween}
use Rattle.rtp_wire.proofs.BytesBetween.{ChangesOnly-nothing, ChangesOnly-given}
use Rattle.rtp_wire.proofs.packet.rtp_packet_mut.RtpPacketMut.set_fields.Goals as goal
use Rattle.rtp_wire.proofs.packet.rtp_packet_mut.RtpPacketMut.set_fields.Goals.{Joined-fields-4, in-Some, in_default, in-Some-payload_type, in_default-payload_type, in-Some-sequence_number, in_default-sequence_number, in-Some-timestamp, in_default-timestamp}

-- no byte of the packet has changed but between the two offsets
abbrev HasChanged : List ℕ → ℕ → ℕ → RtpPacketMut → Type 0
HasChanged was start end packet = ChangesOnly start end was packet.datagram.now

-- before the SSRC
first_four : (c : goal.Joined-fields-4) (start end : ℕ) → LieBetween c.args.fields.now start end → HasChanged c.args.self.now.datagram.now start end c.match-fields-4.self
first_four c start end lies =
    let was : List ℕ = c.args.self.now.datagram.now in
    let marked : HasChanged was start end c.match-fields.self = elim c.match-fields.branch [
      | in-Some w ↦ subst (HasChanged was start end) (sym w.self-is)
          (ChangesOnly-given _ _ start end 1 2 was _ _ w.in-Some.is (ChangesOnly-nothing start end was) lies.marker_lies w.set_marker.ensures.bytes)
      | in_default w ↦ subst (HasChanged was start end) (sym w.self-is) (ChangesOnly-nothing start end was)
    ] in
    let typed : HasChanged was start end c.match-fields-2.self = elim c.match-fields-2.branch [
      | in-Some-payload_type w ↦ subst (HasChanged was start end) (sym w.self-is)
          (ChangesOnly-given _ _ start end 1 2 was _ _ w.in-Some-payload_type.is marked lies.payload_type_lies w.set_payload_type.ensures.bytes)
      | in_default-payload_type w ↦ subst (HasChanged was start end) (sym w.self-is) marked
    ] in
    let numbered : HasChanged was start end c.match-fields-3.self = elim c.match-fields-3.branch [
      | in-Some-sequence_number w ↦ subst (HasChanged was start end) (sym w.self-is)
          (ChangesOnly-given _ _ start end 2 4 was _ _ w.in-Some-sequence_number.is typed lies.sequence_number_lies w.set_sequence_number.ensures.bytes)
      | in_default-sequence_number w ↦ subst (HasChanged was start end) (sym w.self-is) typed
    ] in
    elim c.match-fields-4.branch [
      | in-Some-timestamp w ↦ subst (HasChanged was start end) (sym w.self-is)
          (ChangesOnly-given _ _ start end 4 8 was _ _ w.in-Some-timestamp.is numbered lies.timestamp_lies w.set_timestamp.ensures.bytes)
      | in_default-timestamp w ↦ subst (HasChanged was start end) (sym w.self-is) numbered
    ]

pub returns-in_default-ssrc-clause-bytes : goal.returns-in_default-ssrc-clause-bytes
returns-in_default-ssrc-clause-bytes c start end lies = first_four (goal.at.returns-in_default-ssrc-clause-bytes c).Joined-fields-4 start end lies

pub returns-in-Some-ssrc-clause-bytes : goal.returns-in-Some-ssrc-clause-bytes
returns-in-Some-ssrc-clause-bytes c start end lies =
    ChangesOnly-given _ _ start end 8 12 c.args.self.now.datagram.now _ _ c.in-Some-ssrc.is
    (first_four (goal.at.returns-in-Some-ssrc-clause-bytes c).Joined-fields-4 start end lies) lies.ssrc_lies c.set_ssrc.ensures.bytes
