-- What C is told of a whole packet, and what that tells of the status.
use Rattle.rtp_c.proofs.Common.{◌≡◌, ℕ, ◌+◌, ◌-◌, List, length, ℤ, ◌↔◌, inl, inr, sym, ap, ◌∙◌, subst, arith, unwrap_or, PacketParts, IsPacket, header_len_of, length-packet, one_packet, no_packet-refused, IsNoPacket-applies, body_of_any, slice_at, ok}
use Rattle.rtp_base.specs.Flag.{bit}
use Rattle.rtp_wire.specs.declared.header.rtp_header.RtpHeader.{RtpHeader}
use Rattle.rtp_wire.specs.NotAHeader.{IsNoPacket}
use Rattle.rtp_wire.specs.PartsAt.{profile_in}
use Rattle.rtp_wire.specs.Rtcp.{IsRtcp}
use Rattle.rtp_wire.proofs.PacketLemmas.{no_packet}
use Rattle.rtp_c.specs.declared.whole_packet.WholePacket.{WholePacket}
use Rattle.rtp_c.specs.HeaderView.{IsHeaderTold}
use Rattle.rtp_c.specs.PacketView.{IsUnpaddedLen, block_number}
use Rattle.rtp_c.specs.Status.{rtcp, IsCauseStatus}
use Rattle.rtp_c.specs.WholePacket.{IsWhole, IsWholeRead}
use Rattle.rtp_c.proofs.PacketLemmas.{body-at, payload-at}
use Rattle.rtp_c.proofs.StatusLemmas.{rtcp≢ok, rtcp≢cause}

-- where its header is told, and where its parts lie
pub IsWhole-told : (numbers bytes : List ℕ) (parts : PacketParts) (whole : WholePacket) → IsPacket bytes parts → IsHeaderTold numbers parts whole.header
    → whole.block_form ≡ block_number parts.block parts.other_block → whole.block_profile ≡ unwrap_or (profile_in bytes) 0
    → whole.body_len ≡ length (body_of_any parts.block parts.other_block) → whole.body_at + whole.body_len ≡ header_len_of parts
    → IsUnpaddedLen parts whole.padding_fits whole.unpadded_len → IsWhole numbers bytes parts whole
IsWhole-told numbers bytes parts whole packet told form profile body ends unpadded =
    let view = told.is_view in
    let fields = told.is_header.fields_are in
    let header : whole.header.header_len ≡ header_len_of parts = view.header_len_is ∙ ap (λ (h : RtpHeader). h.header_len) fields in
    let len : length bytes - whole.header.header_len ≡ length parts.payload = omega (arith, length-packet bytes parts packet) in
    record {
      packet_is = record {
        padding_is = view.padding_is ∙ ap (λ (h : RtpHeader). bit h.has_padding) fields;
        marker_is = view.marker_is ∙ ap (λ (h : RtpHeader). bit h.marker) fields;
        payload_type_is = view.payload_type_is ∙ ap (λ (h : RtpHeader). h.payload_type) fields;
        number_is = view.number_is ∙ ap (λ (h : RtpHeader). h.sequence_number) fields;
        timestamp_is = view.timestamp_is ∙ ap (λ (h : RtpHeader). h.timestamp) fields;
        ssrc_is = view.ssrc_is ∙ ap (λ (h : RtpHeader). h.ssrc) fields;
        sources_are = view.count_is ∙ ap (λ (h : RtpHeader). h.csrc_count) fields;
        form_is = form;
        profile_is = profile;
        body_is = ap (slice_at bytes whole.body_at) body ∙ body-at bytes parts packet whole.body_at (omega arith);
        body_ends = ends ∙ sym header;
        payload_is = ap (slice_at bytes whole.header.header_len) len ∙ ap (λ (n : ℕ). slice_at bytes n (length parts.payload)) header ∙ payload-at bytes parts packet;
        payload_ends = omega (arith, length-packet bytes parts packet);
        unpadded_is = unpadded;
      };
      header_is = told;
    }

-- the status says RTCP exactly where the bytes are
pub rtcp_only : (numbers bytes : List ℕ) (status : ℤ) (old new : WholePacket) → IsWholeRead numbers bytes status old new → (status ≡ rtcp) ↔ IsRtcp bytes
rtcp_only numbers bytes status old new (inl is) = (λ _. is.0, λ _. is.1)
rtcp_only numbers bytes status old new (inr (other, inl is)) = (λ same. absurd (rtcp≢ok (sym same ∙ is.0)), λ rtp. absurd (other rtp))
rtcp_only numbers bytes status old new (inr (other, inr is)) = (λ same. absurd (rtcp≢cause is.0.cause (sym same ∙ is.0.status_is)), λ rtp. absurd (other rtp))

-- of a packet of RTP with these parts all is told
pub whole_told : (numbers bytes : List ℕ) (status : ℤ) (old new : WholePacket) (parts : PacketParts) → IsWholeRead numbers bytes status old new → IsPacket bytes parts → (IsRtcp bytes → ⊥)
    → (status ≡ ok) × IsWhole numbers bytes parts new
whole_told numbers bytes status old new parts (inl is) packet other = absurd (other is.0)
whole_told numbers bytes status old new parts (inr (not, inl is)) packet other =
    (is.0, subst (λ (p : PacketParts). IsWhole numbers bytes p new) (sym (one_packet bytes is.1.0 is.1.1) ∙ one_packet bytes parts packet) is.1.2)
whole_told numbers bytes status old new parts (inr (not, inr is)) packet other = absurd (no_packet bytes is.0.cause parts is.0.is_first.applies packet)

-- of bytes that are no packet, and not RTCP, the status says the first cause
pub cause_told : (numbers bytes : List ℕ) (status : ℤ) (old new : WholePacket) → IsWholeRead numbers bytes status old new
    → IsCauseStatus bytes status ↔ (IsNoPacket bytes × (IsRtcp bytes → ⊥))
cause_told numbers bytes status old new read =
    (λ is. (IsNoPacket-applies bytes is.cause is.is_first.applies, λ rtp. rtcp≢cause is.cause (sym ((rtcp_only numbers bytes status old new read).1 rtp) ∙ is.status_is)), λ none. first read none)
  where
    first : IsWholeRead numbers bytes status old new → IsNoPacket bytes × (IsRtcp bytes → ⊥) → IsCauseStatus bytes status
    first (inl is) none = absurd (none.1 is.0)
    first (inr (not, inl is)) none = absurd (no_packet-refused bytes is.1.0 none.0 is.1.1)
    first (inr (not, inr is)) none = is.0
