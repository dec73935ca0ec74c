-- Why a packet in a buffer doesn't become a retransmission, or a retransmission the packet that it repeats.
use Rattle.rtp_wire.proofs.Common.{◌≡◌, ℕ, ◌+◌, ◌<◌, ◌≤◌, ◌↔◌, Bool, true, false, List, [], length, take, Option, sym, ap, subst, ◌∙◌, arith, length-append, CutPacket, PaddingTooLong, NoOriginalNumber, NewIdTooHigh, NoRoom, Layout, IsFirstCause, PacketParts, IsPacket, IsWithoutPadding, header_len_of, padding_count, IsPacketWith, HasLongPadding, HasPayload, HasHighId, KeepsFromSending, KeepsFromRestoring, IsLaidOut, HasNoLayout}
use Rattle.rtp_wire.specs.declared.packet.not_retransmitted.NotRetransmitted.TheVariants.{NotAPacket}
use Rattle.rtp_wire.specs.Retransmission.{IsFirstOf, place_of}
use Rattle.rtp_wire.specs.declared.packet.not_a_packet.NotAPacket as not_a_packet
use Rattle.rtp_wire.specs.declared.packet.not_retransmitted.NotRetransmitted.{NotRetransmitted}
use Rattle.rtp_wire.proofs.PacketLemmas.{one_packet, no_packet}
use Rattle.rtp_wire.proofs.RetransmissionBytes.{header_alone_in}

-- and so of the packet's ids, which are those of its header
pub HasHighId-whole : (ids : ℕ → Option ℕ) (buf : List ℕ) (len : ℕ) (layout : Layout) → (is : IsLaidOut buf len layout)
    → ((parts : PacketParts) → IsPacket (take layout.header_len buf) parts → HasHighId ids parts) → HasHighId ids is.parts
HasHighId-whole ids buf len layout is told =
    let high = told (record is.parts { payload = [] }) (header_alone_in buf len layout is) in
    record { elements = high.elements; are_elements = high.are_elements; high = high.high }

pub no_high_id-whole : (ids : ℕ → Option ℕ) (buf : List ℕ) (len : ℕ) (layout : Layout) → (is : IsLaidOut buf len layout)
    → ((parts : PacketParts) → IsPacket (take layout.header_len buf) parts → HasHighId ids parts → ⊥) → HasHighId ids is.parts → ⊥
no_high_id-whole ids buf len layout is told high =
    told (record is.parts { payload = [] }) (header_alone_in buf len layout is) (record { elements = high.elements; are_elements = high.are_elements; high = high.high })

-- ---- the causes

-- the padding of a packet that has a payload without it isn't too long
unpadded_counted : (has_padding : Bool) (bytes payload : List ℕ) → IsWithoutPadding has_padding bytes payload → has_padding ≡ true → length bytes < padding_count bytes → ⊥
unpadded_counted false bytes payload is set more = cc
unpadded_counted true bytes payload is set more = omega (arith, is.counted, ap length is.in_order, length-append payload is.padding)

no_long_padding : (buf : List ℕ) (len : ℕ) (layout : Layout) → IsLaidOut buf len layout → IsPacketWith HasLongPadding (take len buf) → ⊥
no_long_padding buf len layout is long =
    let same : long.parts ≡ is.parts = sym (one_packet (take len buf) long.parts long.is_packet) ∙ one_packet (take len buf) is.parts is.is_packet in
    let fact = subst HasLongPadding same long.fact in
    unpadded_counted is.parts.has_padding is.parts.payload is.payload is.payload_is fact.0 fact.1

no_cause : (buf : List ℕ) (len : ℕ) (cause : not_a_packet.NotAPacket) (parts : PacketParts) → IsPacket (take len buf) parts → IsFirstCause (take len buf) cause → ⊥
no_cause buf len cause parts is first = no_packet (take len buf) cause parts first.applies is

-- the causes that come before the others keep from both alike
module _ (Keeps : NotRetransmitted → Type 0) (buf : List ℕ) (len : ℕ) (cut : Keeps CutPacket ↔ length buf < len)
    (not_read : (cause : not_a_packet.NotAPacket) → Keeps (NotAPacket cause) ↔ IsFirstCause (take len buf) cause) (long : IsPacketWith HasLongPadding (take len buf) → Keeps PaddingTooLong) where
  unread : (cause : NotRetransmitted) → HasNoLayout buf len cause → IsFirstOf Keeps cause
  unread CutPacket past = record { applies = cut.1 past; none_before = λ earlier before applies. omega (arith, before) }
  unread (NotAPacket cause) none = record { applies = (not_read cause).1 none.1; none_before = none_before }
    where
      none_before : (earlier : NotRetransmitted) → place_of earlier < 1 → Keeps earlier → ⊥
      none_before CutPacket before past = omega (arith, none.0, cut.0 past)
      none_before (NotAPacket other) before applies = omega (arith, before)
      none_before PaddingTooLong before applies = omega (arith, before)
      none_before NoOriginalNumber before applies = omega (arith, before)
      none_before NewIdTooHigh before applies = omega (arith, before)
      none_before NoRoom before applies = omega (arith, before)
  unread PaddingTooLong padded = record { applies = long padded.1; none_before = none_before }
    where
      none_before : (earlier : NotRetransmitted) → place_of earlier < 2 → Keeps earlier → ⊥
      none_before CutPacket before past = omega (arith, padded.0, cut.0 past)
      none_before (NotAPacket other) before applies = no_cause buf len other padded.1.parts padded.1.is_packet ((not_read other).0 applies)
      none_before PaddingTooLong before applies = omega (arith, before)
      none_before NoOriginalNumber before applies = omega (arith, before)
      none_before NewIdTooHigh before applies = omega (arith, before)
      none_before NoRoom before applies = omega (arith, before)
  unread NoOriginalNumber none = absurd none
  unread NewIdTooHigh none = absurd none
  unread NoRoom none = absurd none

pub sending_unread : (ids : ℕ → Option ℕ) (buf : List ℕ) (len : ℕ) (cause : NotRetransmitted) → HasNoLayout buf len cause
    → IsFirstOf (KeepsFromSending ids buf len) cause
sending_unread ids buf len = unread (KeepsFromSending ids buf len) buf len (λ x. x, λ x. x) (λ cause. (λ x. x, λ x. x)) (λ x. x)

pub restoring_unread : (ids : ℕ → Option ℕ) (buf : List ℕ) (len : ℕ) (cause : NotRetransmitted) → HasNoLayout buf len cause
    → IsFirstOf (KeepsFromRestoring ids buf len) cause
restoring_unread ids buf len = unread (KeepsFromRestoring ids buf len) buf len (λ x. x, λ x. x) (λ cause. (λ x. x, λ x. x)) (λ x. x)

-- what is said of the packet's parts and its payload
at_parts : (Fact : PacketParts → Type 0) (buf : List ℕ) (len : ℕ) (layout : Layout) → (is : IsLaidOut buf len layout) → IsPacketWith Fact (take len buf) → Fact is.parts
at_parts Fact buf len layout is found =
    subst Fact (sym (one_packet (take len buf) found.parts found.is_packet) ∙ one_packet (take len buf) is.parts is.is_packet) found.fact

of_parts : (Fact : PacketParts → Type 0) (buf : List ℕ) (len : ℕ) (layout : Layout) → (is : IsLaidOut buf len layout) → Fact is.parts → IsPacketWith Fact (take len buf)
of_parts Fact buf len layout is fact = record { parts = is.parts; is_packet = is.is_packet; fact = fact }

-- a packet has one payload without padding
pub length-unpadded : (has_padding : Bool) (bytes xs ys : List ℕ) → IsWithoutPadding has_padding bytes xs → IsWithoutPadding has_padding bytes ys → length xs ≡ length ys
length-unpadded false bytes xs ys first second = ap length (first ∙ sym second)
length-unpadded true bytes xs ys first second =
    omega (arith, first.counted, second.counted, ap length first.in_order, ap length second.in_order, length-append xs first.padding, length-append ys second.padding)

module _ (ids : ℕ → Option ℕ) (buf : List ℕ) (len : ℕ) (layout : Layout) (is : IsLaidOut buf len layout) where
  -- what keeps from sending where the packet can be read
  pub sending_high : HasHighId ids is.parts → IsFirstOf (KeepsFromSending ids buf len) NewIdTooHigh
  sending_high high = record { applies = of_parts (HasHighId ids) buf len layout is high; none_before = none_before }
    where
      none_before : (earlier : NotRetransmitted) → place_of earlier < 4 → KeepsFromSending ids buf len earlier → ⊥
      none_before CutPacket before past = omega (arith, is.fits, past)
      none_before (NotAPacket other) before applies = no_cause buf len other is.parts is.is_packet applies
      none_before PaddingTooLong before applies = no_long_padding buf len layout is applies
      none_before NoOriginalNumber before applies = applies
      none_before NewIdTooHigh before applies = omega (arith, before)
      none_before NoRoom before applies = omega (arith, before)

  pub sending_no_room : (HasHighId ids is.parts → ⊥) → length buf < layout.end + 2 → IsFirstOf (KeepsFromSending ids buf len) NoRoom
  sending_no_room carried short = record {
    applies = of_parts (λ parts. HasPayload (λ payload. length buf < header_len_of parts + 2 + length payload) parts) buf len layout is
        (record { payload = is.payload; payload_is = is.payload_is; fact = omega (arith, short, is.end_is) });
    none_before = none_before;
  }
    where
      none_before : (earlier : NotRetransmitted) → place_of earlier < 5 → KeepsFromSending ids buf len earlier → ⊥
      none_before CutPacket before past = omega (arith, is.fits, past)
      none_before (NotAPacket other) before applies = no_cause buf len other is.parts is.is_packet applies
      none_before PaddingTooLong before applies = no_long_padding buf len layout is applies
      none_before NoOriginalNumber before applies = applies
      none_before NewIdTooHigh before applies = carried (at_parts (HasHighId ids) buf len layout is applies)
      none_before NoRoom before applies = omega (arith, before)

  pub sending_not_kept : (HasHighId ids is.parts → ⊥) → layout.end + 2 ≤ length buf → (cause : NotRetransmitted) → KeepsFromSending ids buf len cause → ⊥
  sending_not_kept carried room CutPacket past = omega (arith, is.fits, past)
  sending_not_kept carried room (NotAPacket other) applies = no_cause buf len other is.parts is.is_packet applies
  sending_not_kept carried room PaddingTooLong applies = no_long_padding buf len layout is applies
  sending_not_kept carried room NoOriginalNumber applies = applies
  sending_not_kept carried room NewIdTooHigh applies = carried (at_parts (HasHighId ids) buf len layout is applies)
  sending_not_kept carried room NoRoom applies =
      let short = at_parts (λ parts. HasPayload (λ payload. length buf < header_len_of parts + 2 + length payload) parts) buf len layout is applies in
      omega (arith, room, is.end_is, short.fact, length-unpadded is.parts.has_padding is.parts.payload short.payload is.payload short.payload_is is.payload_is)

  -- and from restoring
  pub restoring_no_number : length is.payload < 2 → IsFirstOf (KeepsFromRestoring ids buf len) NoOriginalNumber
  restoring_no_number short = record {
    applies = of_parts (HasPayload (λ payload. length payload < 2)) buf len layout is (record { payload = is.payload; payload_is = is.payload_is; fact = short });
    none_before = none_before;
  }
    where
      none_before : (earlier : NotRetransmitted) → place_of earlier < 3 → KeepsFromRestoring ids buf len earlier → ⊥
      none_before CutPacket before past = omega (arith, is.fits, past)
      none_before (NotAPacket other) before applies = no_cause buf len other is.parts is.is_packet applies
      none_before PaddingTooLong before applies = no_long_padding buf len layout is applies
      none_before NoOriginalNumber before applies = omega (arith, before)
      none_before NewIdTooHigh before applies = omega (arith, before)
      none_before NoRoom before applies = omega (arith, before)

  -- a payload that has the number
  no_short : 2 ≤ length is.payload → IsPacketWith (HasPayload (λ payload. length payload < 2)) (take len buf) → ⊥
  no_short long applies =
      let short = at_parts (HasPayload (λ payload. length payload < 2)) buf len layout is applies in
      omega (arith, long, short.fact, length-unpadded is.parts.has_padding is.parts.payload short.payload is.payload short.payload_is is.payload_is)

  pub restoring_high : 2 ≤ length is.payload → HasHighId ids is.parts → IsFirstOf (KeepsFromRestoring ids buf len) NewIdTooHigh
  restoring_high long high = record { applies = of_parts (HasHighId ids) buf len layout is high; none_before = none_before }
    where
      none_before : (earlier : NotRetransmitted) → place_of earlier < 4 → KeepsFromRestoring ids buf len earlier → ⊥
      none_before CutPacket before past = omega (arith, is.fits, past)
      none_before (NotAPacket other) before applies = no_cause buf len other is.parts is.is_packet applies
      none_before PaddingTooLong before applies = no_long_padding buf len layout is applies
      none_before NoOriginalNumber before applies = no_short long applies
      none_before NewIdTooHigh before applies = omega (arith, before)
      none_before NoRoom before applies = omega (arith, before)

  pub restoring_not_kept : 2 ≤ length is.payload → (HasHighId ids is.parts → ⊥) → (cause : NotRetransmitted) → KeepsFromRestoring ids buf len cause → ⊥
  restoring_not_kept long carried CutPacket past = omega (arith, is.fits, past)
  restoring_not_kept long carried (NotAPacket other) applies = no_cause buf len other is.parts is.is_packet applies
  restoring_not_kept long carried PaddingTooLong applies = no_long_padding buf len layout is applies
  restoring_not_kept long carried NoOriginalNumber applies = no_short long applies
  restoring_not_kept long carried NewIdTooHigh applies = carried (at_parts (HasHighId ids) buf len layout is applies)
  restoring_not_kept long carried NoRoom applies = applies
