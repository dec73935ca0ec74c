-- A header that is written for a receiver, and the template that it is written from.
use Rattle.rtp_c.proofs.Common.{◌≡◌, ℕ, Bool, true, false, if◌then◌else◌, ◌<◌, ◌+◌, ◌-◌, ◌≤◌, List, [], ◌∷◌, length, take, drop, refl, sym, ap, subst, ◌∙◌, arith, length-take, length-drop}
use Rattle.std.proofs.lemmas.Bool.{lt-ltb}
use Rattle.rtp_wire.specs.declared.packet.fields.Fields.{Fields}
use Rattle.rtp_wire.specs.Packet.{PacketParts, IsPacket, header_len_of}
use Rattle.rtp_wire.proofs.PartsLemmas.{length-packet}
use Rattle.rtp_route.specs.declared.slots.Slot.{Slot}
use Rattle.rtp_route.specs.GroupHeader.{IsFilledIn}
use Rattle.rtp_route.specs.Retransmitted.{without_padding, IsFilledInAgain}
use Rattle.rtp_route.specs.Template.{slot_lengths, total_of, pieces}
use Rattle.rtp_route.proofs.LengthLemmas.{pieces-lengths}
use Rattle.rtp_route.proofs.RetransmittedLemmas.{packet-cleared, routed-again}
use Rattle.rtp_route.proofs.TemplateLemmas.{routed-filled}
use Rattle.rtp_c.specs.PacketView.{slice_at}
use Rattle.rtp_c.specs.Given.{is_nonzero}
use Rattle.rtp_c.specs.declared.routed_headers.RoutedHeader.{RoutedHeader}
use Rattle.rtp_c.specs.RoutedHeaders.{IsReceivers, IsReceiversUnpadded, IsReceiversAgain, len_for}

pub no-bytes : (xs : List ℕ) → length xs ≡ 0 → xs ≡ []
no-bytes [] none = refl
no-bytes (x ∷ xs) none = absurd (omega (arith, none))

-- a header and its payload are all of the bytes
pub all-header : (bytes : List ℕ) (len : ℕ) (parts : PacketParts) → len ≤ length bytes → IsPacket (take len bytes) parts → header_len_of parts + length parts.payload ≡ len
all-header bytes len parts there is = omega (arith, length-packet (take len bytes) parts is, length-take len bytes, there)

pub length-slice : (bytes : List ℕ) (at len : ℕ) → at + len ≤ length bytes → length (slice_at bytes at len) ≡ len
length-slice bytes at len within = omega (arith, within, length-take (at + len - at) (drop at bytes), length-drop at bytes)

-- the header with the receiver's fields and data
pub receivers-header : (header : List ℕ) (slots : List Slot) (fields given : Fields) (bytes own : List ℕ) (at len : ℕ) (new : List ℕ) → given ≡ fields → own ≡ slice_at bytes at len → len ≡ total_of slots
    → at + len ≤ length bytes → IsFilledIn header slots given (pieces (slot_lengths slots) own) new
    → IsReceivers header slots fields (pieces (slot_lengths slots) (slice_at bytes at (total_of slots))) new
receivers-header header slots fields given bytes own at len new fields_are own_is total within filled =
    let data_is : own ≡ slice_at bytes at (total_of slots) = own_is ∙ ap (slice_at bytes at) total in
    let long : length (slice_at bytes at (total_of slots)) ≡ total_of slots = length-slice bytes at (total_of slots) (omega (arith, within, total)) in
    let now : IsFilledIn header slots fields (pieces (slot_lengths slots) (slice_at bytes at (total_of slots))) new =
    subst (λ (f : Fields). IsFilledIn header slots f (pieces (slot_lengths slots) (slice_at bytes at (total_of slots))) new) fields_are
    (subst (λ (b : List ℕ). IsFilledIn header slots given (pieces (slot_lengths slots) b) new) data_is filled) in
    record {
      filled = now;
      routed = λ old ids news allowed is. routed-filled old ids news allowed header slots fields _ new is (pieces-lengths slots (slice_at bytes at (total_of slots)) long) now;
    }

-- the same for a retransmission
pub receivers-again : (header : List ℕ) (slots : List Slot) (fields given : Fields) (number : ℕ) (own new : List ℕ) → given ≡ fields → length own ≡ total_of slots
    → IsFilledInAgain header slots given number (pieces (slot_lengths slots) own) new → IsReceiversAgain header slots fields number (pieces (slot_lengths slots) own) new
receivers-again header slots fields given number own new fields_are long filled =
    let now : IsFilledInAgain header slots fields number (pieces (slot_lengths slots) own) new =
    subst (λ (f : Fields). IsFilledInAgain header slots f number (pieces (slot_lengths slots) own) new) fields_are filled in
    record {
      filled = now;
      routed = λ old ids news allowed is. routed-again old ids news allowed header slots fields number _ new is (pieces-lengths slots own long) now;
    }

-- the same with P clear
pub receivers-unpadded : (header : List ℕ) (slots : List Slot) (fields : Fields) (contents : List (List ℕ)) (own new : List ℕ) → IsReceivers header slots fields contents own → new ≡ without_padding own
    → IsReceiversUnpadded header slots fields contents new
receivers-unpadded header slots fields contents own new is bytes = record {
  own = own;
  receivers = is;
  bytes_are = bytes;
  is_packet = λ parts packet. subst (λ (b : List ℕ). IsPacket b (record parts { has_padding = false })) (sym bytes) (packet-cleared own parts packet);
}

-- ---- how many bytes a receiver gets

pub len-packet : (header : List ℕ) (receiver : RoutedHeader) → receiver.is_retransmission ≡ 0 → len_for header receiver ≡ length header
len-packet header receiver none = let same : len_for header receiver ≡ length header + 0 = ap (λ (n : ℕ). length header + (if is_nonzero n then 2 else 0)) none in omega (arith, same)

pub len-again : (header : List ℕ) (receiver : RoutedHeader) → 0 < receiver.is_retransmission → len_for header receiver ≡ length header + 2
len-again header receiver some = ap (λ (b : Bool). length header + (if b then 2 else 0)) (lt-ltb 0 receiver.is_retransmission some)

pub len-most : (header : List ℕ) (receiver : RoutedHeader) → len_for header receiver ≤ length header + 2
len-most header receiver = by_flag (is_nonzero receiver.is_retransmission)
  where
    by_flag : (b : Bool) → length header + (if b then 2 else 0) ≤ length header + 2
    by_flag true = omega arith
    by_flag false = omega arith
