-- A packet that is changed where it lies.
use Rattle.rtp_c.proofs.Common.{◌≡◌, ◌≢◌, ℕ, ℤ, w32, to_z, of_z, FitsSigned, ok, ◌<◌, List, refl, ap, ◌∙◌, subst, slice_index, RtpPacketMut, PacketParts, IsPacket, IsNoPacket, ExtensionsForm, ChangesBlock, parts_in, BecomesPacket, one_packet, IsPacket-in, Fields, with_header_fields}
use Rattle.rtp_wire.specs.ChangedPacket.{ChangesOnly}
use Rattle.rtp_wire.specs.GivenFields.{LieBetween}
use Rattle.rtp_c.specs.SetFields.{SetsParts, ChangesOnlyFields}
use Rattle.rtp_c.specs.Status.{IsCauseStatus}
use Rattle.rtp_c.proofs.StatusLemmas.{passed_on}
use Rattle.rtp_wire.specs.PartsAt.{parts_at}

-- the parts of a packet in a buffer
pub parts-in : (was : List ℕ) (parts : PacketParts) (packet : RtpPacketMut) → IsPacket was parts → packet.datagram.now ≡ was → parts_in packet ≡ parts
parts-in was parts packet is same = ap parts_at same ∙ one_packet was parts is

-- a packet whose parts were set
pub IsPacket-set : (Set : PacketParts → PacketParts) (was : List ℕ) (parts : PacketParts) (old new : RtpPacketMut) (bytes : List ℕ) → IsPacket was parts
    → old.datagram.now ≡ was → parts_in new ≡ Set (parts_in old) → slice_index bytes 1 < 256 → new.datagram.now ≡ bytes → IsPacket bytes (Set parts)
IsPacket-set Set was parts old new bytes is same set fits ends =
    subst (λ (q : PacketParts). IsPacket bytes q) (set ∙ ap Set (parts-in was parts old is same)) (IsPacket-in new bytes fits ends)

-- a packet whose block was changed
pub BecomesPacket-changed : (Change : ExtensionsForm → List ℕ → List ℕ → Type 0) (was : List ℕ) (parts : PacketParts) (old new : RtpPacketMut) (bytes : List ℕ) → IsPacket was parts
    → old.datagram.now ≡ was → ChangesBlock Change (parts_in old) (parts_in new) → slice_index bytes 1 < 256 → new.datagram.now ≡ bytes → BecomesPacket Change parts bytes
BecomesPacket-changed Change was parts old new bytes is same change fits ends =
    record {
      parts = parts_in new;
      is_packet = IsPacket-in new bytes fits ends;
      changes = subst (λ (q : PacketParts). ChangesBlock Change q (parts_in new)) (parts-in was parts old is same) change;
    }

-- parts that were set
pub SetsParts-done : {set_in : PacketParts → PacketParts} {Only : List ℕ → List ℕ → Type 0} {was bytes : List ℕ} → (IsNoPacket was → ⊥)
    → ((parts : PacketParts) → IsPacket was parts → IsPacket bytes (set_in parts)) → Only was bytes → SetsParts set_in Only was bytes ok
SetsParts-done there set only = record {
  set = λ parts is. (refl, set parts is);
  cause = λ no. absurd (no refl);
  refused = (λ no. absurd (no refl), λ none. absurd (there none));
  bytes = only;
  unchanged = λ no. absurd (no refl);
}

-- bytes that are no packet, which stay
pub SetsParts-refused : {set_in : PacketParts → PacketParts} {Only : List ℕ → List ℕ → Type 0} {was : List ℕ} {status : ℤ} → IsNoPacket was
    → ((parts : PacketParts) → IsPacket was parts → ⊥) → status ≢ ok → IsCauseStatus was status → Only was was → SetsParts set_in Only was was status
SetsParts-refused none not other cause only =
    record { set = λ parts is. absurd (not parts is); cause = λ _. cause; refused = (λ _. none, λ _. other); bytes = only; unchanged = λ _. refl }

-- some of the fields are given, and the status is passed on
pub SetsParts-passed : {fields : Fields} {start end : ℕ} {old new : List ℕ} {status : ℤ} → FitsSigned w32 status → LieBetween fields start end
    → SetsParts (with_header_fields fields) (ChangesOnlyFields fields) old new status
    → SetsParts (with_header_fields fields) (ChangesOnly start end) old new (to_z w32 (of_z w32 status))
SetsParts-passed {fields} {start} {end} {old} {new} {status} fits lie sets =
    passed_on status fits (λ (z : ℤ). SetsParts (with_header_fields fields) (ChangesOnly start end) old new z)
    (record { set = sets.set; cause = sets.cause; refused = sets.refused; bytes = sets.bytes start end lie; unchanged = sets.unchanged })
