-- What the calls for one packet make, one after another: each step is what the contract of its call says.
use Rattle.std.specs.Prelude.{◌≡◌, ◌≢◌, ℕ, List, [], ◌∷◌, take, true, Option, Some, None}
use Rattle.std.specs.List.{filter_map}
use Rattle.rtp_ext.specs.declared.form.ExtensionsForm.{ExtensionsForm}
use Rattle.rtp_ext.specs.declared.form.ExtensionsForm.TheVariants.{OneByte, TwoByte}
use Rattle.rtp_ext.specs.Elements.{Element}
use Rattle.rtp_ext.specs.ElementsInPlace.{renumbered, ChangesIds}
use Rattle.rtp_ext.specs.PutElement.{without}
use Rattle.rtp_wire.specs.declared.packet.fields.Fields.{Fields}
use Rattle.rtp_wire.specs.ChangedPacket.{ChangesBlock, ChangesOnly, ChangesOnlyBody}
use Rattle.rtp_wire.specs.GivenFields.{with_header_fields}
use Rattle.rtp_wire.specs.declared.packet.rtp_packet.RtpPacket.{RtpPacket}
use Rattle.rtp_wire.specs.PartsOf.{parts_of, datagram_of}
use Rattle.rtp_wire.specs.Packet.{PacketParts, IsPacket, header_len_of}
use Rattle.rtp_wire.specs.PacketElements.{AreElementsOf}
use Rattle.rtp_wire.specs.PutIntoPacket.{PutsElement, Compacts}
use Rattle.rtp_wire.specs.RemadeBlock.{RemakesBlock}
use Rattle.rtp_route.specs.Routing.{CarriesIds}

-- `renumber` changes the packet so, whose block is this
abbrev pub IsRenumbered : (ℕ → Option ℕ) → List Element → Option (ExtensionsForm × List ℕ) → PacketParts → PacketParts → Type 0
IsRenumbered ids elements None old new = new ≡ old
IsRenumbered ids elements (Some block) old new =
    ChangesBlock (λ form. ChangesIds form ids) old new × AreElementsOf new.block (filter_map (renumbered ids) elements)

-- the bytes are such a packet, and no others than those of the block's body have changed
pub record IsUnderNewIds (ids : ℕ → Option ℕ) (elements : List Element) (old : List ℕ) (was : PacketParts) (new : List ℕ) : Type 0 where
  pub parts : PacketParts
  pub is_renumbered : IsRenumbered ids elements was.block was parts
  pub is_packet : IsPacket new parts
  pub only_body : ChangesOnlyBody old new

-- `change_form` gives the block the two-byte form, which is allowed, where its own can't carry the new ids, and `renumber` is then called; 0, which is padding's, has no new id
pub record IsChangedAndRenumbered (allowed : Option ExtensionsForm) (ids : ℕ → Option ℕ) (elements : List Element) (old : List ℕ) (was : PacketParts) (new : List ℕ) : Type 0 where
  pub not_carried : CarriesIds ids was.block elements → ⊥
  pub is_allowed : allowed ≢ Some OneByte
  pub no_zero : ids 0 ≡ None
  pub buf : List ℕ
  pub len : ℕ
  pub changed : RemakesBlock old TwoByte [] buf len
  pub renumbered : IsUnderNewIds ids (without 0 elements) (take len buf) (record was { has_extension = true; block = Some (TwoByte, changed.body) }) new

-- the packet under its new ids: `renumber` is called, and `change_form` before it exactly where it would be refused
pub data IsRenumberedInForm (allowed : Option ExtensionsForm) (ids : ℕ → Option ℕ) (elements : List Element) (old : List ℕ) (was : PacketParts) (new : List ℕ) : Type 0 where
  in_own_form : CarriesIds ids was.block elements → IsUnderNewIds ids elements old was new → IsRenumberedInForm allowed ids elements old was new
  in_two_byte_form : IsChangedAndRenumbered allowed ids elements old was new → IsRenumberedInForm allowed ids elements old was new

-- `put_element` is called for each of these
abbrev pub ArePut : List ℕ → List Element → Option ExtensionsForm → List ℕ → Type 0
ArePut old [] allowed new = new ≡ old
ArePut old (element ∷ elements) allowed new =
    (buf : List ℕ) × (len : ℕ) × PutsElement old element allowed buf len × ArePut (take len buf) elements allowed new

-- the packet once `set_fields`, `change_form` where it has to be, and `renumber` are called, none of which refuses
pub record IsSetAndRenumbered (old : List ℕ) (fields : Fields) (ids : ℕ → Option ℕ) (allowed : Option ExtensionsForm) (new : List ℕ) : Type 0 where
  pub parts : PacketParts
  pub elements : List Element
  pub was_packet : IsPacket old parts
  pub were_elements : AreElementsOf parts.block elements
  pub set_bytes : List ℕ
  pub set_packet : IsPacket set_bytes (with_header_fields fields parts)
  pub set_only : ChangesOnly 1 12 old set_bytes
  pub renumbered : IsRenumberedInForm allowed ids elements set_bytes (with_header_fields fields parts) new

-- the packet once these, `put_element` for each element and `compact` are called, none of which refuses
pub record IsRoutedByCalls (old : List ℕ) (fields : Fields) (ids : ℕ → Option ℕ) (news : List Element) (allowed : Option ExtensionsForm) (new : List ℕ) (len : ℕ) : Type 0 where
  pub start_bytes : List ℕ
  pub start : IsSetAndRenumbered old fields ids allowed start_bytes
  pub put_bytes : List ℕ
  pub are_put : ArePut start_bytes news allowed put_bytes
  pub compacted : Compacts put_bytes new len

-- no field is given
abbrev pub no_fields : Fields
no_fields = record { marker = None; payload_type = None; sequence_number = None; timestamp = None; ssrc = None }

-- the bytes of the packet's header
abbrev pub header_in : RtpPacket → List ℕ
header_in packet = take (header_len_of (parts_of packet)) (datagram_of packet)
