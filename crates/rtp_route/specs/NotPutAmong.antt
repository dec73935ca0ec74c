-- Which of some elements isn't put into a packet, and why, where `put_element` is called for each (RFC 8285, 4.2 and 4.3).
use Rattle.std.specs.Prelude.{◌≡◌, ℕ, ◌<◌, ◌≤◌, List, [], ◌∷◌, ◌++◌, length, take, Option}
use Rattle.rtp_ext.specs.declared.form.ExtensionsForm.{ExtensionsForm}
use Rattle.rtp_ext.specs.Elements.{Element}
use Rattle.rtp_wire.specs.declared.packet.not_put.NotPut.{NotPut}
use Rattle.rtp_wire.specs.declared.packet.not_put.NotPut.TheVariants.{NoRoom}
use Rattle.rtp_wire.specs.Packet.{PacketParts, IsPacket}
use Rattle.rtp_wire.specs.PacketElements.{AreElementsOf}
use Rattle.rtp_wire.specs.PutIntoPacket.{form_of_block, body_of_block, PutsElement, AppliesToPut, IsFirstNotPut}

-- a buffer of so many bytes has no room for these bytes, and the cause says how many they are
abbrev pub HasNoRoom : List ℕ → ℕ → NotPut → Type 0
HasNoRoom bytes room cause = (cause ≡ NoRoom (length bytes)) × (room < length bytes)

-- the cause keeps `put_element` from putting the element into the packet, in a buffer of so many bytes
abbrev pub AppliesInRoom : ℕ → List ℕ → Element → Option ExtensionsForm → NotPut → Type 0
AppliesInRoom room packet element allowed cause =
    (buf : List ℕ) × (len : ℕ) × (length buf ≡ room) × (len ≤ room) × (take len buf ≡ packet) × AppliesToPut buf len element allowed cause

-- in such a buffer `put_element` is called for each of these, and is refused for none
abbrev pub ArePutInRoom : ℕ → List ℕ → List Element → Option ExtensionsForm → List ℕ → Type 0
ArePutInRoom room old [] allowed new = new ≡ old
ArePutInRoom room old (element ∷ elements) allowed new =
    (buf : List ℕ) × (len : ℕ) × PutsElement old element allowed buf len × ((cause : NotPut) → AppliesInRoom room old element allowed cause → ⊥)
    × ArePutInRoom room (take len buf) elements allowed new

-- those before one of the elements are put into the packet in such a buffer, and that one is refused for this cause, the first that applies
pub record IsNotPutAmong (old : List ℕ) (news : List Element) (allowed : Option ExtensionsForm) (room : ℕ) (cause : NotPut) : Type 0 where
  pub before : List Element
  pub element : Element
  pub after : List Element
  pub in_order : news ≡ before ++ element ∷ after
  pub packet : List ℕ
  pub are_put : ArePutInRoom room old before allowed packet
  pub cause_is : IsFirstNotPut (AppliesInRoom room packet element allowed) cause

-- two packets say the same, but for where the elements lie in their blocks, which are as long
pub record HasSameElements (one other : List ℕ) : Type 0 where
  pub parts : PacketParts
  pub block : Option (ExtensionsForm × List ℕ)
  pub elements : List Element
  pub is_packet : IsPacket one parts
  pub other_packet : IsPacket other (record parts { block = block })
  pub same_form : form_of_block block ≡ form_of_block parts.block
  pub same_length : length (body_of_block block) ≡ length (body_of_block parts.block)
  pub are_elements : AreElementsOf parts.block elements
  pub other_elements : AreElementsOf block elements
