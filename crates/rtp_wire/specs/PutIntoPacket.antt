-- An element that is put into a packet, which grows where it lies, and a packet that is made as short as its elements allow (RFC 3550, 5.3.1; RFC 8285, 4.1.2, 4.2 and 4.3).
--
-- The fixed fields but X, the CSRC list and the payload stay. The block gets the form that `allowed_form` says, and the elements that `put_element` says, of which none has the id 0, which is padding's; its body never becomes shorter.
use Rattle.std.specs.Prelude.{◌≡◌, ℕ, ◌+◌, ◌*◌, ◌<◌, List, [], ◌∷◌, length, take, drop, max, true, Option, Some, None, option_map}
use Rattle.std.specs.Int.{w16, to_be_bytes}
use Rattle.rtp_ext.specs.declared.form.ExtensionsForm.{ExtensionsForm}
use Rattle.rtp_ext.specs.declared.form.ExtensionsForm.TheVariants.{OneByte, TwoByte}
use Rattle.rtp_ext.specs.Form.{form_word}
use Rattle.rtp_ext.specs.Elements.{Element, AreElements, elements_bytes}
use Rattle.rtp_ext.specs.ElementsInPlace.{SetsLast}
use Rattle.rtp_ext.specs.PutElement.{without, rewritten_elements, needed_form, allowed_form, row_to, IsSole}
use Rattle.rtp_ext.specs.WrittenBlock.{whole_words, filled}
use Rattle.rtp_wire.specs.declared.packet.not_put.NotPut.{NotPut}
use Rattle.rtp_wire.specs.declared.packet.not_put.NotPut.TheVariants.{CutPacket, ZeroId, LongData, NotAPacket, OtherForm, LongId, OneByteOnly, LongBlock, NoRoom}
use Rattle.rtp_wire.specs.NotAHeader.{sources_end}
use Rattle.rtp_wire.specs.NotAPacket.{IsFirstBy, IsFirstCause}
use Rattle.rtp_wire.specs.Packet.{PacketParts, IsPacket, HasOtherForm}
use Rattle.rtp_wire.specs.PacketElements.{AreElementsOf}

-- the form of a block, and none without one
abbrev pub form_of_block : Option (ExtensionsForm × List ℕ) → Option ExtensionsForm
form_of_block block = option_map (λ b. b.0) block

-- the body of a block, and no bytes without one
abbrev pub body_of_block : Option (ExtensionsForm × List ℕ) → List ℕ
body_of_block None = []
body_of_block (Some block) = block.1

-- the elements that a block has once the element is put among them: those of the id 0 go
abbrev pub elements_with : Element → List Element → List Element
elements_with element elements = rewritten_elements element.0 (element ∷ []) elements

-- what a packet becomes once the element is put into it: the form of its block, of those that are allowed; how many bytes the body has, the elements in whole words, but no fewer than before; and how many the packet has
pub record IsGrowth (bytes : List ℕ) (element : Element) (allowed : Option ExtensionsForm) : Type 0 where
  pub parts : PacketParts
  pub elements : List Element
  pub form : ExtensionsForm
  pub body_len : ℕ
  pub len : ℕ
  pub is_packet : IsPacket bytes parts
  pub no_other : parts.other_block ≡ None
  pub are_elements : AreElementsOf parts.block elements
  pub form_is : allowed_form allowed (needed_form (form_of_block parts.block) element) ≡ Some form
  pub body_len_is : body_len ≡ max (length (body_of_block parts.block)) (whole_words (length (elements_bytes form (elements_with element elements))))
  pub len_is : len ≡ 12 + 4 * length parts.sources + (4 + body_len) + length parts.payload

-- the element is the only one of its id in a block that keeps its form and has none of the id 0, and has as many bytes as its old one
abbrev pub IsSetInPlace : Option (ExtensionsForm × List ℕ) → List Element → Element → ExtensionsForm → Type 0
IsSetInPlace block elements element form = (form_of_block block ≡ Some form) × IsSole elements element

-- the new body: only the data of the element change where they can be set in place; else it is the elements in a row, and zeros
pub data IsBodyWith (block : Option (ExtensionsForm × List ℕ)) (elements : List Element) (element : Element) (form : ExtensionsForm) (len : ℕ) (body : List ℕ) : Type 0 where
  in_place : IsSetInPlace block elements element form → SetsLast form element.0 element.1 (body_of_block block) body → IsBodyWith block elements element form len body
  anew : (IsSetInPlace block elements element form → ⊥) → body ≡ row_to form (elements_with element elements) len → IsBodyWith block elements element form len body

-- the first bytes, so many of them, are the packet with the element in it: X is set, the block has this form and body, and all other parts are as they were; where the form stays, its word stays too, with the bits that are the application's, and else the word is written, with these bits 0
pub record PutsElement (old : List ℕ) (element : Element) (allowed : Option ExtensionsForm) (new : List ℕ) (len : ℕ) : Type 0 where
  pub growth : IsGrowth old element allowed
  pub body : List ℕ
  pub len_is : len ≡ growth.len
  pub body_is : IsBodyWith growth.parts.block growth.elements element growth.form growth.body_len body
  pub is_packet : IsPacket (take len new) (record growth.parts { has_extension = true; block = Some (growth.form, body) })
  pub are_elements : AreElements growth.form body (elements_with element growth.elements)
  pub word_is : form_of_block growth.parts.block ≡ Some growth.form → take (sources_end old + 2) new ≡ take (sources_end old + 2) old
  pub new_word_is : (form_of_block growth.parts.block ≡ Some growth.form → ⊥) → take 2 (drop (sources_end old) new) ≡ to_be_bytes w16 (form_word growth.form)

-- only the one-byte form is allowed, whose ids are 1 to 14, and the id is above these
abbrev pub IsLongId : Option ExtensionsForm → ℕ → Type 0
IsLongId None id = ⊥
IsLongId (Some OneByte) id = 14 < id
IsLongId (Some TwoByte) id = ⊥

-- the cause applies to an element that is put into the packet of these bytes
abbrev pub AppliesToPacket : List ℕ → Element → Option ExtensionsForm → NotPut → Type 0
AppliesToPacket bytes element allowed CutPacket = ⊥
AppliesToPacket bytes element allowed ZeroId = element.0 ≡ 0
AppliesToPacket bytes element allowed LongData = 255 < length element.1
AppliesToPacket bytes element allowed (NotAPacket cause) = IsFirstCause bytes cause
AppliesToPacket bytes element allowed OtherForm = HasOtherForm bytes
AppliesToPacket bytes element allowed LongId = IsLongId allowed element.0
AppliesToPacket bytes element allowed OneByteOnly = (parts : PacketParts) × IsPacket bytes parts × (allowed_form allowed (needed_form (form_of_block parts.block) element) ≡ None)
AppliesToPacket bytes element allowed LongBlock = (growth : IsGrowth bytes element allowed) × (4 * 65535 < growth.body_len)
AppliesToPacket bytes element allowed (NoRoom needed) = ⊥

-- it applies to an element that is put into the packet in so many first bytes of the buffer
abbrev pub AppliesToPut : List ℕ → ℕ → Element → Option ExtensionsForm → NotPut → Type 0
AppliesToPut buf len element allowed CutPacket = length buf < len
AppliesToPut buf len element allowed ZeroId = AppliesToPacket (take len buf) element allowed ZeroId
AppliesToPut buf len element allowed LongData = AppliesToPacket (take len buf) element allowed LongData
AppliesToPut buf len element allowed (NotAPacket cause) = AppliesToPacket (take len buf) element allowed (NotAPacket cause)
AppliesToPut buf len element allowed OtherForm = AppliesToPacket (take len buf) element allowed OtherForm
AppliesToPut buf len element allowed LongId = AppliesToPacket (take len buf) element allowed LongId
AppliesToPut buf len element allowed OneByteOnly = AppliesToPacket (take len buf) element allowed OneByteOnly
AppliesToPut buf len element allowed LongBlock = AppliesToPacket (take len buf) element allowed LongBlock
AppliesToPut buf len element allowed (NoRoom needed) = (growth : IsGrowth (take len buf) element allowed) × (needed ≡ growth.len) × (length buf < needed)

-- the place of a cause in the order of looking
abbrev pub put_place : NotPut → ℕ
put_place CutPacket = 0
put_place ZeroId = 1
put_place LongData = 2
put_place (NotAPacket cause) = 3
put_place OtherForm = 4
put_place LongId = 5
put_place OneByteOnly = 6
put_place LongBlock = 7
put_place (NoRoom needed) = 8

-- of the causes that apply, this one is the first
abbrev pub IsFirstNotPut : (NotPut → Type 0) → NotPut → Type 0
IsFirstNotPut Fact cause = IsFirstBy put_place Fact cause

-- a block with the same elements in a row, but those of the id 0, and zeros that fill their last word
abbrev pub compact_block : List Element → Option (ExtensionsForm × List ℕ) → Option (ExtensionsForm × List ℕ)
compact_block elements block = option_map (λ b. (b.0, filled (elements_bytes b.0 (without 0 elements)))) block

-- the first bytes, so many of them, are the packet with such a block, and all other parts are as they were; the word of its form stays, with the bits that are the application's
pub record Compacts (old new : List ℕ) (len : ℕ) : Type 0 where
  pub parts : PacketParts
  pub elements : List Element
  pub was_packet : IsPacket old parts
  pub were_elements : AreElementsOf parts.block elements
  pub is_packet : IsPacket (take len new) (record parts { block = compact_block elements parts.block })
  pub are_elements : AreElementsOf (compact_block elements parts.block) (without 0 elements)
  pub word_is : (form : ExtensionsForm) → form_of_block parts.block ≡ Some form → take (sources_end old + 2) new ≡ take (sources_end old + 2) old
