-- A packet whose block is made anew: in its form or the other one, with its elements and maybe one behind them (RFC 3550, 5.3.1; RFC 8285, 4.1.2, 4.2 and 4.3).
--
-- The fixed fields but X, the CSRC list and the payload stay. The elements of the id 0, which is padding's, go, and so does what stands where reading ends; the body never becomes shorter.
use Rattle.std.specs.Prelude.{◌≡◌, ℕ, ◌+◌, ◌*◌, ◌<◌, List, [], ◌∷◌, ◌++◌, length, take, drop, max, true, Option, Some, None, Any}
use Rattle.std.specs.List.{AllByRecursion}
use Rattle.std.specs.Int.{w16, to_be_bytes}
use Rattle.rtp_ext.specs.declared.form.ExtensionsForm.{ExtensionsForm}
use Rattle.rtp_ext.specs.declared.form.ExtensionsForm.TheVariants.{OneByte, TwoByte}
use Rattle.rtp_ext.specs.Form.{form_word}
use Rattle.rtp_ext.specs.Elements.{Element, AreElements, elements_bytes}
use Rattle.rtp_ext.specs.ElementsInARow.{IsWritable}
use Rattle.rtp_ext.specs.PutElement.{without, needed_form, allowed_form, row_to}
use Rattle.rtp_ext.specs.WrittenBlock.{whole_words}
use Rattle.rtp_wire.specs.declared.packet.not_put.NotPut.{NotPut}
use Rattle.rtp_wire.specs.declared.packet.not_put.NotPut.TheVariants.{CutPacket, ZeroId, LongData, NotAPacket, OtherForm, LongId, OneByteOnly, LongBlock, NoRoom}
use Rattle.rtp_wire.specs.NotAHeader.{sources_end}
use Rattle.rtp_wire.specs.Packet.{PacketParts, IsPacket, HasOtherForm}
use Rattle.rtp_wire.specs.PacketElements.{AreElementsOf}
use Rattle.rtp_wire.specs.PutIntoPacket.{form_of_block, body_of_block, IsLongId}

-- a packet whose elements the form can carry, without those of the id 0, and what it becomes once its block is made anew in the form with these elements and others behind them: how many bytes the body has, the elements in whole words, but no fewer than before; and how many the packet has
pub record IsRemade (bytes : List ℕ) (form : ExtensionsForm) (added : List Element) : Type 0 where
  pub parts : PacketParts
  pub elements : List Element
  pub body_len : ℕ
  pub len : ℕ
  pub is_packet : IsPacket bytes parts
  pub no_other : parts.other_block ≡ None
  pub are_elements : AreElementsOf parts.block elements
  pub are_carried : AllByRecursion (IsWritable form) (without 0 elements)
  pub body_len_is : body_len ≡ max (length (body_of_block parts.block)) (whole_words (length (elements_bytes form (without 0 elements ++ added))))
  pub len_is : len ≡ 12 + 4 * length parts.sources + (4 + body_len) + length parts.payload

-- the first bytes, so many of them, are the packet with such a block: X is set, the block has the form, its body is these elements in a row, and zeros, and all other parts are as they were; where the form stays, its word stays too, with the bits that are the application's, and else the word is written, with these bits 0
pub record RemakesBlock (old : List ℕ) (form : ExtensionsForm) (added : List Element) (new : List ℕ) (len : ℕ) : Type 0 where
  pub remade : IsRemade old form added
  pub body : List ℕ
  pub len_is : len ≡ remade.len
  pub body_is : body ≡ row_to form (without 0 remade.elements ++ added) remade.body_len
  pub is_packet : IsPacket (take len new) (record remade.parts { has_extension = true; block = Some (form, body) })
  pub are_elements : AreElements form body (without 0 remade.elements ++ added)
  pub word_is : form_of_block remade.parts.block ≡ Some form → take (sources_end old + 2) new ≡ take (sources_end old + 2) old
  pub new_word_is : (form_of_block remade.parts.block ≡ Some form → ⊥) → take 2 (drop (sources_end old) new) ≡ to_be_bytes w16 (form_word form)

-- the packet has an element whose id the form can't carry
pub record HasLongIds (bytes : List ℕ) (form : ExtensionsForm) : Type 0 where
  pub parts : PacketParts
  pub elements : List Element
  pub is_packet : IsPacket bytes parts
  pub are_elements : AreElementsOf parts.block elements
  pub long : Any (λ element. IsLongId (Some form) element.0) elements

-- the packet has an element that the form can't carry
pub record HasUncarried (bytes : List ℕ) (form : ExtensionsForm) : Type 0 where
  pub parts : PacketParts
  pub elements : List Element
  pub is_packet : IsPacket bytes parts
  pub are_elements : AreElementsOf parts.block elements
  pub uncarried : AllByRecursion (IsWritable form) (without 0 elements) → ⊥

-- its block, so made anew, would have more than 65,535 words
abbrev pub IsTooLong : List ℕ → ExtensionsForm → List Element → Type 0
IsTooLong bytes form added = (remade : IsRemade bytes form added) × (4 * 65535 < remade.body_len)

-- the packet would then have so many bytes, and a buffer of so many has no room for them
abbrev pub HasNoRoom : List ℕ → ℕ → ExtensionsForm → List Element → ℕ → Type 0
HasNoRoom bytes room form added needed = (remade : IsRemade bytes form added) × (needed ≡ remade.len) × (room < needed)

-- the block has the other one of the two forms
abbrev pub IsInOther : Option ExtensionsForm → ExtensionsForm → Type 0
IsInOther (Some OneByte) TwoByte = Unit {0}
IsInOther (Some TwoByte) OneByte = Unit {0}
IsInOther (Some OneByte) OneByte = ⊥
IsInOther (Some TwoByte) TwoByte = ⊥
IsInOther None form = ⊥

-- the cause keeps a block of this form from another one: a block of another profile has none of the two, and else only one of the other form is made anew
abbrev pub KeepsFromForm : List ℕ → ℕ → Option ExtensionsForm → ExtensionsForm → NotPut → Type 0
KeepsFromForm bytes room was form CutPacket = ⊥
KeepsFromForm bytes room was form ZeroId = ⊥
KeepsFromForm bytes room was form LongData = ⊥
KeepsFromForm bytes room was form (NotAPacket cause) = ⊥
KeepsFromForm bytes room was form OtherForm = HasOtherForm bytes
KeepsFromForm bytes room was form LongId = IsInOther was form × HasLongIds bytes form
KeepsFromForm bytes room was form OneByteOnly = IsInOther was form × HasUncarried bytes form
KeepsFromForm bytes room was form LongBlock = IsInOther was form × IsTooLong bytes form []
KeepsFromForm bytes room was form (NoRoom needed) = IsInOther was form × HasNoRoom bytes room form [] needed

-- the form that a block of this form, or none, gets with the element
abbrev pub form_with : Option ExtensionsForm → Element → Option ExtensionsForm → Option ExtensionsForm
form_with was element allowed = allowed_form allowed (needed_form was element)

-- the cause keeps the element from a place behind those of the block
abbrev pub KeepsFromAdding : List ℕ → ℕ → Option ExtensionsForm → Element → Option ExtensionsForm → NotPut → Type 0
KeepsFromAdding bytes room was element allowed CutPacket = ⊥
KeepsFromAdding bytes room was element allowed (NotAPacket cause) = ⊥
KeepsFromAdding bytes room was element allowed ZeroId = element.0 ≡ 0
KeepsFromAdding bytes room was element allowed LongData = 255 < length element.1
KeepsFromAdding bytes room was element allowed OtherForm = HasOtherForm bytes
KeepsFromAdding bytes room was element allowed LongId = IsLongId allowed element.0
KeepsFromAdding bytes room was element allowed OneByteOnly = form_with was element allowed ≡ None
KeepsFromAdding bytes room was element allowed LongBlock = (form : ExtensionsForm) × (form_with was element allowed ≡ Some form) × IsTooLong bytes form (element ∷ [])
KeepsFromAdding bytes room was element allowed (NoRoom needed) = (form : ExtensionsForm) × (form_with was element allowed ≡ Some form) × HasNoRoom bytes room form (element ∷ []) needed
