-- A packet whose block is rewritten: in its form or the other one, without the elements of an id, and with one that comes in their place (RFC 3550, 5.3.1; RFC 8285, 4.1.2, 4.2 and 4.3).
--
-- The fixed fields but X, the CSRC list and the payload stay. The elements of the id 0, which is padding's, go, and so does what stands where reading ends; the body never becomes shorter. An element that is put takes the place of those of its id; where one is added, or the form is another, no id but 0 goes.
use Rattle.std.specs.Prelude.{◌≡◌, ℕ, ◌+◌, ◌*◌, ◌<◌, ◌≤◌, ◌↔◌, List, length, take, drop, max, true, IsTrue, Option, Some, None}
use Rattle.std.specs.List.{AllByRecursion}
use Rattle.std.specs.Int.{w16, to_be_bytes}
use Rattle.rtp_ext.specs.declared.form.ExtensionsForm.{ExtensionsForm}
use Rattle.rtp_ext.specs.Form.{form_word}
use Rattle.rtp_ext.specs.Elements.{Element, AreElements, elements_bytes}
use Rattle.rtp_ext.specs.ElementsInARow.{IsWritable}
use Rattle.rtp_ext.specs.PutElement.{rewritten_elements, needed_form, allowed_form, row_to}
use Rattle.rtp_ext.specs.BodySurvey.{IsSurvey}
use Rattle.rtp_ext.specs.WrittenBlock.{whole_words}
use Rattle.rtp_wire.specs.declared.packet.not_put.NotPut.{NotPut}
use Rattle.rtp_wire.specs.declared.packet.not_put.NotPut.TheVariants.{ZeroId, LongData, OtherForm, LongId, OneByteOnly, LongBlock, NoRoom}
use Rattle.rtp_wire.specs.declared.packet.rewriting.Plan.{Plan}
use Rattle.rtp_wire.specs.NotAHeader.{sources_end}
use Rattle.rtp_wire.specs.Packet.{PacketParts, IsPacket, HasOtherForm, header_len_of}
use Rattle.rtp_wire.specs.PacketElements.{AreElementsOf}
use Rattle.rtp_wire.specs.PutIntoPacket.{form_of_block, body_of_block, IsLongId}
use Rattle.rtp_wire.specs.RemadeBlock.{HasLongIds}

-- the cause keeps the element out of every packet: no form can carry it
abbrev pub StopsElement : Element → NotPut → Type 0
StopsElement element ZeroId = element.0 ≡ 0
StopsElement element LongData = 255 < length element.1
StopsElement element cause = ⊥

-- the cause keeps the block of the packet from a form that is allowed and can carry the element
abbrev pub StopsForm : List ℕ → Element → Option ExtensionsForm → NotPut → Type 0
StopsForm bytes element allowed OtherForm = HasOtherForm bytes
StopsForm bytes element allowed LongId = IsLongId allowed element.0
StopsForm bytes element allowed OneByteOnly = (parts : PacketParts) × IsPacket bytes parts × (allowed_form allowed (needed_form (form_of_block parts.block) element) ≡ None)
StopsForm bytes element allowed cause = ⊥

-- a packet whose elements, but for those that go, the form can carry, and what it becomes once its block is rewritten in the form: how many bytes the body has, the elements in whole words, but no fewer than before; and how many the packet has
pub record IsRewritten (bytes : List ℕ) (form : ExtensionsForm) (goes : ℕ) (comes : List Element) : Type 0 where
  pub parts : PacketParts
  pub elements : List Element
  pub body_len : ℕ
  pub len : ℕ
  pub is_packet : IsPacket bytes parts
  pub no_other : parts.other_block ≡ None
  pub are_elements : AreElementsOf parts.block elements
  pub are_carried : AllByRecursion (IsWritable form) (rewritten_elements goes comes elements)
  pub body_len_is : body_len ≡ max (length (body_of_block parts.block)) (whole_words (length (elements_bytes form (rewritten_elements goes comes elements))))
  pub len_is : len ≡ 12 + 4 * length parts.sources + (4 + body_len) + length parts.payload

-- the first bytes, so many of them, are the packet with such a block: X is set, the block has the form, its body is these elements in a row, and zeros, and all other parts are as they were; where the form stays, its word stays too, with the bits that are the application's, and else the word is written, with these bits 0
pub record RewritesBlock (old : List ℕ) (form : ExtensionsForm) (goes : ℕ) (comes : List Element) (new : List ℕ) (len : ℕ) : Type 0 where
  pub rewritten : IsRewritten old form goes comes
  pub body : List ℕ
  pub len_is : len ≡ rewritten.len
  pub body_is : body ≡ row_to form (rewritten_elements goes comes rewritten.elements) rewritten.body_len
  pub is_packet : IsPacket (take len new) (record rewritten.parts { has_extension = true; block = Some (form, body) })
  pub are_elements : AreElements form body (rewritten_elements goes comes rewritten.elements)
  pub word_is : form_of_block rewritten.parts.block ≡ Some form → take (sources_end old + 2) new ≡ take (sources_end old + 2) old
  pub new_word_is : (form_of_block rewritten.parts.block ≡ Some form → ⊥) → take 2 (drop (sources_end old) new) ≡ to_be_bytes w16 (form_word form)

-- the form can't carry one of the elements that the block then has
pub record CarriesNot (bytes : List ℕ) (form : ExtensionsForm) (goes : ℕ) (comes : List Element) : Type 0 where
  pub parts : PacketParts
  pub elements : List Element
  pub is_packet : IsPacket bytes parts
  pub are_elements : AreElementsOf parts.block elements
  pub uncarried : AllByRecursion (IsWritable form) (rewritten_elements goes comes elements) → ⊥

-- the cause keeps the block of a packet, in a buffer of so many bytes, from being rewritten
abbrev pub StopsRewriting : List ℕ → ℕ → ExtensionsForm → ℕ → List Element → NotPut → Type 0
StopsRewriting bytes room form goes comes LongId = HasLongIds bytes form × CarriesNot bytes form goes comes
StopsRewriting bytes room form goes comes OneByteOnly = CarriesNot bytes form goes comes
StopsRewriting bytes room form goes comes LongBlock = (rewritten : IsRewritten bytes form goes comes) × (4 * 65535 < rewritten.body_len)
StopsRewriting bytes room form goes comes (NoRoom needed) = (rewritten : IsRewritten bytes form goes comes) × (needed ≡ rewritten.len) × (room < needed)
StopsRewriting bytes room form goes comes cause = ⊥

-- the form of the body, which is that of the block, and where there is no block the one that it gets
abbrev pub IsFormOfBody : Option (ExtensionsForm × List ℕ) → ExtensionsForm → ExtensionsForm → Type 0
IsFormOfBody None new_form form = form ≡ new_form
IsFormOfBody (Some block) new_form form = form ≡ block.0

-- what the plan says of the packet of these bytes and parts, from whose block the elements of the id go
pub record IsPlan (bytes : List ℕ) (parts : PacketParts) (goes : ℕ) (plan : Plan) : Type 0 where
  pub is_packet : IsPacket bytes parts
  pub no_other : parts.other_block ≡ None
  pub block_is : plan.block_at ≡ sources_end bytes
  pub payload_is : plan.payload_at ≡ header_len_of parts
  pub body_is : plan.body_len ≡ length (body_of_block parts.block)
  pub few : plan.body_len ≤ 4 * 65535
  pub was_form : IsFormOfBody parts.block plan.new_form plan.form
  pub survey_is : IsSurvey plan.form (body_of_block parts.block) goes plan.survey
  pub announced : IsTrue plan.is_announced ↔ (form_of_block parts.block ≡ Some plan.new_form)
