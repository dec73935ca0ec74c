-- A packet's header as a receiver is to get it: with fields, ids and elements of its own (RFC 7667, 3.7; RFC 8285, 4.1.2 and 5).
--
-- The elements get the receiver's ids; those whose id has none go, and so would those of the id 0, which is padding's. Then each element that is put takes the place of the last one of its id, or comes last. They stand in a row, in whole words. The block has the form that carries the new ids, and then the one that each of those that are put needs in its turn. The payload stays where it lies.
use Rattle.std.specs.Prelude.{◌≡◌, ◌≢◌, ℕ, List, [], ◌∷◌, take, drop, Bool, true, Option, Some, IfSome, All, option_map}
use Rattle.std.specs.List.{filter_map}
use Rattle.std.specs.Int.{w16, to_be_bytes}
use Rattle.rtp_ext.specs.declared.form.ExtensionsForm.{ExtensionsForm}
use Rattle.rtp_ext.specs.declared.form.ExtensionsForm.TheVariants.{OneByte, TwoByte}
use Rattle.rtp_ext.specs.Form.{form_word}
use Rattle.rtp_ext.specs.Elements.{Element, elements_bytes}
use Rattle.rtp_ext.specs.ElementsInPlace.{renumbered, CanRenumber}
use Rattle.rtp_ext.specs.PutElement.{without, put_element, needed_form, allowed_form}
use Rattle.rtp_ext.specs.WrittenBlock.{filled}
use Rattle.rtp_wire.specs.declared.packet.fields.Fields.{Fields}
use Rattle.rtp_wire.specs.GivenFields.{with_header_fields}
use Rattle.rtp_wire.specs.NotAHeader.{sources_end}
use Rattle.rtp_wire.specs.Packet.{PacketParts, IsPacket}
use Rattle.rtp_wire.specs.PacketElements.{AreElementsOf}
use Rattle.rtp_wire.specs.PutIntoPacket.{form_of_block}

-- the elements once these are put among them, one after another
abbrev pub put_all : List Element → List Element → List Element
put_all [] elements = elements
put_all (new ∷ news) elements = put_all news (put_element new elements)

-- the elements under their new ids, without any of the id 0, and with these put among them
abbrev pub routed_elements : (ℕ → Option ℕ) → List Element → List Element → List Element
routed_elements ids news elements = put_all news (without 0 (filter_map (renumbered ids) elements))

-- the form of the block, if there is one, can carry its elements under their new ids (RFC 8285, 4.2 and 4.3)
abbrev pub CarriesIds : (ℕ → Option ℕ) → Option (ExtensionsForm × List ℕ) → List Element → Type 0
CarriesIds ids block elements = IfSome block (λ b. All (CanRenumber b.0 ids) elements)

-- the form in which a block, or none, carries its elements under their new ids: its own where that can, and else the two-byte form, where the one-byte form isn't the only one that is allowed (RFC 8285, 4.1.2)
pub data IsFormForIds (allowed : Option ExtensionsForm) (ids : ℕ → Option ℕ) (block : Option (ExtensionsForm × List ℕ)) (elements : List Element) (form : Option ExtensionsForm) : Type 0 where
  own_form : CarriesIds ids block elements → form ≡ form_of_block block → IsFormForIds allowed ids block elements form
  two_byte_form : (CarriesIds ids block elements → ⊥) → allowed ≢ Some OneByte → form ≡ Some TwoByte → IsFormForIds allowed ids block elements form

-- the form of a block, or of none, once these are put, one after another: each in the form that it needs, where that is allowed
abbrev pub IsFormAfter : Option ExtensionsForm → Option ExtensionsForm → List Element → Option ExtensionsForm → Type 0
IsFormAfter allowed block [] after = after ≡ block
IsFormAfter allowed block (new ∷ news) after =
    (form : ExtensionsForm) × (allowed_form allowed (needed_form block new) ≡ Some form) × IsFormAfter allowed (Some form) news after

-- whether X is set once these are put
abbrev pub extension_after : List Element → Bool → Bool
extension_after [] extension = extension
extension_after (new ∷ news) extension = true

-- a block of this form, if any, with these elements in a row and zeros that fill their last word
abbrev pub row_in : Option ExtensionsForm → List Element → Option (ExtensionsForm × List ℕ)
row_in form elements = option_map (λ f. (f, filled (elements_bytes f elements))) form

-- what a packet with these parts and elements says on its way to the receiver
abbrev pub routed_parts : Fields → (ℕ → Option ℕ) → List Element → Option ExtensionsForm → List Element → PacketParts → PacketParts
routed_parts fields ids news form elements was = record (with_header_fields fields was) {
  has_extension = extension_after news was.has_extension;
  block = row_in form (routed_elements ids news elements);
}

-- the two bytes after the CSRC list: the word of the block's form
abbrev pub word_bytes : List ℕ → List ℕ
word_bytes bytes = take 2 (drop (sources_end bytes) bytes)

-- the word of a block's form stays, with the bits that are the application's, where the form stays; else it is written, with these bits 0
pub record KeepsWord (was : Option ExtensionsForm) (old : List ℕ) (form : Option ExtensionsForm) (new : List ℕ) : Type 0 where
  pub word_is : (f : ExtensionsForm) → form ≡ Some f → was ≡ Some f → word_bytes new ≡ word_bytes old
  pub new_word_is : (f : ExtensionsForm) → form ≡ Some f → was ≢ Some f → word_bytes new ≡ to_be_bytes w16 (form_word f)

-- the bytes are the header of the packet as it goes to the receiver
pub record IsRouted (old : List ℕ) (fields : Fields) (ids : ℕ → Option ℕ) (news : List Element) (allowed : Option ExtensionsForm) (new : List ℕ) : Type 0 where
  pub parts : PacketParts
  pub elements : List Element
  pub start : Option ExtensionsForm
  pub form : Option ExtensionsForm
  pub was_packet : IsPacket old parts
  pub were_elements : AreElementsOf parts.block elements
  pub start_is : IsFormForIds allowed ids parts.block elements start
  pub form_is : IsFormAfter allowed start news form
  pub is_packet : IsPacket new (record (routed_parts fields ids news form elements parts) { payload = [] })
  pub are_elements : AreElementsOf (row_in form (routed_elements ids news elements)) (routed_elements ids news elements)
  pub word_is : KeepsWord (form_of_block parts.block) old form new
