-- A packet whose fields, elements or padding are changed where they lie, by its bytes before and after (RFC 3550, 5.1; RFC 8285, 4.2 and 4.3).
use Rattle.std.specs.Prelude.{◌≡◌, ◌↔◌, ℕ, ◌<◌, ◌≤◌, List, length, Bool, true, IsTrue, Option, Some, IfSome, IfNone, IsNone, All}
use Rattle.std.specs.Bool.{OnTrue, OnFalse}
use Rattle.std.specs.List.{filter_map}
use Rattle.rtp_values.specs.declared.kind.Extension.{Extension}
use Rattle.rtp_values.specs.declared.value.values.ExtensionValues.{ExtensionValues}
use Rattle.rtp_values.specs.Values.{Reads, with_fields, IsWellFormed}
use Rattle.rtp_ext.specs.declared.new_ids.NewIds.{NewIds}
use Rattle.rtp_ext.specs.Elements.{Element}
use Rattle.rtp_ext.specs.ElementsInPlace.{HasNone, HasLastOf, SetsLast, ChangesIds, CanRenumber, renumbered, all_but}
use Rattle.rtp_ext.specs.ExtensionMap.{Slots, extension_at, IsOnlyId}
use Rattle.rtp_ext.specs.NewIds.{new_id, CarriesExtensions}
use Rattle.rtp_ext.specs.ElementPlaces.{WritesLast}
use Rattle.rtp_ext.specs.WrittenBlock.{mapped_fields}
use Rattle.rtp_wire.specs.declared.packet.fields.Fields.{Fields}
use Rattle.rtp_wire.specs.ChangedPacket.{ChangesBlock, ChangesOnly, ChangesOnlyBody, HasUnpadded}
use Rattle.rtp_wire.specs.GivenFields.{with_header_fields, LieBetween}
use Rattle.rtp_wire.specs.PacketElements.{AreElementsOf, HasValues}
use Rattle.rtp_wire.specs.Padding.{padding_count}
use Rattle.rtp_wire.specs.PartsAt.{parts_at}

-- the given fields are set, and no byte outside of them changes
pub record SetsFields (fields : Fields) (old new : List ℕ) : Type 0 where
  pub parts_are : parts_at new ≡ with_header_fields fields (parts_at old)
  pub bytes_are : (start end : ℕ) → LieBetween fields start end → ChangesOnly start end old new

-- the last element of the id gets the data, where it has as many bytes, and the answer is whether it has; else nothing changes. Under a map by which the kind has this id, the values of all other kinds stay, and where it has no other id its own are what the data say
pub record SetsElement (id : ℕ) (bytes : List ℕ) (answer : Bool) (old new : List ℕ) : Type 0 where
  pub set : OnTrue answer (ChangesBlock (λ form. SetsLast form id bytes) (parts_at old) (parts_at new))
  pub written : OnTrue answer (ChangesBlock (λ form. WritesLast form id bytes) (parts_at old) (parts_at new))
  pub unchanged : OnFalse answer (new ≡ old)
  pub only_body : ChangesOnlyBody old new
  pub answer_is : (elements : List Element) → AreElementsOf (parts_at old).block elements → IsTrue answer ↔ HasLastOf elements id (length bytes)
  pub other_values : (exts : Slots) (kind : Extension) (was is : ExtensionValues) → extension_at exts id ≡ Some kind → HasValues exts (parts_at old).block was → HasValues exts (parts_at new).block is → OnTrue answer (is ≡ with_fields kind was is)
  pub values : (exts : Slots) (kind : Extension) (is : ExtensionValues) → IsOnlyId exts kind id → IsWellFormed kind bytes → HasValues exts (parts_at new).block is → OnTrue answer (Reads kind bytes is)

-- each element of the id becomes padding, and the answer is whether there is one
pub record RemovesElement (id : ℕ) (answer : Bool) (old new : List ℕ) : Type 0 where
  pub removed : OnTrue answer (ChangesBlock (λ form. ChangesIds form (all_but id)) (parts_at old) (parts_at new))
  pub unchanged : OnFalse answer (new ≡ old)
  pub only_body : ChangesOnlyBody old new
  pub answer_is : (elements : List Element) → AreElementsOf (parts_at old).block elements → IsTrue answer ↔ (HasNone elements id → ⊥)
  pub elements_are : (elements : List Element) → AreElementsOf (parts_at old).block elements → AreElementsOf (parts_at new).block (filter_map (renumbered (all_but id)) elements)

-- each element gets its new id, and one without becomes padding, where the form of the block can carry all of them, and the answer is whether it can; else nothing changes. What the packet said under the first map it then says under the second
pub record RenumbersElements (ids : NewIds) (answer : Bool) (old new : List ℕ) : Type 0 where
  pub renumbers : OnTrue answer (IfSome (parts_at old).block (λ _. ChangesBlock (λ form. ChangesIds form (new_id ids)) (parts_at old) (parts_at new)))
  pub unchanged : OnFalse answer (new ≡ old)
  pub only_body : ChangesOnlyBody old new
  pub without_block : IfNone (parts_at old).block (new ≡ old)
  pub answer_is : (elements : List Element) → AreElementsOf (parts_at old).block elements → IsTrue answer ↔ IfSome (parts_at old).block (λ block. All (CanRenumber block.0 (new_id ids)) elements)
  pub elements_are : (elements : List Element) → AreElementsOf (parts_at old).block elements → OnTrue answer (AreElementsOf (parts_at new).block (filter_map (renumbered (new_id ids)) elements))
  pub values : (from to : Slots) (values : ExtensionValues) → CarriesExtensions from to ids → HasValues from (parts_at old).block values → OnTrue answer (HasValues to (parts_at new).block (mapped_fields to values))

-- the first bytes, as many as the answer says, are the packet without its padding; there is no answer, and nothing changes, where the padding counts more bytes than the payload has
pub record RemovesPadding (answer : Option ℕ) (old new : List ℕ) : Type 0 where
  pub unpadded : IfSome answer (HasUnpadded (parts_at old) new)
  pub within : IfSome answer (λ len. len ≤ length old)
  pub only_first : ChangesOnly 0 1 old new
  pub refused : IsNone answer ↔ ((parts_at old).has_padding ≡ true) × (length (parts_at old).payload < padding_count (parts_at old).payload)
  pub unchanged : IfNone answer (new ≡ old)
