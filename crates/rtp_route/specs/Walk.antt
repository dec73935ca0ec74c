-- A header that is made in one walk over the packet's elements: the elements and their places, and what stands before them.
use Rattle.std.specs.Prelude.{◌≡◌, ℕ, ◌+◌, ◌-◌, ◌/◌, ◌%◌, ◌<◌, ◌≤◌, ◌⊎◌, ◌↔◌, Bool, IsTrue, List, [], ◌∷◌, ◌++◌, length, take, drop, replicate, slice_get, slice_index, Option, Some, All}
use Rattle.std.specs.Int.{w16, to_be_bytes}
use Rattle.std.specs.List.{filter_map}
use Rattle.rtp_base.specs.Overwriting.{overwritten}
use Rattle.rtp_ext.specs.declared.form.ExtensionsForm.{ExtensionsForm}
use Rattle.rtp_ext.specs.declared.form.ExtensionsForm.TheVariants.{OneByte, TwoByte}
use Rattle.rtp_ext.specs.Form.{form_word}
use Rattle.rtp_ext.specs.Elements.{Element, elements_bytes, AreElements}
use Rattle.rtp_ext.specs.ElementsInARow.{IsWritable}
use Rattle.rtp_ext.specs.ElementsInPlace.{HasNone, renumbered, CanRenumber}
use Rattle.rtp_ext.specs.WrittenBlock.{filled}
use Rattle.rtp_wire.specs.declared.packet.fields.Fields.{Fields}
use Rattle.rtp_wire.specs.declared.packet.rtp_packet.RtpPacket.{RtpPacket}
use Rattle.rtp_wire.specs.PartsOf.{datagram_of}
use Rattle.rtp_route.specs.declared.not_routed.NotRouted.{NotRouted}
use Rattle.rtp_route.specs.declared.slots.Slot.{Slot}
use Rattle.rtp_route.specs.Calls.{header_in}
use Rattle.rtp_route.specs.NotRouted.{KeepsFromRouting}
use Rattle.rtp_route.specs.Routing.{IsRouted, IsFormForIds, put_all, routed_elements}
use Rattle.rtp_route.specs.Template.{HaveOwnIds, IsSlot, AreSlots, data_lengths, slot_lengths, body_start_of}

-- the group's elements can be put into a block of the form: at most sixteen, each with an id of its own, which the form can carry
pub record CanBePut (form : ExtensionsForm) (news : List Element) : Type 0 where
  pub few : length news ≤ 16
  pub own : HaveOwnIds news
  pub writable : All (IsWritable form) news

-- the number says which of the elements has the id: it counts from 1 on, and is 0 where none has it
abbrev pub IsNumberOf : List Element → ℕ → ℕ → Type 0
IsNumberOf news id number = ((number ≡ 0) × HasNone news id) ⊎ ((index : ℕ) × (was : List ℕ) × (number ≡ index + 1) × (slice_get news index ≡ Some (id, was)))

-- so do these, of each id in turn
abbrev pub AreNumbersOf : List Element → List ℕ → Type 0
AreNumbersOf news numbers = (id : ℕ) → id < 256 → IsNumberOf news id (slice_index numbers id)

-- the two-byte form can carry the elements, which take so many bytes in it; and whether the one-byte form can carry each
pub record AreMeasured (news : List Element) (two_byte_len : ℕ) (fits_one_byte : Bool) : Type 0 where
  pub carried : All (IsWritable TwoByte) news
  pub len_is : two_byte_len ≡ length (elements_bytes TwoByte news)
  pub fits : IsTrue fits_one_byte ↔ All (IsWritable OneByte) news

-- these are the numbers of the group's elements, which can be put into a block of the two-byte form, and their measures
pub record IsTabled (news : List Element) (numbers : List ℕ) (two_byte_len : ℕ) (fits_one_byte : Bool) : Type 0 where
  pub can : CanBePut TwoByte news
  pub numbers_are : AreNumbersOf news numbers
  pub measures_are : AreMeasured news two_byte_len fits_one_byte

-- no place is known
abbrev pub no_slots : List Slot
no_slots = replicate 16 (record { start = 0; len = 0 })

-- the place of an element among these in a row, or 0 where none has its id
abbrev pub IsPlaced : ExtensionsForm → ℕ → List Element → Element → Slot → Type 0
IsPlaced form start written new slot = ((slot.start ≡ 0) × HasNone written new.0) ⊎ IsSlot form start written new slot

-- so is the place of each
abbrev pub ArePlaced : ExtensionsForm → ℕ → List Element → List Element → List Slot → Type 0
ArePlaced form start written [] slots = Unit {0}
ArePlaced form start written (new ∷ news) [] = ⊥
ArePlaced form start written (new ∷ news) (slot ∷ slots) = IsPlaced form start written new slot × ArePlaced form start written news slots

-- the buffer has these elements in a row between the two offsets, where each of the group's is placed, and its other bytes are the old ones
pub record AreWritten (form : ExtensionsForm) (start : ℕ) (news : List Element) (old : List ℕ) (written : List Element) (slots : List Slot) (buf : List ℕ) (at : ℕ) : Type 0 where
  pub bytes_are : buf ≡ overwritten old start (elements_bytes form written)
  pub as_long : length buf ≡ length old
  pub at_is : at ≡ start + length (elements_bytes form written)
  pub writable : All (IsWritable form) written
  pub placed : ArePlaced form start written news slots

-- the first elements have the ids of the others in turn, and are these, but for those of the ids of the group's
abbrev pub AreLike : List Element → List Element → List Element → Type 0
AreLike news [] [] = Unit {0}
AreLike news [] (other ∷ others) = ⊥
AreLike news (element ∷ elements) [] = ⊥
AreLike news (element ∷ elements) (other ∷ others) = (element.0 ≡ other.0) × (HasNone news other.0 → element ≡ other) × AreLike news elements others

-- the form can carry the elements under their new ids, and they are written, but for those of the ids of the group's
pub record AreKept (form : ExtensionsForm) (ids : ℕ → Option ℕ) (news elements : List Element) (start : ℕ) (old : List ℕ) (slots : List Slot) (buf : List ℕ) (at : ℕ) : Type 0 where
  pub written : List Element
  pub like : AreLike news written (filter_map (renumbered ids) elements)
  pub carried : All (CanRenumber form ids) elements
  pub are_written : AreWritten form start news old written slots buf at

-- between the offsets, of whole words, lies the body of a block with its elements under their new ids, none of them 0, which the form can carry, and with those of the group, whose data lie at the places
pub record IsBodyFor (form : ExtensionsForm) (ids : ℕ → Option ℕ) (news elements : List Element) (start : ℕ) (slots : List Slot) (buf : List ℕ) (end : ℕ) : Type 0 where
  pub after : start ≤ end
  pub whole : end % 4 ≡ 0
  pub carried : All (CanRenumber form ids) elements
  pub no_zero : HasNone (filter_map (renumbered ids) elements) 0
  pub body_is : take (end - start) (drop start buf) ≡ filled (elements_bytes form (put_all news (filter_map (renumbered ids) elements)))
  pub are_elements : AreElements form (filled (elements_bytes form (put_all news (filter_map (renumbered ids) elements)))) (put_all news (filter_map (renumbered ids) elements))
  pub slots_are : AreSlots form start (put_all news (filter_map (renumbered ids) elements)) news slots

-- the buffer begins with what stands before a body of so many bytes: these bytes, of which the last four begin a block; their word stays where the form does, and else that of the form is written; and behind them stands this
pub record IsFrontWith (front : List ℕ) (was form : ExtensionsForm) (body_len : ℕ) (behind new : List ℕ) : Type 0 where
  pub word : List ℕ
  pub two : length word ≡ 2
  pub same : form ≡ was → word ≡ take 2 (drop (length front - 4) front)
  pub other : (form ≡ was → ⊥) → word ≡ to_be_bytes w16 (form_word form)
  pub new_is : new ≡ take (length front - 4) front ++ (word ++ (to_be_bytes w16 (body_len / 4) ++ behind))

-- the bytes are the header of the packet as it goes to the receivers with these fields, and the data of the group's elements lie at the places in it
pub record IsMadeFor (old : List ℕ) (fields : Fields) (ids : ℕ → Option ℕ) (news : List Element) (allowed : Option ExtensionsForm) (header : List ℕ) (slots : List Slot) : Type 0 where
  pub routed : IsRouted old fields ids news allowed header
  pub slots_are : (form : ExtensionsForm) → routed.form ≡ Some form
      → AreSlots form (body_start_of routed.parts) (routed_elements ids news routed.elements) news slots
  pub lengths_are : slot_lengths slots ≡ data_lengths news
  pub within : All (λ (slot : Slot). slot.start + slot.len ≤ length header) slots

-- before the group's elements are put the block has this form: its own, or the one in which it carries its elements under their new ids
abbrev pub IsStart : Option ExtensionsForm → (ℕ → Option ℕ) → Option (ExtensionsForm × List ℕ) → ExtensionsForm → Type 0
IsStart allowed ids block start =
    (was : ExtensionsForm) (body : List ℕ) (elements : List Element) → Some (was, body) ≡ block → AreElements was body elements
    → (start ≡ was) ⊎ IsFormForIds allowed ids (Some (was, body)) elements (Some start)

-- a walk made that header in the first bytes of the buffer, and the calls would make it too in a buffer of so many bytes: nothing keeps them from it
pub record IsWalked (packet : RtpPacket) (fields : Fields) (ids : ℕ → Option ℕ) (news : List Element) (allowed : Option ExtensionsForm) (room : ℕ) (buf : List ℕ) (slots : List Slot) (len : ℕ) : Type 0 where
  pub made : IsMadeFor (datagram_of packet) fields ids news allowed (take len buf) slots
  pub none_refused : (cause : NotRouted) → KeepsFromRouting (header_in packet) fields ids news allowed room cause → ⊥
  pub within : len ≤ length buf
  pub short : len ≤ 262140
