-- Where data lie in a header that is made once, and the header once other data stand there (RFC 8285, 4.2 and 4.3).
use Rattle.std.specs.Prelude.{◌≡◌, ℕ, ◌+◌, ◌*◌, ◌≤◌, List, [], ◌∷◌, ◌++◌, length, map, take, drop, Some}
use Rattle.rtp_base.specs.Overwriting.{overwritten}
use Rattle.rtp_ext.specs.declared.form.ExtensionsForm.{ExtensionsForm}
use Rattle.std.specs.List.{filter, sum_by}
use Rattle.rtp_ext.specs.Elements.{Element, elements_bytes, AreElements}
use Rattle.rtp_ext.specs.PutElement.{has_id}
use Rattle.rtp_ext.specs.WrittenBlock.{filled}
use Rattle.rtp_wire.specs.Packet.{PacketParts, header_len_of}
use Rattle.rtp_ext.specs.ElementWriting.{element_header}
use Rattle.rtp_ext.specs.ElementsInPlace.{HasNone}
use Rattle.rtp_route.specs.declared.slots.Slot.{Slot}

-- the elements with these data in turn
abbrev pub with_data : List Element → List (List ℕ) → List Element
with_data [] contents = []
with_data (element ∷ elements) [] = []
with_data (element ∷ elements) (bytes ∷ contents) = (element.0, bytes) ∷ with_data elements contents

-- no two of the elements have one id
abbrev pub HaveOwnIds : List Element → Type 0
HaveOwnIds [] = Unit {0}
HaveOwnIds (element ∷ elements) = HasNone elements element.0 × HaveOwnIds elements

-- how many bytes of data each has
abbrev pub data_lengths : List Element → List ℕ
data_lengths elements = map (λ element. length element.1) elements

-- how many bytes each place has
abbrev pub slot_lengths : List Slot → List ℕ
slot_lengths slots = map (λ slot. slot.len) slots

-- how many bytes they have together
abbrev pub total_of : List Slot → ℕ
total_of slots = sum_by (λ slot. slot.len) slots

-- the bytes in pieces of these lengths, one after another
abbrev pub pieces : List ℕ → List ℕ → List (List ℕ)
pieces [] bytes = []
pieces (len ∷ lens) bytes = take len bytes ∷ pieces lens (drop len bytes)

-- the buffer with each of these data at its place
abbrev pub filled_in : List Slot → List (List ℕ) → List ℕ → List ℕ
filled_in [] contents buf = buf
filled_in (slot ∷ slots) [] buf = buf
filled_in (slot ∷ slots) (bytes ∷ contents) buf = filled_in slots contents (overwritten buf slot.start bytes)

-- of elements in a row from an offset on, this is the one of its id, and its data lie at the place
pub record IsSlot (form : ExtensionsForm) (start : ℕ) (elements : List Element) (element : Element) (slot : Slot) : Type 0 where
  pub before : List Element
  pub after : List Element
  pub in_order : elements ≡ before ++ element ∷ after
  pub none_before : HasNone before element.0
  pub none_after : HasNone after element.0
  pub start_is : slot.start ≡ start + length (elements_bytes form before) + length (element_header form element.0 (length element.1))
  pub len_is : slot.len ≡ length element.1

-- so is each of these, and these are their places
abbrev pub AreSlots : ExtensionsForm → ℕ → List Element → List Element → List Slot → Type 0
AreSlots form start elements [] slots = slots ≡ []
AreSlots form start elements (new ∷ news) [] = ⊥
AreSlots form start elements (new ∷ news) (slot ∷ slots) = IsSlot form start elements new slot × AreSlots form start elements news slots

-- it is the only one of its id
abbrev pub HasOnly : List Element → Element → Type 0
HasOnly elements new = filter (has_id new.0) elements ≡ new ∷ []

-- the packet has a block of this form with these elements in a row
pub record HasRow (parts : PacketParts) (form : ExtensionsForm) (elements : List Element) : Type 0 where
  pub block_is : parts.block ≡ Some (form, filled (elements_bytes form elements))
  pub are_elements : AreElements form (filled (elements_bytes form elements)) elements

-- where the body of a block begins in a packet with so many sources
abbrev pub body_start_of : PacketParts → ℕ
body_start_of parts = 16 + 4 * length parts.sources

-- the place lies in the header
abbrev pub LiesInHeader : PacketParts → Slot → Type 0
LiesInHeader parts slot = slot.start + slot.len ≤ header_len_of parts
