-- The elements that C gives with pointers to their data, as they are written behind a fixed part (RFC 3550, 5.1; RFC 8285, 4.2 and 4.3).
use Rattle.std.specs.Prelude.{◌≡◌, ℕ, ◌<◌, ◌≤◌, List, ◌++◌, map, length, drop, Some}
use Rattle.rtp_ext.specs.declared.form.ExtensionsForm.{ExtensionsForm}
use Rattle.rtp_ext.specs.Elements.{Element}
use Rattle.rtp_ext.specs.ElementsInARow.{AreNotWritableIn}
use Rattle.rtp_wire.specs.Packet.{IsPacket}
use Rattle.rtp_wire.specs.WrittenWith.{wire_bytes_with, parts_with}
use Rattle.rtp_c.specs.declared.data_elements.DataView.{DataView}
use Rattle.rtp_c.specs.declared.fixed_part.FixedView.{FixedView}
use Rattle.rtp_c.specs.FixedPart.{fixed_in}

-- the elements, each of its id and the data that are pointed to
abbrev pub elements_at : List DataView → List Element
elements_at views = map (λ view. (view.id, view.data.now)) views

-- a header can have the payload type, and a block the elements in the form
pub record CanBeWrittenAt (form : ExtensionsForm) (fixed : FixedView) (views : List DataView) : Type 0 where
  pub payload_type_fits : fixed.payload_type ≤ 127
  pub in_a_row : AreNotWritableIn form (elements_at views) 262140 → ⊥

-- the header and a block with the elements stand at the front of the buffer, and its other bytes are as they were; followed by anything they are a packet
pub record IsWrittenAt (form : ExtensionsForm) (fixed : FixedView) (views : List DataView) (old new : List ℕ) (len : ℕ) : Type 0 where
  pub can_be : CanBeWrittenAt form fixed views
  pub len_is : len ≡ length (wire_bytes_with (fixed_in fixed) (Some form) (elements_at views))
  pub written : new ≡ wire_bytes_with (fixed_in fixed) (Some form) (elements_at views) ++ drop len old
  pub read_back : (rest : List ℕ) →
      IsPacket (wire_bytes_with (fixed_in fixed) (Some form) (elements_at views) ++ rest) (parts_with (fixed_in fixed) (Some form) (elements_at views) rest)

-- the header and the block take more than the room
pub record IsTooLongAt (form : ExtensionsForm) (fixed : FixedView) (views : List DataView) (room : ℕ) : Type 0 where
  pub can_be : CanBeWrittenAt form fixed views
  pub too_long : room < length (wire_bytes_with (fixed_in fixed) (Some form) (elements_at views))
