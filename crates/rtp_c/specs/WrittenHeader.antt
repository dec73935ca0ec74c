-- The header that C gives, as it is written (RFC 3550, 5.1; RFC 8285, 4.2 and 4.3).
use Rattle.std.specs.Prelude.{◌≡◌, ◌≢◌, ◌↔◌, ◌⊎◌, ℕ, ◌<◌, ◌≤◌, List, ◌++◌, length, drop, Option, ℤ}
use Rattle.rtp_ext.specs.declared.form.ExtensionsForm.{ExtensionsForm}
use Rattle.rtp_ext.specs.ExtensionMap.{Slots}
use Rattle.rtp_ext.specs.ElementsInARow.{form_given, AreNotWritableIn}
use Rattle.rtp_wire.specs.declared.header.rtp_header.RtpHeader.{RtpHeader}
use Rattle.rtp_wire.specs.Header.{IsWire}
use Rattle.rtp_wire.specs.Packet.{IsPacket}
use Rattle.rtp_wire.specs.Written.{wire_bytes, image_of}
use Rattle.rtp_wire.specs.WrittenWith.{wire_bytes_with, parts_with}
use Rattle.rtp_c.specs.declared.header.HeaderView.{HeaderView}
use Rattle.rtp_c.specs.declared.packet.ElementView.{ElementView}
use Rattle.rtp_c.specs.StoredMap.{HasKinds}
use Rattle.rtp_c.specs.Status.{ok, short_buffer, bad_field}
use Rattle.rtp_c.specs.Given.{AreGivenFields}
use Rattle.rtp_c.specs.WrittenElements.{LieIn, elements_in}

-- the slots of the map of these numbers, and a header that is given
pub record IsToBeWritten (numbers : List ℕ) (IsGiven : RtpHeader → Type 0) (slots : Slots) (header : RtpHeader) : Type 0 where
  pub has_kinds : HasKinds numbers slots
  pub is_given : IsGiven header

-- as many bytes as the header takes under the map
pub record IsLengthOf (numbers : List ℕ) (IsGiven : RtpHeader → Type 0) (len : ℕ) : Type 0 where
  pub slots : Slots
  pub header : RtpHeader
  pub is_given : IsToBeWritten numbers IsGiven slots header
  pub len_is : len ≡ length (wire_bytes slots header)

-- the header stands at the front of the buffer, and its other bytes are as they were; followed by anything it is read as its image
pub record IsWrittenHeader (numbers : List ℕ) (IsGiven : RtpHeader → Type 0) (old new : List ℕ) (len : ℕ) : Type 0 where
  pub slots : Slots
  pub header : RtpHeader
  pub is_given : IsToBeWritten numbers IsGiven slots header
  pub len_is : len ≡ length (wire_bytes slots header)
  pub written : new ≡ wire_bytes slots header ++ drop len old
  pub read_back : (rest : List ℕ) → IsWire slots (wire_bytes slots header ++ rest) (image_of slots header)

-- the header takes more than the room
pub record IsTooLong (numbers : List ℕ) (IsGiven : RtpHeader → Type 0) (room : ℕ) : Type 0 where
  pub slots : Slots
  pub header : RtpHeader
  pub is_given : IsToBeWritten numbers IsGiven slots header
  pub too_long : room < length (wire_bytes slots header)

-- what writing the header comes to: its bytes and their number where the status is `ok`, and else nothing is written
pub record WritesHeader (numbers : List ℕ) (IsGiven : RtpHeader → Type 0) (old new : List ℕ) (old_len new_len : ℕ) (status : ℤ) : Type 0 where
  pub written : status ≡ ok → IsWrittenHeader numbers IsGiven old new new_len
  pub within : status ≡ ok → new_len ≤ length new
  pub short : status ≡ short_buffer → IsTooLong numbers IsGiven (length old)
  pub is_bad : (status ≡ bad_field) ↔ ((h : RtpHeader) → IsGiven h → ⊥)
  pub statuses : (status ≡ ok) ⊎ ((status ≡ short_buffer) ⊎ (status ≡ bad_field))
  pub unchanged : status ≢ ok → (new ≡ old) × (new_len ≡ old_len)

-- the fields of the header are given, the data of the elements lie within the bytes, and a block can have them in the form that serves for them, or that alone is allowed
pub record CanBeWrittenWith (allowed : Option ExtensionsForm) (view : HeaderView) (bytes : List ℕ) (views : List ElementView) (header : RtpHeader) : Type 0 where
  pub fields : AreGivenFields view header
  pub within : LieIn bytes views
  pub in_a_row : AreNotWritableIn (form_given allowed (elements_in bytes views)) (elements_in bytes views) 262140 → ⊥

-- the header and a block with the elements stand at the front of the buffer, and its other bytes are as they were; followed by anything they are a packet
pub record IsWrittenWith (allowed : Option ExtensionsForm) (view : HeaderView) (bytes : List ℕ) (views : List ElementView) (old new : List ℕ) (len : ℕ) : Type 0 where
  pub header : RtpHeader
  pub is_given : CanBeWrittenWith allowed view bytes views header
  pub len_is : len ≡ length (wire_bytes_with header allowed (elements_in bytes views))
  pub written : new ≡ wire_bytes_with header allowed (elements_in bytes views) ++ drop len old
  pub read_back : (rest : List ℕ) →
      IsPacket (wire_bytes_with header allowed (elements_in bytes views) ++ rest) (parts_with header allowed (elements_in bytes views) rest)

-- the header and the block take more than the room
pub record IsTooLongWith (allowed : Option ExtensionsForm) (view : HeaderView) (bytes : List ℕ) (views : List ElementView) (room : ℕ) : Type 0 where
  pub header : RtpHeader
  pub is_given : CanBeWrittenWith allowed view bytes views header
  pub too_long : room < length (wire_bytes_with header allowed (elements_in bytes views))
