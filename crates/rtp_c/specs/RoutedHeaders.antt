-- The headers that receivers of a packet get, one after another, in a buffer of C's (RFC 7667, 3.7; RFC 8285, 5), also those of retransmissions (RFC 4588, 4).
use Rattle.std.specs.Prelude.{◌≡◌, ◌≢◌, ℕ, ◌+◌, ◌≤◌, ◌<◌, List, [], ◌∷◌, length, take, if◌then◌else◌, false, Option, ℤ}
use Rattle.std.specs.List.{All}
use Rattle.rtp_base.specs.Overwriting.{overwritten}
use Rattle.rtp_ext.specs.declared.form.ExtensionsForm.{ExtensionsForm}
use Rattle.rtp_ext.specs.Elements.{Element}
use Rattle.rtp_wire.specs.declared.packet.fields.Fields.{Fields}
use Rattle.rtp_wire.specs.Packet.{PacketParts, IsPacket}
use Rattle.rtp_route.specs.declared.slots.Slot.{Slot}
use Rattle.rtp_route.specs.GroupHeader.{IsGroupHeader, IsFilledIn}
use Rattle.rtp_route.specs.Retransmitted.{without_padding, IsRoutedAgain, IsFilledInAgain}
use Rattle.rtp_route.specs.Routing.{IsRouted}
use Rattle.rtp_route.specs.Template.{slot_lengths, total_of, pieces, with_data}
use Rattle.rtp_c.specs.declared.template.StoredTemplate.{StoredTemplate}
use Rattle.rtp_c.specs.declared.routed_headers.RoutedHeader.{RoutedHeader}
use Rattle.rtp_c.specs.Given.{is_nonzero}
use Rattle.rtp_c.specs.PacketView.{slice_at}
use Rattle.rtp_c.specs.SetFields.{fields_given, CanBeSet}
use Rattle.rtp_c.specs.Status.{ok, short_buffer, bad_field, IsCauseStatus}
use Rattle.rtp_c.specs.StoredTemplate.{IsInRange}

-- the header that a template is stored of
abbrev pub header_in : StoredTemplate → List ℕ → List ℕ
header_in made bytes = take made.header_len bytes

-- these bytes are a packet without a payload
pub record IsHeaderAlone (bytes : List ℕ) : Type 0 where
  pub parts : PacketParts
  pub is_packet : IsPacket bytes parts
  pub no_payload : parts.payload ≡ []

-- a template and a header from which headers are written
pub record IsWholeTemplate (made : StoredTemplate) (bytes : List ℕ) : Type 0 where
  pub in_range : IsInRange made (length bytes)
  pub is_header : IsHeaderAlone (header_in made bytes)

-- the status of why they are none
pub data IsTemplateStatus (made : StoredTemplate) (bytes : List ℕ) (status : ℤ) : Type 0 where
  out_of_range : (IsInRange made (length bytes) → ⊥) → status ≡ bad_field → IsTemplateStatus made bytes status
  no_packet : IsInRange made (length bytes) → IsCauseStatus (header_in made bytes) status → IsTemplateStatus made bytes status
  payload : (parts : PacketParts) → IsInRange made (length bytes) → IsPacket (header_in made bytes) parts → parts.payload ≢ [] → status ≡ bad_field → IsTemplateStatus made bytes status

-- the header with these fields and data at the places: where it was made of a packet for a group, it is that packet's for a receiver with these fields and data
pub record IsReceivers (header : List ℕ) (slots : List Slot) (fields : Fields) (contents : List (List ℕ)) (new : List ℕ) : Type 0 where
  pub filled : IsFilledIn header slots fields contents new
  pub routed : (old : List ℕ) (ids : ℕ → Option ℕ) (news : List Element) (allowed : Option ExtensionsForm)
      → IsGroupHeader old ids news allowed header slots → IsRouted old fields ids (with_data news contents) allowed new

-- the same for a retransmission of the packet of this number: P is clear, and the number is behind the header
pub record IsReceiversAgain (header : List ℕ) (slots : List Slot) (fields : Fields) (number : ℕ) (contents : List (List ℕ)) (new : List ℕ) : Type 0 where
  pub filled : IsFilledInAgain header slots fields number contents new
  pub routed : (old : List ℕ) (ids : ℕ → Option ℕ) (news : List Element) (allowed : Option ExtensionsForm)
      → IsGroupHeader old ids news allowed header slots → IsRoutedAgain old fields number ids (with_data news contents) allowed new

-- the same with P clear, before a payload that is sent without its padding: of a packet each other part stays
pub record IsReceiversUnpadded (header : List ℕ) (slots : List Slot) (fields : Fields) (contents : List (List ℕ)) (new : List ℕ) : Type 0 where
  pub own : List ℕ
  pub receivers : IsReceivers header slots fields contents own
  pub bytes_are : new ≡ without_padding own
  pub is_packet : (parts : PacketParts) → IsPacket own parts → IsPacket new (record parts { has_padding = false })

-- the fields of a receiver can be set, and its data lie within these bytes
pub record IsServed (slots : List Slot) (bytes : List ℕ) (receiver : RoutedHeader) : Type 0 where
  pub fields : CanBeSet receiver.fields
  pub within : receiver.data_at + total_of slots ≤ length bytes

-- the data of a receiver, one for each place
abbrev pub data_of : List Slot → List ℕ → RoutedHeader → List (List ℕ)
data_of slots bytes receiver = pieces (slot_lengths slots) (slice_at bytes receiver.data_at (total_of slots))

-- how many bytes a receiver gets: those of the header, and of a retransmission two more
abbrev pub len_for : List ℕ → RoutedHeader → ℕ
len_for header receiver = length header + (if is_nonzero receiver.is_retransmission then 2 else 0)

-- what a receiver gets: its header, that with P clear, or that of its retransmission
pub record Gets (header : List ℕ) (slots : List Slot) (bytes : List ℕ) (receiver : RoutedHeader) (own : List ℕ) : Type 0 where
  pub packet : receiver.is_retransmission ≡ 0 → receiver.clears_padding ≡ 0 → IsReceivers header slots (fields_given receiver.fields) (data_of slots bytes receiver) own
  pub unpadded : receiver.is_retransmission ≡ 0 → 0 < receiver.clears_padding → IsReceiversUnpadded header slots (fields_given receiver.fields) (data_of slots bytes receiver) own
  pub retransmission : 0 < receiver.is_retransmission → IsReceiversAgain header slots (fields_given receiver.fields) receiver.original_number (data_of slots bytes receiver) own

-- a retransmission with these data, of so many bytes, stands at this place in the buffer, and all other bytes are as they were
pub record IsWrittenAgain (header : List ℕ) (slots : List Slot) (contents : List ℕ) (receiver : RoutedHeader) (at len : ℕ) (buf after : List ℕ) : Type 0 where
  pub len_is : len ≡ length header + 2
  pub within : at + len ≤ length buf
  pub own : List ℕ
  pub again : IsReceiversAgain header slots (fields_given receiver.fields) receiver.original_number (pieces (slot_lengths slots) contents) own
  pub after_is : after ≡ overwritten buf at own

-- what a receiver gets, of so many bytes, stands at this place in the buffer, and all other bytes are as they were
pub record IsWrittenAt (header : List ℕ) (slots : List Slot) (bytes : List ℕ) (receiver : RoutedHeader) (at len : ℕ) (buf after : List ℕ) : Type 0 where
  pub served : IsServed slots bytes receiver
  pub len_is : len ≡ len_for header receiver
  pub within : at + len ≤ length buf
  pub own : List ℕ
  pub gets : Gets header slots bytes receiver own
  pub after_is : after ≡ overwritten buf at own

-- why a receiver gets nothing at this place of a buffer of so many bytes
pub record IsRefusedAt (header : List ℕ) (slots : List Slot) (bytes : List ℕ) (receiver : RoutedHeader) (at size : ℕ) (status : ℤ) : Type 0 where
  pub served : IsServed slots bytes receiver → (status ≡ short_buffer) × (size < at + len_for header receiver)
  pub bad : (IsServed slots bytes receiver → ⊥) → status ≡ bad_field

-- what a receiver gets stands at this place in the buffer, and all other bytes are as they were; where it has no room there, or can't be served, all are, and it takes none
pub record IsHeaderWritten (header : List ℕ) (slots : List Slot) (bytes : List ℕ) (at : ℕ) (old new : RoutedHeader) (buf after : List ℕ) : Type 0 where
  pub given_is : new ≡ record old { at = at; status = new.status; len = new.len }
  pub written : IsServed slots bytes old → at + len_for header old ≤ length buf →
      (new.status ≡ ok) × (new.len ≡ len_for header old) × ((own : List ℕ) × Gets header slots bytes old own × (after ≡ overwritten buf at own))
  pub short : IsServed slots bytes old → length buf < at + len_for header old → new.status ≡ short_buffer
  pub refused : (IsServed slots bytes old → ⊥) → new.status ≡ bad_field
  pub unchanged : new.status ≢ ok → (new.len ≡ 0) × (after ≡ buf)

-- so for each of the receivers, from this place on: each begins where the one before it ends
abbrev pub AreHeadersWritten : List ℕ → List Slot → List ℕ → ℕ → List RoutedHeader → List RoutedHeader → List ℕ → List ℕ → Type 0
AreHeadersWritten header slots bytes at [] [] buf after = after ≡ buf
AreHeadersWritten header slots bytes at (old ∷ olds) (new ∷ news) buf after =
    (next : List ℕ) × IsHeaderWritten header slots bytes at old new buf next × AreHeadersWritten header slots bytes (at + new.len) olds news next after
AreHeadersWritten header slots bytes at _ _ buf after = ⊥

-- no two of these headers overlap: none begins before one ahead of it ends
abbrev pub AreApart : List RoutedHeader → Type 0
AreApart [] = Unit {0}
AreApart (one ∷ others) = All (λ other. one.at + one.len ≤ other.at) others × AreApart others

-- this header ends within so many bytes
abbrev pub EndsWithin : ℕ → RoutedHeader → Type 0
EndsWithin size receiver = receiver.at + receiver.len ≤ size
