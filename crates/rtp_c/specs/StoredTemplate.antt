-- A group's header as C keeps it: its length, and where in it the data of the group's elements lie (RFC 8285, 4.2 and 4.3).
use Rattle.std.specs.Prelude.{◌≡◌, ℕ, ◌+◌, ◌≤◌, List, [], ◌∷◌, length, take, slice_index, Option}
use Rattle.std.specs.List.{All}
use Rattle.rtp_route.specs.declared.slots.Slot.{Slot}
use Rattle.rtp_route.specs.Template.{total_of}
use Rattle.rtp_ext.specs.declared.form.ExtensionsForm.{ExtensionsForm}
use Rattle.rtp_c.specs.declared.packet.ElementView.{ElementView}
use Rattle.rtp_c.specs.declared.template.StoredTemplate.{StoredTemplate}
use Rattle.rtp_c.specs.PacketView.{form_number}
use Rattle.rtp_c.specs.WrittenElements.{LieIn}

-- the places where data begin so far in, and are so many
abbrev pub slots_at : List ℕ → List ℕ → List Slot
slots_at [] lens = []
slots_at (start ∷ starts) [] = []
slots_at (start ∷ starts) (len ∷ lens) = record { start = start; len = len } ∷ slots_at starts lens

-- those of the group's elements
abbrev pub slots_of : StoredTemplate → List Slot
slots_of made = take made.count (slots_at made.data_at made.data_len)

-- in a buffer of so many bytes it can be that of a header: there are as many bytes as it has, at most sixteen elements, their data lie in the header, and they are as many as it says
pub record IsInRange (made : StoredTemplate) (size : ℕ) : Type 0 where
  pub few : made.count ≤ 16
  pub there : made.header_len ≤ size
  pub within : All (λ slot. slot.start + slot.len ≤ made.header_len) (slots_of made)
  pub total_is : made.data_total ≡ total_of (slots_of made)

-- from this index on there are zeros alone
abbrev pub AreZeros : List ℕ → ℕ → Type 0
AreZeros xs from = (k : ℕ) → from ≤ k → slice_index xs k ≡ 0

-- after the last place what is stored of places is 0
pub record EndsInZeros (made : StoredTemplate) : Type 0 where
  pub starts : AreZeros made.data_at made.count
  pub lens : AreZeros made.data_len made.count

-- these say which elements a group has: at most sixteen, whose data lie within the bytes, and by its number the form that is allowed
pub record NamesGroup (bytes : List ℕ) (views : List ElementView) (number : ℕ) (form : Option ExtensionsForm) : Type 0 where
  pub form_is : form_number form ≡ number
  pub within : LieIn bytes views
  pub few : length views ≤ 16
