-- The elements that C names, and how they are written (RFC 8285, 4.2 and 4.3).
use Rattle.std.specs.Prelude.{◌≡◌, ℕ, ◌+◌, ◌<◌, ◌≤◌, List, ◌++◌, map, length, drop}
use Rattle.std.specs.List.{All}
use Rattle.rtp_ext.specs.declared.form.ExtensionsForm.{ExtensionsForm}
use Rattle.rtp_ext.specs.Elements.{Element, elements_bytes}
use Rattle.rtp_ext.specs.ElementsInARow.{IsWritable}
use Rattle.rtp_c.specs.declared.packet.ElementView.{ElementView}
use Rattle.rtp_c.specs.ElementView.{element_in}

-- the data of the element lie within these bytes
abbrev pub LiesIn : List ℕ → ElementView → Type 0
LiesIn bytes view = view.data_at + view.data_len ≤ length bytes

-- the data of each element lie within these bytes
abbrev pub LieIn : List ℕ → List ElementView → Type 0
LieIn bytes views = All (LiesIn bytes) views

-- the elements, each of the id and the data that are named
abbrev pub elements_in : List ℕ → List ElementView → List Element
elements_in bytes views = map (element_in bytes) views

-- the data of each element lie within these bytes, and the form can carry it
pub record AreWritable (form : ExtensionsForm) (bytes : List ℕ) (views : List ElementView) : Type 0 where
  pub within : LieIn bytes views
  pub carried : All (IsWritable form) (elements_in bytes views)

-- the elements stand at the front of the buffer, and its other bytes are as they were
pub record AreWrittenElements (form : ExtensionsForm) (bytes : List ℕ) (views : List ElementView) (old new : List ℕ) (len : ℕ) : Type 0 where
  pub writable : AreWritable form bytes views
  pub len_is : len ≡ length (elements_bytes form (elements_in bytes views))
  pub written : new ≡ elements_bytes form (elements_in bytes views) ++ drop len old

-- the form can carry the elements, and they take more than the room
pub record AreTooLong (form : ExtensionsForm) (bytes : List ℕ) (views : List ElementView) (room : ℕ) : Type 0 where
  pub writable : AreWritable form bytes views
  pub too_long : room < length (elements_bytes form (elements_in bytes views))
