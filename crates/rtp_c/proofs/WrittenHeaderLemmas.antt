-- The header that C gives, as it is written.
use Rattle.std.proofs.Common.{◌≡◌, ℕ, ℤ, w32, to_z, of_z, ◌<◌, ◌≤◌, List, ◌++◌, length, length-append, drop, Option, inl, inr, refl, sym, ap, ◌∙◌, subst, arith}
use Rattle.rtp_ext.specs.declared.form.ExtensionsForm.{ExtensionsForm}
use Rattle.rtp_ext.specs.Elements.{Element}
use Rattle.rtp_ext.specs.ExtensionMap.{Slots}
use Rattle.rtp_ext.specs.ElementsInARow.{form_given, AreNotWritableIn}
use Rattle.rtp_values.specs.declared.value.values.ExtensionValues.{ExtensionValues}
use Rattle.rtp_wire.specs.declared.header.rtp_header.RtpHeader.{RtpHeader}
use Rattle.rtp_wire.specs.Packet.{IsPacket}
use Rattle.rtp_wire.specs.Written.{wire_bytes, with_values, CannotBeWritten, large_payload_type as large_type, many_sources as many, short_room as short}
use Rattle.rtp_wire.specs.WrittenWith.{wire_bytes_with, parts_with, CannotBeWrittenWith, large_payload_type, many_sources, no_block, short_room}
use Rattle.rtp_c.specs.declared.header.HeaderView.{HeaderView}
use Rattle.rtp_c.specs.declared.packet.ElementView.{ElementView}
use Rattle.rtp_c.specs.Given.{AreGivenFields, AreGivenValues, IsGivenHeader}
use Rattle.rtp_c.specs.WrittenElements.{LieIn, elements_in}
use Rattle.rtp_c.specs.Status.{ok, short_buffer, bad_field}
use Rattle.rtp_c.specs.WrittenHeader.{IsToBeWritten, IsWrittenHeader, IsTooLong, WritesHeader, CanBeWrittenWith, IsWrittenWith, IsTooLongWith}
use Rattle.rtp_c.proofs.StatusLemmas.{bad_field≢ok, short_buffer≢ok, short_buffer≢bad_field}
use Rattle.rtp_c.proofs.WritingLemmas.{passed_on}

-- headers of the same fields are written as the same bytes
wire_bytes_with-given : (allowed : Option ExtensionsForm) (view : HeaderView) (elements : List Element) (h k : RtpHeader)
    → AreGivenFields view h → AreGivenFields view k → wire_bytes_with h allowed elements ≡ wire_bytes_with k allowed elements
unfolding wire_bytes_with
wire_bytes_with-given allowed view elements h k a b =
    rw (
      a.padding_is,
      a.count_is,
      a.marker_is,
      a.payload_type_is,
      a.number_is,
      a.timestamp_is,
      a.ssrc_is,
      a.sources_are,
      b.padding_is,
      b.count_is,
      b.marker_is,
      b.payload_type_is,
      b.number_is,
      b.timestamp_is,
      b.ssrc_is,
      b.sources_are,
    ) refl

-- the header that is given, and the elements that are named
pub record AreNamed (view : HeaderView) (bytes : List ℕ) (views : List ElementView) (elements : List Element) (header : RtpHeader) : Type 0 where
  pub fields : AreGivenFields view header
  pub within : LieIn bytes views
  pub named : elements ≡ elements_in bytes views

module _ (allowed : Option ExtensionsForm) (view : HeaderView) (bytes : List ℕ) (views : List ElementView) (elements : List Element) (header : RtpHeader) (is : AreNamed view bytes views elements header) where
  pub CanBeWrittenWith-named : (AreNotWritableIn (form_given allowed elements) elements 262140 → ⊥) → CanBeWrittenWith allowed view bytes views header
  CanBeWrittenWith-named in_a_row = record {
    fields = is.fields;
    within = is.within;
    in_a_row = subst (λ (es : List Element). AreNotWritableIn (form_given allowed es) es 262140 → ⊥) is.named in_a_row;
  }

  pub IsWrittenWith-named : (old new : List ℕ) (len : ℕ) → (AreNotWritableIn (form_given allowed elements) elements 262140 → ⊥)
      → len ≡ length (wire_bytes_with header allowed elements) → new ≡ wire_bytes_with header allowed elements ++ drop len old
      → ((rest : List ℕ) → IsPacket (wire_bytes_with header allowed elements ++ rest) (parts_with header allowed elements rest))
      → IsWrittenWith allowed view bytes views old new len
  IsWrittenWith-named old new len in_a_row len-is written read_back = record {
    header = header;
    is_given = CanBeWrittenWith-named in_a_row;
    len_is = len-is ∙ ap (λ (es : List Element). length (wire_bytes_with header allowed es)) is.named;
    written = written ∙ ap (λ (es : List Element). wire_bytes_with header allowed es ++ drop len old) is.named;
    read_back = λ rest.
        subst (λ (es : List Element). IsPacket (wire_bytes_with header allowed es ++ rest) (parts_with header allowed es rest)) is.named (read_back rest);
  }

  only_room : (room : ℕ) → (AreNotWritableIn (form_given allowed elements) elements 262140 → ⊥) → CannotBeWrittenWith header allowed elements room
      → room < length (wire_bytes_with header allowed elements)
  only_room room in_a_row (large_payload_type above) = absurd (omega (arith, above, is.fields.payload_type_is, is.fields.payload_type_fits))
  only_room room in_a_row (many_sources above) = absurd (omega (arith, above, is.fields.count_is, is.fields.few_sources))
  only_room room in_a_row (no_block none) = absurd (in_a_row none)
  only_room room in_a_row (short_room lt) = lt

  pub IsTooLongWith-named : (room : ℕ) → (AreNotWritableIn (form_given allowed elements) elements 262140 → ⊥) → CannotBeWrittenWith header allowed elements room
      → IsTooLongWith allowed view bytes views room
  IsTooLongWith-named room in_a_row refused = record {
    header = header;
    is_given = CanBeWrittenWith-named in_a_row;
    too_long = subst (λ (es : List Element). room < length (wire_bytes_with header allowed es)) is.named (only_room room in_a_row refused);
  }

  pub IsTooLongWith-not : (room : ℕ) → (CannotBeWrittenWith header allowed elements room → ⊥) → IsTooLongWith allowed view bytes views room → ⊥
  IsTooLongWith-not room can too =
      can (short_room (subst (λ (es : List Element). room < length (wire_bytes_with header allowed es)) (sym is.named)
      (subst (λ (b : List ℕ). room < length b) (wire_bytes_with-given allowed view (elements_in bytes views) too.header header too.is_given.fields is.fields) too.too_long)))

-- a header for which only the room is short
pub IsTooLong-refused : (numbers : List ℕ) (IsGiven : RtpHeader → Type 0) (slots : Slots) (header : RtpHeader) (room : ℕ) → IsToBeWritten numbers IsGiven slots header
    → header.payload_type ≤ 127 → header.csrc_count ≤ 15 → CannotBeWritten slots header room → IsTooLong numbers IsGiven room
IsTooLong-refused numbers IsGiven slots header room is type_fits few_sources refused =
    record { slots = slots; header = header; is_given = is; too_long = only refused }
  where
    only : CannotBeWritten slots header room → room < length (wire_bytes slots header)
    only (large_type above) = absurd (omega (arith, above, type_fits))
    only (many above) = absurd (omega (arith, above, few_sources))
    only (short lt) = lt

-- the given fields are those that a header can have
pub type_fits : (view : HeaderView) (header : RtpHeader) → AreGivenFields view header → header.payload_type ≤ 127
type_fits view header fields = omega (arith, fields.payload_type_is, fields.payload_type_fits)

pub few_sources : (view : HeaderView) (header : RtpHeader) → AreGivenFields view header → header.csrc_count ≤ 15
few_sources view header fields = omega (arith, fields.count_is, fields.few_sources)

-- fields that are given, with values that are given
pub IsGivenHeader-with : (view : HeaderView) (header : RtpHeader) (values : ExtensionValues) → AreGivenFields view header → AreGivenValues view.values values
    → IsGivenHeader view (with_values header values)
IsGivenHeader-with view header values fields are = record {
  fields = record {
    padding_is = fields.padding_is;
    extension_is = fields.extension_is;
    marker_is = fields.marker_is;
    payload_type_is = fields.payload_type_is;
    payload_type_fits = fields.payload_type_fits;
    number_is = fields.number_is;
    timestamp_is = fields.timestamp_is;
    ssrc_is = fields.ssrc_is;
    count_is = fields.count_is;
    few_sources = fields.few_sources;
    sources_are = fields.sources_are;
  };
  values = are;
}

-- ---- what writing the header comes to

module _ {numbers : List ℕ} {IsGiven : RtpHeader → Type 0} {old : List ℕ} {old_len : ℕ} where
  pub WritesHeader-written : {new : List ℕ} {len : ℕ} → IsWrittenHeader numbers IsGiven old new len → WritesHeader numbers IsGiven old new old_len len ok
  WritesHeader-written {new} {len} is = record {
    written = λ _. is;
    within = λ _. omega (arith, is.len_is, ap length is.written, length-append (wire_bytes is.slots is.header) (drop len old));
    short = λ same. absurd (short_buffer≢ok (sym same));
    is_bad = (λ same. absurd (bad_field≢ok (sym same)), λ none. absurd (none is.header is.is_given.is_given));
    statuses = inl refl;
    unchanged = λ not. absurd (not refl);
  }

  pub WritesHeader-short : IsTooLong numbers IsGiven (length old) → WritesHeader numbers IsGiven old old old_len old_len short_buffer
  WritesHeader-short too = record {
    written = λ same. absurd (short_buffer≢ok same);
    within = λ same. absurd (short_buffer≢ok same);
    short = λ _. too;
    is_bad = (λ same. absurd (short_buffer≢bad_field same), λ none. absurd (none too.header too.is_given.is_given));
    statuses = inr (inl refl);
    unchanged = λ _. (refl, refl);
  }

  pub WritesHeader-bad : ((header : RtpHeader) → IsGiven header → ⊥) → WritesHeader numbers IsGiven old old old_len old_len bad_field
  WritesHeader-bad none = record {
    written = λ same. absurd (bad_field≢ok same);
    within = λ same. absurd (bad_field≢ok same);
    short = λ same. absurd (short_buffer≢bad_field (sym same));
    is_bad = (λ _. none, λ _. refl);
    statuses = inr (inr refl);
    unchanged = λ _. (refl, refl);
  }

  -- the same of a status that is passed on
  pub WritesHeader-passed : {new : List ℕ} {new_len : ℕ} {status : ℤ} → WritesHeader numbers IsGiven old new old_len new_len status
      → WritesHeader numbers IsGiven old new old_len new_len (to_z w32 (of_z w32 status))
  WritesHeader-passed {new} {new_len} {status} writes = subst (WritesHeader numbers IsGiven old new old_len new_len) (passed_on status writes.statuses) writes
