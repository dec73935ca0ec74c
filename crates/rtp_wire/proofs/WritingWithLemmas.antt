-- A header and a block of any elements, as they are written.
use Rattle.rtp_wire.proofs.Common.{◌≡◌, ◌⊎◌, ℕ, ◌+◌, ◌-◌, ◌*◌, ◌≤◌, ◌<◌, List, ◌++◌, length, take, drop, Option, Some, refl, sym, ap, ◌∙◌, subst, arith, inl, inr, length-take-le, ExtensionsForm, Element, elements_bytes, filled, block_of, overwritten, length-overwritten, overwritten-rest, RtpHeader, IsPacket, fixed_bytes, source_bytes, header_bytes}
use Rattle.rtp_ext.specs.ElementsInARow.{form_given, AreWritableIn, AreNotWritableIn}
use Rattle.rtp_ext.proofs.ServingFormLemmas.{AreNotWritableIn-not}
use Rattle.rtp_wire.specs.WrittenWith.{with_block, body_with, wire_bytes_with, parts_with, CannotBeWrittenWith, large_payload_type, many_sources, no_block, short_room}
use Rattle.rtp_wire.proofs.BlockWriting.{length-block_of, IsBlock-made}
use Rattle.rtp_wire.proofs.GroupLemmas.{length-numbers}
use Rattle.rtp_wire.proofs.RoundTrip.{IsInRange, length-header_bytes, header_bytes-from_pieces, packet-written}

-- the block in a form
abbrev pub block_in : ExtensionsForm → List Element → List ℕ
block_in form elements = block_of form (filled (elements_bytes form elements))

length-wire_bytes_with : (h : RtpHeader) (allowed : Option ExtensionsForm) (elements : List Element) → h.csrc_count ≤ length h.csrc
    → length (wire_bytes_with h allowed elements) ≡ 12 + 4 * h.csrc_count + length (block_in (form_given allowed elements) elements)
unfolding wire_bytes_with
length-wire_bytes_with h allowed elements within = length-header_bytes (with_block h) (block_in (form_given allowed elements) elements) within

-- where there is no block, or no room for it after the sources
pub CannotBeWrittenWith-refused : (h : RtpHeader) (allowed : Option ExtensionsForm) (elements : List Element) (room left : ℕ) → h.csrc_count ≤ length h.csrc → left ≡ room - (12 + 4 * h.csrc_count)
    → AreNotWritableIn (form_given allowed elements) elements 262140 ⊎ (left < length (block_in (form_given allowed elements) elements)) → CannotBeWrittenWith h allowed elements room
CannotBeWrittenWith-refused h allowed elements room left within left-is (inl cannot) = no_block cannot
CannotBeWrittenWith-refused h allowed elements room left within left-is (inr short) = short_room (omega (arith, length-wire_bytes_with h allowed elements within))

-- a header that can be written, and the form of the block that has room
pub record CanBeWrittenWith (h : RtpHeader) (allowed : Option ExtensionsForm) (elements : List Element) (room left : ℕ) (form : ExtensionsForm) : Type 0 where
  pub payload_type : h.payload_type ≤ 127
  pub count : h.csrc_count ≤ 15
  pub slots : length h.csrc ≡ 15
  pub left_is : left ≡ room - (12 + 4 * h.csrc_count)
  pub form_is : form ≡ form_given allowed elements
  pub fit : AreWritableIn form elements 262140
  pub block_fits : length (block_in form elements) ≤ left

length-in_form : (allowed : Option ExtensionsForm) (elements : List Element) (form : ExtensionsForm) → form ≡ form_given allowed elements → length (block_in form elements) ≡ length (block_in (form_given allowed elements) elements)
length-in_form allowed elements form is = ap (λ (f : ExtensionsForm). length (block_in f elements)) is

-- the block has its four bytes, so there is room for all that stands before it
has_room : (h : RtpHeader) (allowed : Option ExtensionsForm) (elements : List Element) (room left : ℕ) (form : ExtensionsForm) → CanBeWrittenWith h allowed elements room left form
    → 12 + 4 * h.csrc_count + length (block_in form elements) ≤ room
has_room h allowed elements room left form can =
    let four = length-block_of form (elements_bytes form elements) (length (elements_bytes form elements)) refl in
    omega (arith, can.left_is, can.block_fits, four)

pub CannotBeWrittenWith-not : (h : RtpHeader) (allowed : Option ExtensionsForm) (elements : List Element) (room left : ℕ) (form : ExtensionsForm) → CanBeWrittenWith h allowed elements room left form
    → CannotBeWrittenWith h allowed elements room → ⊥
CannotBeWrittenWith-not h allowed elements room left form can (large_payload_type large) = let few = can.payload_type in omega arith
CannotBeWrittenWith-not h allowed elements room left form can (many_sources many) = let few = can.count in omega arith
CannotBeWrittenWith-not h allowed elements room left form can (no_block cannot) =
    AreNotWritableIn-not elements 262140 form can.fit (subst (λ (f : ExtensionsForm). AreNotWritableIn f elements 262140) (sym can.form_is) cannot)
CannotBeWrittenWith-not h allowed elements room left form can (short_room short) =
    let within : h.csrc_count ≤ length h.csrc = omega (arith, can.count, can.slots) in
    omega (arith, short, has_room h allowed elements room left form can, length-in_form allowed elements form can.form_is, length-wire_bytes_with h allowed elements within)

-- the fixed part, the sources and the block, put one after the other
pub record ArePut (h : RtpHeader) (elements : List Element) (form : ExtensionsForm) (buf one two new fixed : List ℕ) (first second n : ℕ) : Type 0 where
  pub fixed_is : fixed ≡ fixed_bytes (with_block h)
  pub one_is : one ≡ overwritten buf 0 fixed
  pub first_is : first ≡ 0 + length fixed
  pub two_is : two ≡ overwritten one first (source_bytes h)
  pub second_is : second ≡ first + 4 * length (take h.csrc_count h.csrc)
  pub new_is : new ≡ block_in form elements ++ drop n (take (length two - second) (drop second two))
  pub n_is : n ≡ length (block_in form elements)

pub wire_bytes_with-from_pieces : (h : RtpHeader) (allowed : Option ExtensionsForm) (elements : List Element) (left : ℕ) (form : ExtensionsForm) (buf one two new fixed : List ℕ) (first second n : ℕ)
    → CanBeWrittenWith h allowed elements (length buf) left form → ArePut h elements form buf one two new fixed first second n
    → (second + n ≡ length (wire_bytes_with h allowed elements)) × (take second two ++ (new ++ drop (length two - second) (drop second two)) ≡ wire_bytes_with h allowed elements ++ drop (second + n) buf)
unfolding wire_bytes_with
wire_bytes_with-from_pieces h allowed elements left form buf one two new fixed first second n can are =
    let block = block_in form elements in
    let room = has_room h allowed elements (length buf) left form can in
    let within : h.csrc_count ≤ length h.csrc = omega (arith, can.count, can.slots) in
    let number = length-take-le h.csrc_count h.csrc within in
    let sources = length-numbers (take h.csrc_count h.csrc) in
    let twelve : length fixed ≡ 12 = ap length are.fixed_is in
    let one-len : length one ≡ length buf = ap length are.one_is ∙ length-overwritten buf fixed 0 (omega (arith, room, twelve)) in
    let two-len : length two ≡ length buf =
    ap length are.two_is ∙ (length-overwritten one (source_bytes h) first (omega (arith, room, twelve, one-len, are.first_is, number, sources)) ∙ one-len) in
    let put : take second two ++ (new ++ drop (length two - second) (drop second two)) ≡ overwritten two second block =
    overwritten-rest two new block second (omega (arith, room, twelve, two-len, are.first_is, are.second_is, number))
    (are.new_is ∙ ap (λ (k : ℕ). block ++ drop k (take (length two - second) (drop second two))) are.n_is) in
    let same : block ≡ block_in (form_given allowed elements) elements = ap (λ (f : ExtensionsForm). block_in f elements) can.form_is in
    let fits : length (header_bytes (with_block h) block) ≤ length buf = omega (arith, room, length-header_bytes (with_block h) block within) in
    let all = header_bytes-from_pieces (with_block h) block buf one two (take second two ++ (new ++ drop (length two - second) (drop second two))) fixed first second (second + n)
    within fits are.fixed_is are.one_is are.first_is are.two_is are.second_is put (ap (λ (k : ℕ). second + k) are.n_is) in (
      all.0 ∙ ap (λ (part : List ℕ). length (header_bytes (with_block h) part)) same,
      all.1 ∙ ap (λ (part : List ℕ). header_bytes (with_block h) part ++ drop (second + n) buf) same,
    )

-- a packet of the header's fields and this block
pub IsPacket-written_with : (h : RtpHeader) (allowed : Option ExtensionsForm) (elements : List Element) (form : ExtensionsForm) (rest : List ℕ) → IsInRange (with_block h) → form ≡ form_given allowed elements
    → AreWritableIn form elements 262140 → IsPacket (wire_bytes_with h allowed elements ++ rest) (parts_with h allowed elements rest)
unfolding wire_bytes_with
IsPacket-written_with h allowed elements form rest fits form-is fit =
    let few : length (elements_bytes (form_given allowed elements) elements) ≤ 262140 = omega (arith, fit.bytes_fit, ap (λ (f : ExtensionsForm). length (elements_bytes f elements)) form-is) in
    packet-written (with_block h) (block_in (form_given allowed elements) elements) (Some (form_given allowed elements, body_with allowed elements)) rest fits
    (IsBlock-made (form_given allowed elements) (elements_bytes (form_given allowed elements) elements) few)
