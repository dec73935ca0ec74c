-- What stands after the sources in the form that X announces, and how long a written header is.
use Rattle.rtp_wire.proofs.Common.{◌≡◌, ℕ, ◌+◌, ◌*◌, ◌%◌, ◌≤◌, List, [], length, Bool, true, false, Some, None, refl, sym, ap, ◌∙◌, subst, arith, ExtensionsForm, ExtensionValues, RtpHeader, Slots, mapped_count, HasNoIdAbove, elements_bytes, no_values, IsExtensionPart, extension_bytes, wire_bytes, carried_image}
use Rattle.rtp_ext.specs.WrittenBlock.{form_of, written_elements, whole_words, image_values, block_bytes}
use Rattle.rtp_ext.proofs.ListingLemmas.{mapped_count-few}
use Rattle.rtp_wire.specs.WrittenInForm.{announced_form, block_bytes_in, IsWithinMap}
use Rattle.rtp_wire.proofs.BlockWriting.{length-block}
use Rattle.rtp_wire.proofs.RoundTrip.{length-wire_bytes}
use Rattle.rtp_wire.proofs.ValuesLemmas.{HasValues-none}

-- X is clear, or it is set
pub announced-clear : (exts : Slots) (extension : Bool) (values : ExtensionValues) → extension ≡ false → None ≡ announced_form exts extension values
announced-clear exts extension values clear = sym (ap (λ (x : Bool). announced_form exts x values) clear)

pub announced-set : (exts : Slots) (extension : Bool) (values : ExtensionValues) (form : ExtensionsForm) → extension ≡ true → Some form ≡ announced_form exts true values
    → Some form ≡ announced_form exts extension values
announced-set exts extension values form set is = is ∙ sym (ap (λ (x : Bool). announced_form exts x values) set)

-- without a form X is clear
pub no_part : (exts : Slots) (extension : Bool) (values : ExtensionValues) → None ≡ announced_form exts extension values → extension_bytes exts extension values ≡ []
no_part exts false values is = refl
no_part exts true values is = cc

pub IsExtensionPart-none : (exts : Slots) (extension : Bool) (values : ExtensionValues) → None ≡ announced_form exts extension values
    → IsExtensionPart exts extension (extension_bytes exts extension values) (carried_image exts extension values)
IsExtensionPart-none exts false values is = record { block = None; is_part = refl; has_values = HasValues-none exts None no_values refl refl }
IsExtensionPart-none exts true values is = cc

-- with a form it is set, and the block is in this form
pub a_part : (exts : Slots) (extension : Bool) (values : ExtensionValues) (form : ExtensionsForm) → Some form ≡ announced_form exts extension values
    → extension_bytes exts extension values ≡ block_bytes_in form exts values
unfolding block_bytes block_bytes_in
a_part exts false values form is = cc
a_part exts true values form is =
    let own : form ≡ form_of exts values = cc in
    ap (λ (f : ExtensionsForm). block_bytes_in f exts values) (sym own)

pub IsExtensionPart-some : (exts : Slots) (extension : Bool) (values : ExtensionValues) (form : ExtensionsForm) → Some form ≡ announced_form exts extension values
    → IsExtensionPart exts true (block_bytes_in form exts values) (image_values exts values)
    → IsExtensionPart exts extension (extension_bytes exts extension values) (carried_image exts extension values)
IsExtensionPart-some exts false values form is part = cc
IsExtensionPart-some exts true values form is part =
    subst (λ (bytes : List ℕ). IsExtensionPart exts true bytes (image_values exts values)) (sym (a_part exts true values form is)) part

-- ---- the length of a header

-- whole words, at most 76 bytes and 257 for each mapped id
pub record IsWithinBounds (exts : Slots) (len : ℕ) : Type 0 where
  pub words : len % 4 ≡ 0
  pub by_map : len ≤ 76 + whole_words (257 * mapped_count exts)
  pub small : HasNoIdAbove 16 exts → len ≤ 4188
  pub bound : len ≤ 65612

words : (exts : Slots) (extension : Bool) (values : ExtensionValues) → length (extension_bytes exts extension values) % 4 ≡ 0
words exts false values = refl
words exts true values =
    let form = form_of exts values in
    omega (arith, ap length (a_part exts true values form refl), length-block form exts values (length (elements_bytes form (written_elements exts values))) refl)

-- a block has at least four bytes
pub least_part : (exts : Slots) (extension : Bool) (values : ExtensionValues) → extension ≡ true → 4 ≤ length (extension_bytes exts extension values)
least_part exts false values set = cc
least_part exts true values set =
    let form = form_of exts values in
    omega (arith, ap length (a_part exts true values form refl), length-block form exts values (length (elements_bytes form (written_elements exts values))) refl)

-- a header whose block is no longer than its map allows
pub wire_len_bounds : (exts : Slots) (h : RtpHeader) → h.csrc_count ≤ 15 → length h.csrc ≡ 15 → IsWithinMap exts (length (extension_bytes exts h.has_extension h.ext_vals))
    → IsWithinBounds exts (length (wire_bytes exts h))
wire_len_bounds exts h count slots few =
    let len = length-wire_bytes exts h (omega (arith, count, slots)) in
    record {
      words = omega (arith, len, words exts h.has_extension h.ext_vals);
      by_map = omega (arith, len, count, few.0);
      small = λ none. omega (arith, len, count, few.0, mapped_count-few 16 exts none);
      bound = omega (arith, len, count, few.1);
    }

-- the length of a header with a block, and its bounds
pub record IsLength (exts : Slots) (h : RtpHeader) (len : ℕ) : Type 0 where
  pub is : len ≡ length (wire_bytes exts h)
  pub bounds : IsWithinBounds exts len

pub length-with_block : (exts : Slots) (h : RtpHeader) (form : ExtensionsForm) (block : ℕ) → h.csrc_count ≤ 15 → length h.csrc ≡ 15
    → Some form ≡ announced_form exts h.has_extension h.ext_vals → block ≡ length (block_bytes_in form exts h.ext_vals) → IsWithinMap exts block
    → IsLength exts h (12 + 4 * h.csrc_count + block)
length-with_block exts h form block count slots form-is block-is few =
    let part = ap length (a_part exts h.has_extension h.ext_vals form form-is) in
    let whole : 12 + 4 * h.csrc_count + block ≡ length (wire_bytes exts h) =
    omega (arith, length-wire_bytes exts h (omega (arith, count, slots)), part, block-is) in
    record {
      is = whole;
      bounds = subst (IsWithinBounds exts) (sym whole) (wire_len_bounds exts h count slots (subst (IsWithinMap exts) (block-is ∙ sym part) few));
    }

-- the same where what is mapped is known by another name
pub length-with_block_of : (ids exts : Slots) (h : RtpHeader) (form : ExtensionsForm) (block : ℕ) → ids ≡ exts → h.csrc_count ≤ 15 → length h.csrc ≡ 15
    → Some form ≡ announced_form ids h.has_extension h.ext_vals → block ≡ length (block_bytes_in form ids h.ext_vals) → IsWithinMap ids block
    → IsLength exts h (12 + 4 * h.csrc_count + block)
length-with_block_of ids exts h form block same count slots form-is block-is few =
    subst (λ (slots : Slots). IsLength slots h (12 + 4 * h.csrc_count + block)) same (length-with_block ids h form block count slots form-is block-is few)
