-- What is written, followed by anything, is read as the image of the header.
use Rattle.rtp_wire.proofs.Common.{◌≡◌, ℕ, suc, get_or, ◌+◌, ◌-◌, ◌*◌, ◌^◌, ◌<◌, ◌≤◌, List, [], ◌∷◌, ◌++◌, length, take, drop, refl, sym, ap, ◌∙◌, arith, append_assoc, length-append, length-take-le, Option, map, replicate, slice_index, flat_map, concat, AllByRecursion, w32, to_be_bytes, from_be_bytes, from_be_bytes-to_be_bytes_2, from_be_bytes-to_be_bytes_4, ExtensionMap, Slots, RtpHeader, ExtensionValues, ExtensionsForm, IsExtensionPart, header_of, IsWire, IsFirstByte, IsFixedPart, IsAnnounced, IsPacket, header_len_of, overwritten, overwritten-three}
use Rattle.rtp_wire.proofs.HeaderLemmas.{IsHeaderOf-read}
use Rattle.rtp_wire.proofs.PartsLemmas.{length-announced}
use Rattle.rtp_wire.specs.Written.{fixed_bytes, source_bytes, header_bytes, parts_written, extension_bytes, wire_bytes, carried_image, image_of}
use Rattle.rtp_wire.proofs.GroupLemmas.{AreFours}
use Rattle.rtp_wire.proofs.GroupLemmas.{length-numbers}

-- how large the fields of a header are that can be written
pub record IsInRange (h : RtpHeader) : Type 0 where
  pub payload_type : h.payload_type ≤ 127
  pub count : h.csrc_count ≤ 15
  pub slots : length h.csrc ≡ 15
  pub number : h.sequence_number < 2 ^ 16
  pub timestamp : h.timestamp < 2 ^ 32
  pub ssrc : h.ssrc < 2 ^ 32
  pub sources : AllByRecursion (λ source. source < 2 ^ 32) (take h.csrc_count h.csrc)

-- the sources that count are among the slots
pub sources_within : {count slots : ℕ} → count ≤ 15 → slots ≡ 15 → count ≤ slots
sources_within few fifteen = omega (arith, few, fifteen)

pub length-header_bytes : (h : RtpHeader) (part : List ℕ) → h.csrc_count ≤ length h.csrc → length (header_bytes h part) ≡ 12 + 4 * h.csrc_count + length part
length-header_bytes h part within =
    let sources : length (source_bytes h) ≡ 4 * h.csrc_count =
    length-numbers (take h.csrc_count h.csrc) ∙ ap (λ (k : ℕ). 4 * k) (length-take-le h.csrc_count h.csrc within) in
    omega (arith, length-append (fixed_bytes h) (source_bytes h ++ part), length-append (source_bytes h) part, sources)

pub length-wire_bytes : (exts : Slots) (h : RtpHeader) → h.csrc_count ≤ length h.csrc
    → length (wire_bytes exts h) ≡ 12 + 4 * h.csrc_count + length (extension_bytes exts h.has_extension h.ext_vals)
unfolding wire_bytes
length-wire_bytes exts h within = length-header_bytes h (extension_bytes exts h.has_extension h.ext_vals) within

-- ---- the sources

concat-numbers : (xs : List ℕ) → concat (map (to_be_bytes w32) xs) ≡ flat_map (to_be_bytes w32) xs
concat-numbers [] = refl
concat-numbers (x ∷ xs) = ap (λ (ys : List ℕ). to_be_bytes w32 x ++ ys) (concat-numbers xs)

AreFours-numbers : (xs : List ℕ) → AreFours (map (to_be_bytes w32) xs)
AreFours-numbers [] = tt
AreFours-numbers (x ∷ xs) = (refl, AreFours-numbers xs)

numbers-back : (xs : List ℕ) → AllByRecursion (λ x. x < 2 ^ 32) xs → map (from_be_bytes w32) (map (to_be_bytes w32) xs) ≡ xs
numbers-back [] fits = refl
numbers-back (x ∷ xs) fits =
    ap (λ (y : ℕ). y ∷ map (from_be_bytes w32) (map (to_be_bytes w32) xs)) (from_be_bytes-to_be_bytes_4 x fits.0)
    ∙ ap (λ (ys : List ℕ). x ∷ ys) (numbers-back xs fits.1)

-- numbers that are in range, one by one
pub AllByRecursion-from_each : (xs : List ℕ) → ((i : ℕ) → get_or xs i 0 < 2 ^ 32) → AllByRecursion (λ x. x < 2 ^ 32) xs
AllByRecursion-from_each [] fits = tt
AllByRecursion-from_each (x ∷ xs) fits = (fits 0, AllByRecursion-from_each xs (λ i. fits (suc i)))

-- ---- the header

number : (h : RtpHeader) → IsInRange h → length (take h.csrc_count h.csrc) ≡ h.csrc_count
number h fits = length-take-le h.csrc_count h.csrc (omega (arith, fits.count, fits.slots))

fixed-back : (h : RtpHeader) (block : Option (ExtensionsForm × List ℕ)) (payload : List ℕ) → IsInRange h → IsFixedPart (fixed_bytes h) (parts_written h block payload)
fixed-back h block payload fits = record {
  twelve = refl;
  first_is = rw (number h fits) (record { sum = refl; few = fits.count });
  second_is = record { sum = refl; few = fits.payload_type };
  number_is = sym (from_be_bytes-to_be_bytes_2 h.sequence_number fits.number);
  timestamp_is = sym (from_be_bytes-to_be_bytes_4 h.timestamp fits.timestamp);
  ssrc_is = sym (from_be_bytes-to_be_bytes_4 h.ssrc fits.ssrc);
}

pub packet-written : (h : RtpHeader) (part : List ℕ) (block : Option (ExtensionsForm × List ℕ)) (rest : List ℕ) → IsInRange h
    → IsAnnounced h.has_extension block part → IsPacket (header_bytes h part ++ rest) (parts_written h block rest)
packet-written h part block rest fits announced =
    let sources = take h.csrc_count h.csrc in
    record {
      fixed = fixed_bytes h;
      groups = map (to_be_bytes w32) sources;
      part = part;
      in_order =
          append_assoc (fixed_bytes h) (source_bytes h ++ part) rest
          ∙ ap (λ (ys : List ℕ). fixed_bytes h ++ ys)
          (append_assoc (source_bytes h) part rest ∙ ap (λ (ys : List ℕ). ys ++ (part ++ rest)) (sym (concat-numbers sources)));
      fixed_is = fixed-back h block rest fits;
      sources_are = record { of_four = AreFours-numbers sources; numbers_are = sym (numbers-back sources fits.sources) };
      part_is = announced;
    }

-- the image, by how many sources there are and how long it is
unfoldable image_with : RtpHeader → ExtensionValues → ℕ → ℕ → RtpHeader
image_with h values count len = record h { version = 2; csrc_count = count; csrc = take h.csrc_count h.csrc ++ replicate (15 - count) 0; ext_vals = values; header_len = len }

image-parts : (h : RtpHeader) (exts : Slots) (block : Option (ExtensionsForm × List ℕ)) (rest : List ℕ) → IsInRange h
    → IsAnnounced h.has_extension block (extension_bytes exts h.has_extension h.ext_vals)
    → image_of exts h ≡ header_of (parts_written h block rest) (carried_image exts h.has_extension h.ext_vals)
unfolding image_of image_with
image-parts h exts block rest fits part =
    let values = carried_image exts h.has_extension h.ext_vals in
    let len : length (wire_bytes exts h) ≡ header_len_of (parts_written h block rest) =
    omega (arith, length-wire_bytes exts h (omega (arith, fits.count, fits.slots)), length-announced h.has_extension block (extension_bytes exts h.has_extension h.ext_vals) part, number h fits) in
    ap (λ (k : ℕ). image_with h values k (length (wire_bytes exts h))) (sym (number h fits)) ∙ ap (image_with h values (length (take h.csrc_count h.csrc))) len

pub IsWire-written : (h : RtpHeader) (exts : Slots) (rest : List ℕ) → IsInRange h
    → IsExtensionPart exts h.has_extension (extension_bytes exts h.has_extension h.ext_vals) (carried_image exts h.has_extension h.ext_vals)
    → IsWire exts (wire_bytes exts h ++ rest) (image_of exts h)
unfolding wire_bytes image_of
IsWire-written h exts rest fits part =
    let values = carried_image exts h.has_extension h.ext_vals in
    record {
      parts = parts_written h part.block rest;
      is_packet = packet-written h (extension_bytes exts h.has_extension h.ext_vals) part.block rest fits part.is_part;
      no_other = refl;
      is_header = IsHeaderOf-read exts (parts_written h part.block rest) values values (image_of exts h) (image-parts h exts part.block rest fits part.is_part) part.has_values;
    }

-- V, P, X and CC in the first byte
pub IsFirstByte-written : (h : RtpHeader) (exts : ExtensionMap) (bytes rest : List ℕ) → bytes ≡ wire_bytes exts h ++ rest → h.csrc_count ≤ 15
    → IsFirstByte (slice_index bytes 0) h.has_padding h.has_extension h.csrc_count
unfolding wire_bytes
IsFirstByte-written h exts bytes rest is few = record { sum = ap (λ (xs : List ℕ). slice_index xs 0) is; few = few }

-- the pieces that are put one after the other are the written header
pub header_bytes-from_pieces : (h : RtpHeader) (part buf one two three fixed : List ℕ) (first second third : ℕ)
    → h.csrc_count ≤ length h.csrc → length (header_bytes h part) ≤ length buf → fixed ≡ fixed_bytes h
    → one ≡ overwritten buf 0 fixed → first ≡ 0 + length fixed
    → two ≡ overwritten one first (source_bytes h) → second ≡ first + 4 * length (take h.csrc_count h.csrc)
    → three ≡ overwritten two second part → third ≡ second + length part
    → (third ≡ length (header_bytes h part)) × (three ≡ header_bytes h part ++ drop third buf)
header_bytes-from_pieces h part buf one two three fixed first second third within room fixed-is one-is first-is two-is second-is three-is third-is =
    let sources = take h.csrc_count h.csrc in
    let len = length-header_bytes h part within in
    let twelve : length fixed ≡ 12 = ap length fixed-is in
    let number : length sources ≡ h.csrc_count = length-take-le h.csrc_count h.csrc within in
    let bytes-len : length (source_bytes h) ≡ 4 * length sources = length-numbers sources in
    let end : third ≡ length (header_bytes h part) = omega arith in
    let put : three ≡ header_bytes h part ++ drop (length (header_bytes h part)) buf =
    three-is ∙ rw (two-is, one-is, fixed-is)
    (overwritten-three buf (fixed_bytes h) (source_bytes h) part first second (omega arith) (omega arith) (omega arith)) in
    (end, put ∙ ap (λ (k : ℕ). header_bytes h part ++ drop k buf) (sym end))

-- the same for a header under a map
pub wire_bytes-from_pieces : (h : RtpHeader) (exts : Slots) (buf one two three fixed : List ℕ) (first second third : ℕ)
    → h.csrc_count ≤ length h.csrc → length (wire_bytes exts h) ≤ length buf → fixed ≡ fixed_bytes h
    → one ≡ overwritten buf 0 fixed → first ≡ 0 + length fixed
    → two ≡ overwritten one first (source_bytes h) → second ≡ first + 4 * length (take h.csrc_count h.csrc)
    → three ≡ overwritten two second (extension_bytes exts h.has_extension h.ext_vals) → third ≡ second + length (extension_bytes exts h.has_extension h.ext_vals)
    → (third ≡ length (wire_bytes exts h)) × (three ≡ wire_bytes exts h ++ drop third buf)
unfolding wire_bytes
wire_bytes-from_pieces h exts = header_bytes-from_pieces h (extension_bytes exts h.has_extension h.ext_vals)
