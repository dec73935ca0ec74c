-- A color space (WebRTC's color-space): code points of H.273, range and siting in four bytes, and HDR metadata in 24 more.
use Rattle.std.specs.Prelude.{◌==◌, if◌then◌else◌, ℕ, ◌+◌, ◌*◌, ◌/◌, ◌%◌, List, [], ◌∷◌, ◌++◌, length, drop, slice_index, slice_range, Option, Some, None}
use Rattle.rtp_values.specs.Values.{big_endian}
use Rattle.rtp_values.specs.Spelling.{bytes_of_number}
use Rattle.rtp_values.specs.declared.standard.color_space.ColorRange.{ColorRange}
use Rattle.rtp_values.specs.declared.standard.color_space.ColorRange.TheVariants.{Unknown, Limited, Full, Derived}
use Rattle.rtp_values.specs.declared.standard.color_space.ChromaSiting.{ChromaSiting}
use Rattle.rtp_values.specs.declared.standard.color_space.ChromaSiting.TheVariants.{Unspecified, Collocated, Half}
use Rattle.rtp_values.specs.declared.standard.color_space.ColorSpace.{ColorSpace}
use Rattle.rtp_values.specs.declared.standard.color_space.Chromaticity.{Chromaticity}
use Rattle.rtp_values.specs.declared.standard.color_space.HdrMetadata.{HdrMetadata}

-- the numbers of the ranges, in two bits
abbrev pub range_number : ColorRange → ℕ
range_number Unknown = 0
range_number Limited = 1
range_number Full = 2
range_number Derived = 3

abbrev pub range_in : ℕ → ColorRange
range_in number = if number == 1 then Limited else if number == 2 then Full else if number == 3 then Derived else Unknown

-- the numbers of the sitings, in two bits; 3 is none
abbrev pub siting_number : ChromaSiting → ℕ
siting_number Unspecified = 0
siting_number Collocated = 1
siting_number Half = 2

abbrev pub siting_in : ℕ → ChromaSiting
siting_in number = if number == 1 then Collocated else if number == 2 then Half else Unspecified

-- the fourth byte: two bits that say nothing, the range, and the sitings from left to right and from top to bottom
abbrev pub sampling_byte : ColorSpace → ℕ
sampling_byte c = range_number c.range * 16 + siting_number c.horizontal * 4 + siting_number c.vertical

-- the number in the two bytes from an offset on, and the point in the four
abbrev pub number_at : ℕ → List ℕ → ℕ
number_at offset bytes = big_endian (slice_range bytes offset (offset + 2))

abbrev pub point_at : ℕ → List ℕ → Chromaticity
point_at offset bytes = record { x = number_at offset bytes; y = number_at (offset + 2) bytes }

-- the HDR metadata in 24 bytes
abbrev pub hdr_in : List ℕ → HdrMetadata
hdr_in bytes = record {
  luminance_max = number_at 0 bytes;
  luminance_min = number_at 2 bytes;
  red = point_at 4 bytes;
  green = point_at 8 bytes;
  blue = point_at 12 bytes;
  white = point_at 16 bytes;
  max_content_light_level = number_at 20 bytes;
  max_frame_average_light_level = number_at 22 bytes;
}

-- what the first four bytes say, with this metadata
abbrev pub color_with : Option HdrMetadata → List ℕ → ColorSpace
color_with hdr bytes = record {
  primaries = slice_index bytes 0;
  transfer = slice_index bytes 1;
  matrix = slice_index bytes 2;
  range = range_in (slice_index bytes 3 / 16 % 4);
  horizontal = siting_in (slice_index bytes 3 / 4 % 4);
  vertical = siting_in (slice_index bytes 3 % 4);
  hdr = hdr;
}

-- what 4 or 28 bytes say
abbrev pub color_in : List ℕ → ColorSpace
color_in bytes = color_with (if length bytes == 4 then None else Some (hdr_in (drop 4 bytes))) bytes

-- the numbers of the metadata, in the order in which they are written
abbrev pub hdr_numbers : HdrMetadata → List ℕ
hdr_numbers h =
    h.luminance_max ∷ h.luminance_min ∷ h.red.x ∷ h.red.y ∷ h.green.x ∷ h.green.y ∷ h.blue.x ∷ h.blue.y
    ∷ h.white.x ∷ h.white.y ∷ h.max_content_light_level ∷ h.max_frame_average_light_level ∷ []

-- each number in two bytes
abbrev pub numbers_data : List ℕ → List ℕ
numbers_data [] = []
numbers_data (number ∷ numbers) = bytes_of_number 2 number ++ numbers_data numbers

-- the bytes of the metadata, where there are some
abbrev pub hdr_data : Option HdrMetadata → List ℕ
hdr_data None = []
hdr_data (Some hdr) = numbers_data (hdr_numbers hdr)

-- the data that are written
abbrev pub color_data : ColorSpace → List ℕ
color_data c = c.primaries ∷ c.transfer ∷ c.matrix ∷ sampling_byte c ∷ hdr_data c.hdr
