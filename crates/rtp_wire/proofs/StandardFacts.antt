-- Worked rows, computed from the definitions.
use Rattle.rtp_wire.proofs.Common.{◌≡◌, ℕ, None, Some, true, false, List, [], ◌∷◌, ◌++◌, length, replicate, refl, rules, arith, ExtensionsForm, OneByte, TwoByte, ExtensionMap, IsFormWord, IsWire, default_header, IsPacket, cut_header, cut_words, IsNoPacket, cut_fixed, other_version, cut_sources, cut_block, HasNoHeader, unknown_form, Slots, padding_bytes, with_padding_bit, IsPaddingLength, IsUnpadded, HasOriginalNumber, ended, no_values, AreValues-none}
use Rattle.rtp_values.specs.Spelling.{carried_values}
use Rattle.rtp_ext.specs.WrittenBlock.{block_bytes, image_values}
use Rattle.rtp_wire.specs.Written.{wire_bytes, image_of}

abbrev zeros : ℕ → List ℕ
zeros n = replicate n 0

-- a plain header of twelve bytes, with two bytes after it
plain_row : (exts : ExtensionMap) → IsWire exts (128 ∷ 33 ∷ 183 ∷ 152 ∷ 0 ∷ 0 ∷ 39 ∷ 16 ∷ 0 ∷ 0 ∷ 0 ∷ 44 ∷ 7 ∷ 7 ∷ [])
    (record { version = 2; has_padding = false; has_extension = false; csrc_count = 0; marker = false; payload_type = 33; sequence_number = 47000; timestamp = 10000; ssrc = 44; csrc = zeros 15; ext_vals = no_values; header_len = 12 })
plain_row exts = record {
  parts = record { has_padding = false; has_extension = false; marker = false; payload_type = 33; sequence_number = 47000; timestamp = 10000; ssrc = 44; sources = []; block = None; other_block = None; payload = 7 ∷ 7 ∷ [] };
  is_packet = record {
    fixed = 128 ∷ 33 ∷ 183 ∷ 152 ∷ 0 ∷ 0 ∷ 39 ∷ 16 ∷ 0 ∷ 0 ∷ 0 ∷ 44 ∷ [];
    groups = [];
    part = [];
    in_order = refl;
    fixed_is = search rules;
    sources_are = record { of_four = tt; numbers_are = refl };
    part_is = refl;
  };
  no_other = refl;
  is_header = record {
    fields_are = refl;
    values_are = record { elements = []; are_elements = refl; are_values = AreValues-none exts no_values };
  };
}

-- every flag, two sources, and a block of one word of padding with application bits
full_row : (exts : ExtensionMap) → IsWire exts (178 ∷ 225 ∷ 255 ∷ 255 ∷ 1 ∷ 2 ∷ 3 ∷ 4 ∷ 0 ∷ 0 ∷ 0 ∷ 0 ∷ 0 ∷ 0 ∷ 0 ∷ 100 ∷ 0 ∷ 0 ∷ 0 ∷ 101 ∷ 16 ∷ 5 ∷ 0 ∷ 1 ∷ 0 ∷ 0 ∷ 0 ∷ 0 ∷ [])
    (record { version = 2; has_padding = true; has_extension = true; csrc_count = 2; marker = true; payload_type = 97; sequence_number = 65535; timestamp = 16909060; ssrc = 0; csrc = 100 ∷ 101 ∷ zeros 13; ext_vals = no_values; header_len = 28 })
full_row exts = record {
  parts = record { has_padding = true; has_extension = true; marker = true; payload_type = 97; sequence_number = 65535; timestamp = 16909060; ssrc = 0; sources = 100 ∷ 101 ∷ []; block = Some (TwoByte, 0 ∷ 0 ∷ 0 ∷ 0 ∷ []); other_block = None; payload = [] };
  is_packet = record {
    fixed = 178 ∷ 225 ∷ 255 ∷ 255 ∷ 1 ∷ 2 ∷ 3 ∷ 4 ∷ 0 ∷ 0 ∷ 0 ∷ 0 ∷ [];
    groups = (0 ∷ 0 ∷ 0 ∷ 100 ∷ []) ∷ (0 ∷ 0 ∷ 0 ∷ 101 ∷ []) ∷ [];
    part = 16 ∷ 5 ∷ 0 ∷ 1 ∷ 0 ∷ 0 ∷ 0 ∷ 0 ∷ [];
    in_order = refl;
    fixed_is = search rules;
    sources_are = record { of_four = (refl, (refl, tt)); numbers_are = refl };
    part_is = record { form_is = (omega arith, omega arith); words = refl; body_is = refl };
  };
  no_other = refl;
  is_header = record {
    fields_are = refl;
    values_are = record {
      elements = [];
      are_elements = record { pieces = None ∷ None ∷ None ∷ None ∷ []; tail = []; are_pieces = (tt, (tt, (tt, (tt, tt)))); is_tail = ended refl; body_is = refl; elements_are = refl };
      are_values = AreValues-none exts no_values;
    };
  };
}

-- a map in which nothing is mapped
abbrev nothing_mapped : Slots
nothing_mapped = replicate 255 None

-- the default header, with its block and without
default_row : wire_bytes nothing_mapped default_header ≡ 144 ∷ 1 ∷ zeros 10 ++ 190 ∷ 222 ∷ 0 ∷ 0 ∷ []
unfolding wire_bytes block_bytes
default_row = refl

default_image : image_of nothing_mapped default_header ≡ default_header
unfolding wire_bytes block_bytes image_of image_values carried_values
default_image = refl

bare_row : (exts : ExtensionMap) → wire_bytes exts (record default_header { has_extension = false }) ≡ 128 ∷ 1 ∷ zeros 10
unfolding wire_bytes
bare_row exts = refl

-- fifteen sources make 76 bytes
sources_row : length (wire_bytes nothing_mapped (record default_header { csrc_count = 15 })) ≡ 76
unfolding wire_bytes block_bytes
sources_row = refl

-- a row for each cause of a refusal, of packets and of headers
cut_fixed_row : IsNoPacket (zeros 11)
cut_fixed_row = cut_fixed (omega arith)

other_version_row : IsNoPacket (64 ∷ zeros 11)
other_version_row = other_version (λ e. absurd (omega arith))

cut_sources_row : IsNoPacket (129 ∷ zeros 11)
cut_sources_row = cut_sources (omega arith)

cut_header_row : IsNoPacket (144 ∷ zeros 11 ++ 190 ∷ 222 ∷ 0 ∷ [])
cut_header_row = cut_block refl (cut_header (omega arith))

no_form : (form : ExtensionsForm) → IsFormWord 8192 form → ⊥
no_form OneByte is = omega arith
no_form TwoByte is = omega arith

unknown_form_row : HasNoHeader (144 ∷ zeros 11 ++ 32 ∷ 0 ∷ 0 ∷ 0 ∷ [])
unknown_form_row = unknown_form (refl, no_form)

-- the packet of these bytes, whose block is of a form of the profile's own
other_form_row : IsPacket (144 ∷ 33 ∷ zeros 10 ++ 32 ∷ 0 ∷ 0 ∷ 1 ∷ 1 ∷ 2 ∷ 3 ∷ 4 ∷ 7 ∷ [])
    (record { has_padding = false; has_extension = true; marker = false; payload_type = 33; sequence_number = 0; timestamp = 0; ssrc = 0; sources = []; block = None; other_block = Some (8192, 1 ∷ 2 ∷ 3 ∷ 4 ∷ []); payload = 7 ∷ [] })
other_form_row = record {
  fixed = 144 ∷ 33 ∷ zeros 10;
  groups = [];
  part = 32 ∷ 0 ∷ 0 ∷ 1 ∷ 1 ∷ 2 ∷ 3 ∷ 4 ∷ [];
  in_order = refl;
  fixed_is = search rules;
  sources_are = record { of_four = tt; numbers_are = refl };
  part_is = (refl, refl, record { profile_is = refl; no_form = no_form; words = refl; body_is = refl });
}

cut_words_row : IsNoPacket (144 ∷ zeros 11 ++ 190 ∷ 222 ∷ 0 ∷ 1 ∷ 16 ∷ 170 ∷ 0 ∷ [])
cut_words_row = cut_block refl (cut_words (omega arith))

-- ---- the ends of a packet

padding_row : padding_bytes 5 ≡ 0 ∷ 0 ∷ 0 ∷ 0 ∷ 5 ∷ []
padding_row = refl

padding_bit_row : with_padding_bit (128 ∷ 33 ∷ []) ≡ 160 ∷ 33 ∷ []
padding_bit_row = refl

three_blocks_row : IsPaddingLength 15 7 21
three_blocks_row = record { whole = 21; in_blocks = record { blocks = 3; multiple = refl; enough = omega arith; least = omega arith }; lesser = refl }

whole_blocks_row : IsPaddingLength 32 16 32
whole_blocks_row = record { whole = 32; in_blocks = record { blocks = 2; multiple = refl; enough = omega arith; least = omega arith }; lesser = refl }

longest_row : IsPaddingLength 255 4 240
longest_row = record { whole = 256; in_blocks = record { blocks = 64; multiple = refl; enough = omega arith; least = omega arith }; lesser = refl }

unpadded_row : IsUnpadded (1 ∷ 2 ∷ 3 ∷ 0 ∷ 2 ∷ []) (1 ∷ 2 ∷ 3 ∷ [])
unpadded_row = record { padding = 0 ∷ 2 ∷ []; in_order = refl; counted = refl }

original_number_row : HasOriginalNumber (1 ∷ 2 ∷ 3 ∷ []) 258
original_number_row = record { long = omega arith; number_is = refl }
