-- The first three bytes of a dependency descriptor (AV1's RTP payload format, A.8): start and end of the frame, six bits with the template, and 16 with the frame number.
use Rattle.std.specs.Prelude.{ℕ, ◌+◌, ◌*◌, ◌%◌, List, ◌∷◌, slice_index, slice_range}
use Rattle.rtp_base.specs.Flag.{bit}
use Rattle.rtp_values.specs.StandardBits.{has_bit}
use Rattle.rtp_values.specs.Values.{big_endian}
use Rattle.rtp_values.specs.Spelling.{bytes_of_number}
use Rattle.rtp_values.specs.declared.standard.dependency_descriptor.DependencyDescriptor.{DependencyDescriptor}

-- what the bytes say
abbrev pub descriptor_in : List ℕ → DependencyDescriptor
descriptor_in bytes = record {
  start_of_frame = has_bit 7 (slice_index bytes 0);
  end_of_frame = has_bit 6 (slice_index bytes 0);
  template_id = slice_index bytes 0 % 64;
  frame_number = big_endian (slice_range bytes 1 3);
}

-- the bytes that are written
abbrev pub descriptor_bytes : DependencyDescriptor → List ℕ
descriptor_bytes d = (bit d.start_of_frame * 128 + bit d.end_of_frame * 64 + d.template_id) ∷ bytes_of_number 2 d.frame_number
