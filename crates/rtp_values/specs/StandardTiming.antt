-- A video timing (WebRTC's video-timing): six times of 16 bits, after a byte of flags, which the older form doesn't have.
use Rattle.std.specs.Prelude.{◌==◌, if◌then◌else◌, ℕ, List, [], ◌∷◌, ◌++◌, length, drop, slice_index, slice_range, Option, Some, None}
use Rattle.rtp_values.specs.Values.{big_endian}
use Rattle.rtp_values.specs.Spelling.{bytes_of_number}
use Rattle.rtp_values.specs.declared.standard.timing.Timing.{Timing}

-- the times in twelve bytes, with these flags
abbrev pub timing_after : Option ℕ → List ℕ → Timing
timing_after flags bytes = record {
  flags = flags;
  encode_start = big_endian (slice_range bytes 0 2);
  encode_finish = big_endian (slice_range bytes 2 4);
  packetize_complete = big_endian (slice_range bytes 4 6);
  last_left_pacer = big_endian (slice_range bytes 6 8);
  network = big_endian (slice_range bytes 8 10);
  network2 = big_endian (slice_range bytes 10 12);
}

-- what 12 or 13 bytes say
abbrev pub timing_in : List ℕ → Timing
timing_in bytes = if length bytes == 12 then timing_after None bytes else timing_after (Some (slice_index bytes 0)) (drop 1 bytes)

-- the times, two bytes each
abbrev pub times_data : Timing → List ℕ
times_data t =
    bytes_of_number 2 t.encode_start ++ (bytes_of_number 2 t.encode_finish ++ (bytes_of_number 2 t.packetize_complete
    ++ (bytes_of_number 2 t.last_left_pacer ++ (bytes_of_number 2 t.network ++ bytes_of_number 2 t.network2))))

-- the byte of the flags, where there are some
abbrev pub flags_data : Option ℕ → List ℕ
flags_data None = []
flags_data (Some flags) = flags ∷ []

-- the data that are written
abbrev pub timing_data : Timing → List ℕ
timing_data t = flags_data t.flags ++ times_data t
