-- The data that each kind's values are written as, by its description (docs/EXTENSIONS.md names it), and what they are read as again.
use Rattle.std.specs.Prelude.{◌&&◌, ◌||◌, nat_le, if◌then◌else◌, Bool, false, ◌==◌, ℕ, zero, suc, ℤ, ◌+◌, ◌*◌, ◌/◌, ◌%◌, ◌^◌, ◌<◌, ◌≤◌, List, [], ◌∷◌, ◌++◌, length, replicate, unsigned_abs, neg_ℤ, pos, Option, Some, None}
use Rattle.std.specs.Option.{option_map, ForSome}
use Rattle.std.specs.Int.{w64, cast_unsigned}
use Rattle.rtp_base.specs.Id.{before_padding}
use Rattle.rtp_base.specs.MediaTime.{Fraction, whole_ticks}
use Rattle.rtp_vla.specs.Allocation.{Allocation}
use Rattle.rtp_vla.specs.AllocationWritten.{can_be_written, trimmed, written_of}
use Rattle.rtp_values.specs.declared.kind.Extension.{Extension}
use Rattle.rtp_values.specs.declared.kind.Extension.TheVariants.{AbsoluteSendTime, AbsoluteCaptureTime, AudioLevel, TransmissionTimeOffset, VideoOrientation, TransportSequenceNumber, PlayoutDelay, VideoContentType, VideoTiming, RtpStreamId, RepairedRtpStreamId, RtpMid, FrameMarking, ColorSpace, VideoLayersAllocation, UnknownUri}
use Rattle.rtp_values.specs.declared.value.values.ExtensionValues.{ExtensionValues}
use Rattle.rtp_values.specs.declared.value.video_timing.VideoTiming as timing
use Rattle.rtp_values.specs.declared.value.video_orientation.VideoOrientation as orientation
use Rattle.rtp_values.specs.declared.value.video_orientation.VideoOrientation.TheVariants.{Deg0, Deg90, Deg180, Deg270}
use Rattle.rtp_base.specs.Flag.{bit}
use Rattle.rtp_values.specs.Values.{hundredths}

-- the low `count` bytes of a number, the high one first
abbrev pub bytes_of_number : ℕ → ℕ → List ℕ
bytes_of_number zero number = []
bytes_of_number (suc more) number = (number / 256 ^ more % 256) ∷ bytes_of_number more number

-- something of two values, where both are there
abbrev pub of_both : {A B C : Type 0} → (A → B → C) → Option A → Option B → Option C
of_both f None y = None
of_both f (Some x) None = None
of_both f (Some x) (Some y) = Some (f x y)

-- whole ticks of 2^-18 seconds, of the microseconds of a send time
abbrev pub send_ticks : ℕ → ℕ
send_ticks micros = micros * 262144 / 1000000 % 2 ^ 24

-- the whole microseconds that a send time is read as, from the bytes that it is written as
abbrev pub carried_send_time : ℕ → ℕ
carried_send_time micros = send_ticks micros * 1000000 / 262144

-- a clock offset in eight bytes, in two's complement; nothing where it is absent
abbrev pub offset_bytes : Option ℤ → List ℕ
offset_bytes None = []
offset_bytes (Some offset) = bytes_of_number 8 (cast_unsigned w64 offset)

-- the two bits of an orientation
abbrev pub orientation_bits : orientation.VideoOrientation → ℕ
orientation_bits Deg0 = 0
orientation_bits Deg270 = 1
orientation_bits Deg180 = 2
orientation_bits Deg90 = 3

-- whole hundredths of a second, in twelve bits
abbrev pub delay_of : Fraction → ℕ
delay_of time = whole_ticks time 100 % 4096

-- flags, four times, and four bytes of zeros
abbrev pub timing_bytes : timing.VideoTiming → List ℕ
timing_bytes t =
    t.flags ∷ (bytes_of_number 2 t.encode_start ++ (bytes_of_number 2 t.encode_finish ++ (bytes_of_number 2 t.packetize_complete
    ++ (bytes_of_number 2 t.last_left_pacer ++ replicate 4 0))))

-- the allocation where an element can carry it: it can be written, and in at most 255 bytes
abbrev pub element_allocation : Option Allocation → Option Allocation
element_allocation None = None
element_allocation (Some a) = if can_be_written a && nat_le (length (written_of a)) 255 then Some a else None

-- the data of an element of the kind, and nothing where a value that it needs is absent
abbrev pub spelled_data : Extension → ExtensionValues → Option (List ℕ)
spelled_data AbsoluteSendTime values = option_map (λ time. bytes_of_number 3 (send_ticks time)) values.abs_send_time
spelled_data AbsoluteCaptureTime values =
    option_map (λ time. bytes_of_number 8 time.capture_time ++ offset_bytes time.clock_offset) values.abs_capture_time
spelled_data AudioLevel values =
    of_both (λ level voice. (bit voice * 128 + unsigned_abs level % 128) ∷ []) values.audio_level values.voice_activity
spelled_data TransmissionTimeOffset values = option_map (bytes_of_number 4) values.tx_time_offs
spelled_data VideoOrientation values = option_map (λ turn. orientation_bits turn ∷ []) values.video_orientation
spelled_data TransportSequenceNumber values = option_map (bytes_of_number 2) values.transport_cc
spelled_data PlayoutDelay values =
    of_both (λ min max. bytes_of_number 3 (delay_of min * 4096 + delay_of max)) values.play_delay_min values.play_delay_max
spelled_data VideoContentType values = option_map (λ content. content ∷ []) values.video_content_type
spelled_data VideoTiming values = option_map timing_bytes values.video_timing
spelled_data RtpStreamId values = option_map before_padding values.rid
spelled_data RepairedRtpStreamId values = option_map before_padding values.rid_repair
spelled_data RtpMid values = option_map before_padding values.mid
spelled_data FrameMarking values = option_map (bytes_of_number 4) values.frame_mark
spelled_data ColorSpace values = None
spelled_data VideoLayersAllocation values = option_map written_of (element_allocation values.video_layers_allocation)
spelled_data (UnknownUri uri) values = None

-- whether there are data, and they are empty
abbrev pub has_no_data : Option (List ℕ) → Bool
has_no_data None = false
has_no_data (Some bytes) = length bytes == 0

-- whether a text is there and has no characters
abbrev pub has_empty_text : ExtensionValues → Bool
has_empty_text values =
    has_no_data (spelled_data RtpMid values)
    || (has_no_data (spelled_data RtpStreamId values) || has_no_data (spelled_data RepairedRtpStreamId values))

-- the most bytes that the data of a kind have
abbrev pub longest : Extension → ℕ
longest VideoLayersAllocation = 255
longest kind = 16

-- the buffer has room for the data: 255 bytes always suffice
abbrev pub HasRoom : Extension → ExtensionValues → List ℕ → Type 0
HasRoom kind values buf =
    length buf < 255 → ForSome (spelled_data kind values) (λ bytes. length bytes ≤ length buf)

-- what the written data are read as: a level's magnitude modulo 128, whole ticks of a send time modulo 64 seconds, whole hundredths of a delay modulo 4096, an allocation without the bare layers at the end of its streams, and every other value as it is
unfoldable pub carried_values : ExtensionValues → ExtensionValues
carried_values values = record {
  audio_level = of_both (λ level voice. neg_ℤ (pos (unsigned_abs level % 128))) values.audio_level values.voice_activity;
  voice_activity = of_both (λ level voice. voice) values.audio_level values.voice_activity;
  video_orientation = values.video_orientation;
  video_content_type = values.video_content_type;
  tx_time_offs = values.tx_time_offs;
  abs_send_time = option_map carried_send_time values.abs_send_time;
  abs_capture_time = values.abs_capture_time;
  transport_cc = values.transport_cc;
  play_delay_min = of_both (λ min max. hundredths (delay_of min)) values.play_delay_min values.play_delay_max;
  play_delay_max = of_both (λ min max. hundredths (delay_of max)) values.play_delay_min values.play_delay_max;
  video_timing = values.video_timing;
  rid = values.rid;
  rid_repair = values.rid_repair;
  mid = values.mid;
  frame_mark = values.frame_mark;
  video_layers_allocation = option_map trimmed (element_allocation values.video_layers_allocation);
}
