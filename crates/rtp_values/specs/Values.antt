-- What the data of an element say, by the description of its kind (docs/EXTENSIONS.md names it), and where memory is taken.
use Rattle.std.specs.Prelude.{◌≡◌, ℕ, ℤ, ◌+◌, ◌*◌, ◌/◌, ◌%◌, ◌^◌, ◌≤◌, List, [], ◌∷◌, length, take, drop, slice_index, slice_range, ◌==◌, nat_le, if◌then◌else◌, neg_ℤ, pos, Option, Some, None, IfSome, IsSomeAnd}
use Rattle.std.specs.Int.{w64, cast_signed}
use Rattle.std.specs.Str.{IsUtf8}
use Rattle.rtp_base.specs.Id.{IsIdOf}
use Rattle.rtp_base.specs.MediaTime.{Fraction}
use Rattle.rtp_vla.specs.Allocation.{Allocation, Means}
use Rattle.rtp_values.specs.declared.kind.Extension.{Extension}
use Rattle.rtp_values.specs.declared.kind.Extension.TheVariants.{AbsoluteSendTime, AbsoluteCaptureTime, AudioLevel, TransmissionTimeOffset, VideoOrientation, TransportSequenceNumber, PlayoutDelay, VideoContentType, VideoTiming, RtpStreamId, RepairedRtpStreamId, RtpMid, FrameMarking, ColorSpace, VideoLayersAllocation, UnknownUri}
use Rattle.rtp_values.specs.declared.value.values.ExtensionValues.{ExtensionValues}
use Rattle.rtp_values.specs.declared.value.video_orientation.VideoOrientation as orientation
use Rattle.rtp_values.specs.declared.value.video_orientation.VideoOrientation.TheVariants.{Deg0, Deg90, Deg180, Deg270}

-- every value is absent
abbrev pub no_values : ExtensionValues
no_values = record {
  audio_level = None;
  voice_activity = None;
  video_orientation = None;
  video_content_type = None;
  tx_time_offs = None;
  abs_send_time = None;
  abs_capture_time = None;
  transport_cc = None;
  play_delay_min = None;
  play_delay_max = None;
  video_timing = None;
  rid = None;
  rid_repair = None;
  mid = None;
  frame_mark = None;
  video_layers_allocation = None;
}

-- the big-endian number in these bytes
abbrev pub big_endian : List ℕ → ℕ
big_endian [] = 0
big_endian (byte ∷ bytes) = byte * 256 ^ length bytes + big_endian bytes

-- a 64-bit number in two's complement, where eight bytes are there
abbrev pub offset_of : List ℕ → Option ℤ
offset_of bytes = if nat_le 8 (length bytes) then Some (cast_signed w64 (big_endian (take 8 bytes))) else None

-- how the picture is to be turned, by two bits
abbrev pub orientation_of : ℕ → orientation.VideoOrientation
orientation_of bits = if bits == 1 then Deg270 else if bits == 2 then Deg180 else if bits == 3 then Deg90 else Deg0

-- a time in hundredths of a second
abbrev pub hundredths : ℕ → Fraction
hundredths count = record { numer = count; denom = 100 }

-- the data are well-formed for the kind, and the values' fields of the kind are what the data say; more bytes than a kind needs are passed over
abbrev pub Reads : Extension → List ℕ → ExtensionValues → Type 0
Reads AbsoluteSendTime bytes values =
    (3 ≤ length bytes) × (values.abs_send_time ≡ Some (big_endian (take 3 bytes) * 1000000 / 262144))
Reads AbsoluteCaptureTime bytes values =
    (8 ≤ length bytes) × (values.abs_capture_time
    ≡ Some (record { capture_time = big_endian (take 8 bytes); clock_offset = offset_of (drop 8 bytes) }))
Reads AudioLevel bytes values =
    (1 ≤ length bytes) × (values.audio_level ≡ Some (neg_ℤ (pos (slice_index bytes 0 % 128))))
    × (values.voice_activity ≡ Some (slice_index bytes 0 / 128 == 1))
Reads TransmissionTimeOffset bytes values = (4 ≤ length bytes) × (values.tx_time_offs ≡ Some (big_endian (take 4 bytes)))
Reads VideoOrientation bytes values =
    (1 ≤ length bytes) × (values.video_orientation ≡ Some (orientation_of (slice_index bytes 0 % 4)))
Reads TransportSequenceNumber bytes values = (2 ≤ length bytes) × (values.transport_cc ≡ Some (big_endian (take 2 bytes)))
Reads PlayoutDelay bytes values =
    (3 ≤ length bytes) × (values.play_delay_min ≡ Some (hundredths (big_endian (take 3 bytes) / 4096)))
    × (values.play_delay_max ≡ Some (hundredths (big_endian (take 3 bytes) % 4096)))
Reads VideoContentType bytes values = (1 ≤ length bytes) × (values.video_content_type ≡ Some (slice_index bytes 0))
Reads VideoTiming bytes values =
    (9 ≤ length bytes) × (values.video_timing ≡ Some (record {
      flags = slice_index bytes 0;
      encode_start = big_endian (slice_range bytes 1 3);
      encode_finish = big_endian (slice_range bytes 3 5);
      packetize_complete = big_endian (slice_range bytes 5 7);
      last_left_pacer = big_endian (slice_range bytes 7 9);
    }))
Reads RtpStreamId bytes values = IsUtf8 bytes × IsSomeAnd values.rid (IsIdOf 8 bytes)
Reads RepairedRtpStreamId bytes values = IsUtf8 bytes × IsSomeAnd values.rid_repair (IsIdOf 8 bytes)
Reads RtpMid bytes values = IsUtf8 bytes × IsSomeAnd values.mid (IsIdOf 16 bytes)
Reads FrameMarking bytes values = (4 ≤ length bytes) × (values.frame_mark ≡ Some (big_endian (take 4 bytes)))
Reads ColorSpace bytes values = ⊥
Reads VideoLayersAllocation bytes values = IsSomeAnd values.video_layers_allocation (Means bytes)
Reads (UnknownUri uri) bytes values = ⊥

-- the old values with the kind's fields of the new ones
abbrev pub with_fields : Extension → ExtensionValues → ExtensionValues → ExtensionValues
with_fields AbsoluteSendTime old new = record old { abs_send_time = new.abs_send_time }
with_fields AbsoluteCaptureTime old new = record old { abs_capture_time = new.abs_capture_time }
with_fields AudioLevel old new = record old { audio_level = new.audio_level; voice_activity = new.voice_activity }
with_fields TransmissionTimeOffset old new = record old { tx_time_offs = new.tx_time_offs }
with_fields VideoOrientation old new = record old { video_orientation = new.video_orientation }
with_fields TransportSequenceNumber old new = record old { transport_cc = new.transport_cc }
with_fields PlayoutDelay old new = record old { play_delay_min = new.play_delay_min; play_delay_max = new.play_delay_max }
with_fields VideoContentType old new = record old { video_content_type = new.video_content_type }
with_fields VideoTiming old new = record old { video_timing = new.video_timing }
with_fields RtpStreamId old new = record old { rid = new.rid }
with_fields RepairedRtpStreamId old new = record old { rid_repair = new.rid_repair }
with_fields RtpMid old new = record old { mid = new.mid }
with_fields FrameMarking old new = record old { frame_mark = new.frame_mark }
with_fields ColorSpace old new = old
with_fields VideoLayersAllocation old new = record old { video_layers_allocation = new.video_layers_allocation }
with_fields (UnknownUri uri) old new = old

-- the kind's fields are the same: with those of the new values the old values are as they were
abbrev pub SameFields : Extension → ExtensionValues → ExtensionValues → Type 0
SameFields kind old new = with_fields kind old new ≡ old

-- the data are well-formed for the kind
abbrev pub IsWellFormed : Extension → List ℕ → Type 0
IsWellFormed kind bytes = (values : ExtensionValues) × Reads kind bytes values

-- data that may take memory: those of a layer allocation, from two bytes on
abbrev pub TakesMemory : Extension → List ℕ → Type 0
TakesMemory kind bytes = (kind ≡ VideoLayersAllocation) × (2 ≤ length bytes)

-- a copy of the allocation takes no memory: there is none, or it has no streams
abbrev pub TakesNoMemory : Option Allocation → Type 0
TakesNoMemory allocation = IfSome allocation (λ a. a.simulcast_streams ≡ [])
