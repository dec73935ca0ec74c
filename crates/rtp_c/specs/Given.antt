-- The header and the values that C gives to be written (RFC 3550, 5.1; RFC 8285, 4).
use Rattle.std.specs.Prelude.{◌≡◌, ℕ, ◌<◌, ◌≤◌, List, ◌∷◌, ◌++◌, Bool, nat_lt, ◌==◌, if◌then◌else◌, Option, Some, None}
use Rattle.std.specs.List.{All, before_first}
use Rattle.rtp_base.specs.Id.{IsIdByte, padded}
use Rattle.rtp_base.specs.MediaTime.{Fraction}
use Rattle.rtp_values.specs.declared.value.values.ExtensionValues.{ExtensionValues}
use Rattle.rtp_values.specs.declared.value.video_orientation.VideoOrientation.{VideoOrientation}
use Rattle.rtp_values.specs.declared.value.video_orientation.VideoOrientation.TheVariants.{Deg0, Deg90, Deg180, Deg270}
use Rattle.rtp_values.specs.Values.{no_values}
use Rattle.rtp_values.specs.StandardLevels.{IsLevel}
use Rattle.rtp_wire.specs.declared.header.rtp_header.RtpHeader.{RtpHeader}
use Rattle.rtp_c.specs.declared.values.Time.{Time}
use Rattle.rtp_c.specs.declared.values.ValuesView.{ValuesView}
use Rattle.rtp_c.specs.declared.header.HeaderView.{HeaderView}
use Rattle.rtp_c.specs.Told.{degrees_of, fraction_of}
use Rattle.rtp_c.specs.ValuesView.{timing_in}

-- whether a flag is set: it is where it isn't 0
abbrev pub is_nonzero : ℕ → Bool
is_nonzero flag = nat_lt 0 flag

-- a value, where its flag is set
abbrev pub given : {A : Type 0} → ℕ → A → Option A
given has value = if is_nonzero has then Some value else None

-- a value of this kind where its flag is set, and else none
abbrev pub IsGiven : {A : Type 0} → ℕ → (A → Type 0) → Option A → Type 0
IsGiven has IsIt None = has ≡ 0
IsGiven has IsIt (Some value) = (0 < has) × IsIt value

-- the text before the first zero of the bytes: letters, digits and underscores
pub record IsTextIn (bytes text : List ℕ) : Type 0 where
  pub after : List ℕ
  pub bytes_are : bytes ≡ text ++ 0 ∷ after
  pub text_is : All IsIdByte text

-- the id of this size with that text
pub record IsIdIn (size : ℕ) (bytes id : List ℕ) : Type 0 where
  pub text : List ℕ
  pub is_text : IsTextIn bytes text
  pub id_is : id ≡ padded size text

-- the time of these ticks, where there are any in a second
abbrev pub IsTimeOf : Time → Fraction → Type 0
IsTimeOf time fraction = (0 < time.hertz) × (fraction ≡ record { numer = time.ticks; denom = time.hertz })

-- the values that are given, each of them one, and no layer allocation; a level is one of RFC 6464's
pub record AreGivenValues (view : ValuesView) (values : ExtensionValues) : Type 0 where
  pub send_time_is : values.abs_send_time ≡ given view.has_send_time view.send_time
  pub capture_time_is : values.abs_capture_time ≡ given view.has_capture_time (record {
    capture_time = view.capture_time;
    clock_offset = given view.has_capture_offset view.capture_offset;
  })
  pub transmission_offset_is : values.tx_time_offs ≡ given view.has_transmission_offset view.transmission_offset
  pub frame_marking_is : values.frame_mark ≡ given view.has_frame_marking view.frame_marking
  pub transport_number_is : values.transport_cc ≡ given view.has_transport_number view.transport_number
  pub video_orientation_is : IsGiven view.has_video_orientation (λ turn. degrees_of turn ≡ view.video_orientation) values.video_orientation
  pub video_content_type_is : values.video_content_type ≡ given view.has_video_content_type view.video_content_type
  pub audio_level_is : values.audio_level ≡ given view.has_audio_level view.audio_level
  pub audio_level_fits : 0 < view.has_audio_level → IsLevel view.audio_level
  pub voice_activity_is : values.voice_activity ≡ given view.has_voice_activity (is_nonzero view.voice_activity)
  pub playout_delay_min_is : IsGiven view.has_playout_delay_min (IsTimeOf view.playout_delay_min) values.play_delay_min
  pub playout_delay_max_is : IsGiven view.has_playout_delay_max (IsTimeOf view.playout_delay_max) values.play_delay_max
  pub video_timing_is : values.video_timing ≡ given view.has_video_timing (record {
    flags = view.timing_flags;
    encode_start = view.encode_start;
    encode_finish = view.encode_finish;
    packetize_complete = view.packetize_complete;
    last_left_pacer = view.last_left_pacer;
  })
  pub mid_is : IsGiven view.has_mid (IsIdIn 16 view.mid) values.mid
  pub rid_is : IsGiven view.has_rid (IsIdIn 8 view.rid) values.rid
  pub repaired_rid_is : IsGiven view.has_repaired_rid (IsIdIn 8 view.repaired_rid) values.rid_repair
  pub no_layers : values.video_layers_allocation ≡ None

-- the fields that are given, beside the values, where a header can have them: its payload type has seven bits, and it counts at most fifteen sources
pub record AreGivenFields (view : HeaderView) (header : RtpHeader) : Type 0 where
  pub padding_is : header.has_padding ≡ is_nonzero view.has_padding
  pub extension_is : header.has_extension ≡ is_nonzero view.has_extension
  pub marker_is : header.marker ≡ is_nonzero view.marker
  pub payload_type_is : header.payload_type ≡ view.payload_type
  pub payload_type_fits : view.payload_type ≤ 127
  pub number_is : header.sequence_number ≡ view.sequence_number
  pub timestamp_is : header.timestamp ≡ view.timestamp
  pub ssrc_is : header.ssrc ≡ view.ssrc
  pub count_is : header.csrc_count ≡ view.csrc_count
  pub few_sources : view.csrc_count ≤ 15
  pub sources_are : header.csrc ≡ view.csrc

-- the header that is given, with the values that are given
pub record IsGivenHeader (view : HeaderView) (header : RtpHeader) : Type 0 where
  pub fields : AreGivenFields view header
  pub values : AreGivenValues view.values header.ext_vals

-- the orientation of these degrees
abbrev pub turn_of : ℕ → VideoOrientation
turn_of degrees =
    if degrees == 90 then Deg90 else (if degrees == 180 then Deg180 else (if degrees == 270 then Deg270 else Deg0))

-- the bytes before the first zero
abbrev pub text_in : List ℕ → List ℕ
text_in bytes = before_first (λ b. b == 0) bytes

-- the values as they lie in C's struct: those that are given, where each level, orientation, time and text is one
abbrev pub values_in : ValuesView → ExtensionValues
values_in view = record {
  audio_level = given view.has_audio_level view.audio_level;
  voice_activity = given view.has_voice_activity (is_nonzero view.voice_activity);
  video_orientation = given view.has_video_orientation (turn_of view.video_orientation);
  video_content_type = given view.has_video_content_type view.video_content_type;
  tx_time_offs = given view.has_transmission_offset view.transmission_offset;
  abs_send_time = given view.has_send_time view.send_time;
  abs_capture_time = given view.has_capture_time (record {
    capture_time = view.capture_time;
    clock_offset = given view.has_capture_offset view.capture_offset;
  });
  transport_cc = given view.has_transport_number view.transport_number;
  play_delay_min = given view.has_playout_delay_min (fraction_of view.playout_delay_min);
  play_delay_max = given view.has_playout_delay_max (fraction_of view.playout_delay_max);
  video_timing = given view.has_video_timing (timing_in view);
  rid = given view.has_rid (padded 8 (text_in view.rid));
  rid_repair = given view.has_repaired_rid (padded 8 (text_in view.repaired_rid));
  mid = given view.has_mid (padded 16 (text_in view.mid));
  frame_mark = given view.has_frame_marking view.frame_marking;
  video_layers_allocation = None;
}

-- the fields as they lie in C's struct, of a header without values
abbrev pub header_in : HeaderView → RtpHeader
header_in view = record {
  version = 2;
  has_padding = is_nonzero view.has_padding;
  has_extension = is_nonzero view.has_extension;
  csrc_count = view.csrc_count;
  marker = is_nonzero view.marker;
  payload_type = view.payload_type;
  sequence_number = view.sequence_number;
  timestamp = view.timestamp;
  ssrc = view.ssrc;
  csrc = view.csrc;
  ext_vals = no_values;
  header_len = view.header_len;
}

-- a header can have the fields: its payload type has seven bits, and it counts at most fifteen sources
pub record CanBeHeader (view : HeaderView) : Type 0 where
  pub payload_type : view.payload_type ≤ 127
  pub sources : view.csrc_count ≤ 15

-- each audio level, orientation, time and text that is there is one
pub record CanBeGiven (view : ValuesView) : Type 0 where
  pub level : 0 < view.has_audio_level → IsLevel view.audio_level
  pub turn : 0 < view.has_video_orientation → degrees_of (turn_of view.video_orientation) ≡ view.video_orientation
  pub min : 0 < view.has_playout_delay_min → 0 < view.playout_delay_min.hertz
  pub max : 0 < view.has_playout_delay_max → 0 < view.playout_delay_max.hertz
  pub mid : 0 < view.has_mid → IsTextIn view.mid (text_in view.mid)
  pub rid : 0 < view.has_rid → IsTextIn view.rid (text_in view.rid)
  pub repaired_rid : 0 < view.has_repaired_rid → IsTextIn view.repaired_rid (text_in view.repaired_rid)
