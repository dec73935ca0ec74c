-- When two headers are equal: field by field, and times as fractions.
use Rattle.std.specs.Prelude.{◌≡◌, Option, Some, None, IsTrue}
use Rattle.rtp_base.specs.MediaTime.{Fraction, fraction_eq}
use Rattle.rtp_values.specs.HeaderValues.{HeaderValues}
use Rattle.rtp_wire.specs.declared.header.rtp_header.RtpHeader.{RtpHeader}

-- both times are absent, or both are there and are equal as fractions: 250 at 1000 equals 1 at 4
abbrev pub AreSameTimes : Option Fraction → Option Fraction → Type 0
AreSameTimes None None = Unit {0}
AreSameTimes None (Some b) = ⊥
AreSameTimes (Some a) None = ⊥
AreSameTimes (Some a) (Some b) = IsTrue (fraction_eq a b)

-- each value of the one is that of the other
pub record AreSameValues (a b : HeaderValues) : Type 0 where
  pub audio_level : a.audio_level ≡ b.audio_level
  pub voice_activity : a.voice_activity ≡ b.voice_activity
  pub video_orientation : a.video_orientation ≡ b.video_orientation
  pub video_content_type : a.video_content_type ≡ b.video_content_type
  pub tx_time_offs : a.tx_time_offs ≡ b.tx_time_offs
  pub abs_send_time : a.abs_send_time ≡ b.abs_send_time
  pub abs_capture_time : a.abs_capture_time ≡ b.abs_capture_time
  pub transport_cc : a.transport_cc ≡ b.transport_cc
  pub play_delay_min : AreSameTimes a.play_delay_min b.play_delay_min
  pub play_delay_max : AreSameTimes a.play_delay_max b.play_delay_max
  pub video_timing : a.video_timing ≡ b.video_timing
  pub rid : a.rid ≡ b.rid
  pub rid_repair : a.rid_repair ≡ b.rid_repair
  pub mid : a.mid ≡ b.mid
  pub frame_mark : a.frame_mark ≡ b.frame_mark
  pub video_layers_allocation : a.video_layers_allocation ≡ b.video_layers_allocation

-- each field of the one header is that of the other
pub record AreSameHeaders (a b : RtpHeader) : Type 0 where
  pub version : a.version ≡ b.version
  pub has_padding : a.has_padding ≡ b.has_padding
  pub has_extension : a.has_extension ≡ b.has_extension
  pub csrc_count : a.csrc_count ≡ b.csrc_count
  pub marker : a.marker ≡ b.marker
  pub payload_type : a.payload_type ≡ b.payload_type
  pub sequence_number : a.sequence_number ≡ b.sequence_number
  pub timestamp : a.timestamp ≡ b.timestamp
  pub ssrc : a.ssrc ≡ b.ssrc
  pub csrc : a.csrc ≡ b.csrc
  pub ext_vals : AreSameValues a.ext_vals b.ext_vals
  pub header_len : a.header_len ≡ b.header_len
