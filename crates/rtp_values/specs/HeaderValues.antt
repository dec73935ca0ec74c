-- The values of a header's extensions, field by field.
use Rattle.std.specs.Prelude.{ℕ, ℤ, List, Bool, Option}
use Rattle.rtp_base.specs.MediaTime.{Fraction}
use Rattle.rtp_vla.specs.Allocation.{Allocation}
use Rattle.rtp_values.specs.declared.value.abs_capture_time.AbsCaptureTime.{AbsCaptureTime}
use Rattle.rtp_values.specs.declared.value.video_orientation.VideoOrientation.{VideoOrientation}
use Rattle.rtp_values.specs.declared.value.video_timing.VideoTiming.{VideoTiming}

-- what an `ExtensionValues` shows: each field as it is, an id as its bytes, a time as its fraction, and an allocation as its streams
pub record HeaderValues : Type 0 where
  pub audio_level : Option ℤ
  pub voice_activity : Option Bool
  pub video_orientation : Option VideoOrientation
  pub video_content_type : Option ℕ
  pub tx_time_offs : Option ℕ
  pub abs_send_time : Option ℕ
  pub abs_capture_time : Option AbsCaptureTime
  pub transport_cc : Option ℕ
  pub play_delay_min : Option Fraction
  pub play_delay_max : Option Fraction
  pub video_timing : Option VideoTiming
  pub rid : Option (List ℕ)
  pub rid_repair : Option (List ℕ)
  pub mid : Option (List ℕ)
  pub frame_mark : Option ℕ
  pub video_layers_allocation : Option Allocation
