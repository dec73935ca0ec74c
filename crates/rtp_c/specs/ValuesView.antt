-- What C is told of the values of a block's elements (RFC 8285, 4.2 and 4.3).
use Rattle.std.specs.Prelude.{◌≡◌, ℕ, List}
use Rattle.std.specs.Option.{option_map, option_and_then, is_some}
use Rattle.rtp_base.specs.Flag.{bit}
use Rattle.rtp_ext.specs.declared.form.ExtensionsForm.{ExtensionsForm}
use Rattle.rtp_ext.specs.BlockValues.{SaysValues}
use Rattle.rtp_ext.specs.ExtensionMap.{Slots}
use Rattle.rtp_values.specs.declared.value.values.ExtensionValues.{ExtensionValues}
use Rattle.rtp_values.specs.declared.value.video_timing.VideoTiming.{VideoTiming}
use Rattle.rtp_c.specs.declared.values.ValuesView.{ValuesView}
use Rattle.rtp_c.specs.Told.{IsToldOr, IsTold, IsToldSigned, IsToldTime, IsToldText, no_timing, degrees_of}
use Rattle.rtp_c.specs.StoredMap.{HasKinds}

-- the video timing in its five places
abbrev pub timing_in : ValuesView → VideoTiming
timing_in view = record {
  flags = view.timing_flags;
  encode_start = view.encode_start;
  encode_finish = view.encode_finish;
  packetize_complete = view.packetize_complete;
  last_left_pacer = view.last_left_pacer;
}

-- what C is told of values: each in its place
pub record IsViewOfValues (values : ExtensionValues) (view : ValuesView) : Type 0 where
  pub send_time_is : IsTold view.has_send_time view.send_time values.abs_send_time
  pub capture_time_is : IsTold view.has_capture_time view.capture_time (option_map (λ time. time.capture_time) values.abs_capture_time)
  pub capture_offset_is : IsToldSigned view.has_capture_offset view.capture_offset (option_and_then (λ time. time.clock_offset) values.abs_capture_time)
  pub playout_delay_min_is : IsToldTime view.has_playout_delay_min view.playout_delay_min values.play_delay_min
  pub playout_delay_max_is : IsToldTime view.has_playout_delay_max view.playout_delay_max values.play_delay_max
  pub transmission_offset_is : IsTold view.has_transmission_offset view.transmission_offset values.tx_time_offs
  pub frame_marking_is : IsTold view.has_frame_marking view.frame_marking values.frame_mark
  pub transport_number_is : IsTold view.has_transport_number view.transport_number values.transport_cc
  pub video_orientation_is : IsTold view.has_video_orientation view.video_orientation (option_map degrees_of values.video_orientation)
  pub video_timing_is : IsToldOr (λ timing. timing ≡ no_timing) view.has_video_timing (timing_in view) values.video_timing
  pub video_content_type_is : IsTold view.has_video_content_type view.video_content_type values.video_content_type
  pub audio_level_is : IsToldSigned view.has_audio_level view.audio_level values.audio_level
  pub voice_activity_is : IsTold view.has_voice_activity view.voice_activity (option_map bit values.voice_activity)
  pub mid_is : IsToldText 16 view.has_mid view.mid values.mid
  pub rid_is : IsToldText 8 view.has_rid view.rid values.rid
  pub repaired_rid_is : IsToldText 8 view.has_repaired_rid view.repaired_rid values.rid_repair
  pub has_layers_is : view.has_layers ≡ bit (is_some values.video_layers_allocation)

-- C is told the values that the body says under the map of these numbers
pub record IsReadAs (form : ExtensionsForm) (numbers body : List ℕ) (view : ValuesView) : Type 0 where
  pub slots : Slots
  pub has_kinds : HasKinds numbers slots
  pub values : ExtensionValues
  pub says_values : SaysValues form slots body values
  pub is_view : IsViewOfValues values view
