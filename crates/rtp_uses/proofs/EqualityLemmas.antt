-- Equality of the values of headers, and of headers.
use Rattle.std.proofs.Common.{rules, ◌≡◌, true≢false, refl, sym, ℕ, List, Bool, true, false, Option, None, Some, ◌==◌}
use Rattle.std.specs.Bool.{Decides}
use Rattle.std.specs.Option.{option_eq}
use Rattle.std.specs.Cmp.{unsigned_Decides, signed_Decides, booleans_Decides}
use Rattle.std.specs.Cmp.Lexicographic.{pointwise}
use Rattle.std.specs.Prelude.{◌&&◌}
use Rattle.std.proofs.lemmas.Bool.Decides.{Decides-like}
use Rattle.std.proofs.lemmas.Slice.Eq.{slice_eq-Decides}
use Rattle.rtp_base.specs.MediaTime.{Fraction, fraction_eq}
use Rattle.rtp_base.specs.contracts.id.mid.MidPartialEq.TheImpl as mid_eq
use Rattle.rtp_base.specs.contracts.id.rid.RidPartialEq.TheImpl as rid_eq
use Rattle.rtp_wire.specs.AllocationEqual.{same_allocation-decides}
use Rattle.rtp_values.specs.HeaderValues.{HeaderValues}
use Rattle.rtp_values.specs.declared.value.abs_capture_time.AbsCaptureTime.{AbsCaptureTime}
use Rattle.rtp_values.specs.declared.value.video_orientation.VideoOrientation.{VideoOrientation}
use Rattle.rtp_values.specs.declared.value.video_timing.VideoTiming.{VideoTiming}
use Rattle.rtp_wire.specs.declared.header.rtp_header.RtpHeader.{RtpHeader}
use Rattle.rtp_values.specs.contracts.value.abs_capture_time.AbsCaptureTimePartialEq.TheImpl as capture_eq
use Rattle.rtp_values.specs.contracts.value.video_orientation.VideoOrientationPartialEq.TheImpl as orientation_eq
use Rattle.rtp_values.specs.contracts.value.video_timing.VideoTimingPartialEq.TheImpl as timing_eq
use Rattle.rtp_values.specs.contracts.value.values.ExtensionValuesPartialEq.TheImpl as values_eq
use Rattle.rtp_wire.specs.contracts.header.rtp_header.RtpHeaderPartialEq.TheImpl as header_eq
use Rattle.rtp_uses.specs.Equality.{AreSameTimes, AreSameValues, AreSameHeaders}

-- of optional values, where it decides at the values
options : {A : Type 0} {E : A → A → Bool} → ((x y : A) → Decides (E x y) (x ≡ y)) → (a b : Option A) → Decides (option_eq E a b) (a ≡ b)
options each None None = search rules
options each None (Some y) = search rules
options each (Some x) None = search rules
options each (Some x) (Some y) = search (rules, each x y)

-- of optional times
times : (a b : Option Fraction) → Decides (option_eq fraction_eq a b) (AreSameTimes a b)
times None None = search rules
times None (Some y) = search rules
times (Some x) None = search rules
times (Some x) (Some y) = search rules

-- of each kind of value
orientations : (a b : VideoOrientation) → Decides ((orientation_eq.ghosts).eq a b) (a ≡ b)
orientations a b = search rules

capture_times : (a b : AbsCaptureTime) → Decides ((capture_eq.ghosts).eq a b) (a ≡ b)
capture_times a b = search rules

timings : (a b : VideoTiming) → Decides ((timing_eq.ghosts).eq a b) (a ≡ b)
timings a b = search rules

mids : (a b : List ℕ) → Decides ((mid_eq.ghosts).eq a b) (a ≡ b)
mids a b = search rules

rids : (a b : List ℕ) → Decides ((rid_eq.ghosts).eq a b) (a ≡ b)
rids a b = search rules

-- of the slots of sources
sources : (a b : List ℕ) → Decides (pointwise (λ x y. x == y) a b) (a ≡ b)
sources a b = slice_eq-Decides unsigned_Decides a b _ refl

-- a fact of several fields, which a test decides field by field: P is what it says of the first one, and where that holds the other tests decide it
module _ {P Q : Type 0} where
  first : {x y : Bool} → (Q → P) → Decides x P → (P → Decides y Q) → Decides (x && y) Q
  first {x = true} part one others = others (one.0 refl)
  first {x = false} part one others = (λ is. absurd (true≢false (sym is)), λ all. one.1 (part all))

  -- and P is what it says of the last one
  last : {x : Bool} → (Q → P) → Decides x P → (P → Q) → Decides x Q
  last {x} part one whole = Decides-like x whole part one

-- of all values: a line for each field, in the order of the fields, and then its name
pub values : (a b : HeaderValues) → Decides ((values_eq.ghosts).eq a b) (AreSameValues a b)
values a b =
    first (λ all. all.audio_level) (options signed_Decides a.audio_level b.audio_level) λ audio_level.
    first (λ all. all.voice_activity) (options booleans_Decides a.voice_activity b.voice_activity) λ voice_activity.
    first (λ all. all.video_orientation) (options orientations a.video_orientation b.video_orientation) λ video_orientation.
    first (λ all. all.video_content_type) (options unsigned_Decides a.video_content_type b.video_content_type) λ video_content_type.
    first (λ all. all.tx_time_offs) (options unsigned_Decides a.tx_time_offs b.tx_time_offs) λ tx_time_offs.
    first (λ all. all.abs_send_time) (options unsigned_Decides a.abs_send_time b.abs_send_time) λ abs_send_time.
    first (λ all. all.abs_capture_time) (options capture_times a.abs_capture_time b.abs_capture_time) λ abs_capture_time.
    first (λ all. all.transport_cc) (options unsigned_Decides a.transport_cc b.transport_cc) λ transport_cc.
    first (λ all. all.play_delay_min) (times a.play_delay_min b.play_delay_min) λ play_delay_min.
    first (λ all. all.play_delay_max) (times a.play_delay_max b.play_delay_max) λ play_delay_max.
    first (λ all. all.video_timing) (options timings a.video_timing b.video_timing) λ video_timing.
    first (λ all. all.rid) (options rids a.rid b.rid) λ rid.
    first (λ all. all.rid_repair) (options rids a.rid_repair b.rid_repair) λ rid_repair.
    first (λ all. all.mid) (options mids a.mid b.mid) λ mid.
    first (λ all. all.frame_mark) (options unsigned_Decides a.frame_mark b.frame_mark) λ frame_mark.
    last (λ all. all.video_layers_allocation) (options same_allocation-decides a.video_layers_allocation b.video_layers_allocation) λ video_layers_allocation. record {
      audio_level = audio_level;
      voice_activity = voice_activity;
      video_orientation = video_orientation;
      video_content_type = video_content_type;
      tx_time_offs = tx_time_offs;
      abs_send_time = abs_send_time;
      abs_capture_time = abs_capture_time;
      transport_cc = transport_cc;
      play_delay_min = play_delay_min;
      play_delay_max = play_delay_max;
      video_timing = video_timing;
      rid = rid;
      rid_repair = rid_repair;
      mid = mid;
      frame_mark = frame_mark;
      video_layers_allocation = video_layers_allocation;
    }

-- of headers
pub headers : (a b : RtpHeader) → Decides ((header_eq.ghosts).eq a b) (AreSameHeaders a b)
headers a b =
    first (λ all. all.version) (unsigned_Decides a.version b.version) λ version.
    first (λ all. all.has_padding) (booleans_Decides a.has_padding b.has_padding) λ has_padding.
    first (λ all. all.has_extension) (booleans_Decides a.has_extension b.has_extension) λ has_extension.
    first (λ all. all.csrc_count) (unsigned_Decides a.csrc_count b.csrc_count) λ csrc_count.
    first (λ all. all.marker) (booleans_Decides a.marker b.marker) λ marker.
    first (λ all. all.payload_type) (unsigned_Decides a.payload_type b.payload_type) λ payload_type.
    first (λ all. all.sequence_number) (unsigned_Decides a.sequence_number b.sequence_number) λ sequence_number.
    first (λ all. all.timestamp) (unsigned_Decides a.timestamp b.timestamp) λ timestamp.
    first (λ all. all.ssrc) (unsigned_Decides a.ssrc b.ssrc) λ ssrc.
    first (λ all. all.csrc) (sources a.csrc b.csrc) λ csrc.
    first (λ all. all.ext_vals) (values a.ext_vals b.ext_vals) λ ext_vals.
    last (λ all. all.header_len) (unsigned_Decides a.header_len b.header_len) λ header_len. record {
      version = version;
      has_padding = has_padding;
      has_extension = has_extension;
      csrc_count = csrc_count;
      marker = marker;
      payload_type = payload_type;
      sequence_number = sequence_number;
      timestamp = timestamp;
      ssrc = ssrc;
      csrc = csrc;
      ext_vals = ext_vals;
      header_len = header_len;
    }
