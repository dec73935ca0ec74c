-- What the tables of the kinds are made of: a row for each kind, with what is proved of it.
use Rattle.std.proofs.Common.{◌≡◌, Bool, false, is_some, ℕ, ◌<◌, ◌≤◌, ◌⊎◌, inl, inr, List, length, take, drop, get_or, Option, Some, None, IsSomeAnd, eqb, refl, sym, ◌∙◌, arith}
use Rattle.std.specs.Prelude.{◌||◌, ◌*◌, ◌/◌, ◌%◌, IsUtf8, slice_index, slice_index_or, slice_range, neg_ℤ, pos}
use Rattle.std.specs.Str.{is_utf8}
use Rattle.std.proofs.lemmas.Bool.{cases_lt, cases_Bool, false≢true}
use Rattle.std.proofs.lemmas.Str.{IsUtf8-from_is_utf8, is_utf8-from_IsUtf8}
use Rattle.rtp_base.specs.Id.{id_text, padded}
use Rattle.rtp_base.proofs.IdLemmas.{IsIdOf-padded}
use Rattle.rtp_vla.specs.Allocation.{Allocation, Means}
use Rattle.rtp_vla.proofs.AllocationParts.{AreBytes-from}
use Rattle.rtp_vla.proofs.MeaningOrNone.{means_or_none}
use Rattle.rtp_values.specs.declared.kind.Extension.{Extension}
use Rattle.rtp_values.specs.declared.kind.Extension.TheVariants as extension
use Rattle.rtp_values.specs.declared.value.values.ExtensionValues.{ExtensionValues}
use Rattle.rtp_values.specs.declared.known_kind.KnownKind.{KnownKind}
use Rattle.rtp_values.specs.declared.known_kind.KnownKind.TheVariants as known
use Rattle.rtp_values.specs.KnownKind.{extension_of_kind, every_kind, place}
use Rattle.rtp_values.specs.Values.{no_values, big_endian, offset_of, orientation_of, hundredths, Reads, IsWellFormed, SameFields}

-- well-formed for the kind, or not
abbrev pub WellFormedOrNot : Extension → List ℕ → Type 0
WellFormedOrNot kind bytes = IsWellFormed kind bytes ⊎ (IsWellFormed kind bytes → ⊥)

-- what is proved of a kind: whether one of its fields is there, that all are absent where none is, and that data are well-formed or not
pub record KindLaws (kind : Extension) : Type 0 where
  pub there : ExtensionValues → Bool
  pub absent : (values : ExtensionValues) → there values ≡ false → SameFields kind no_values values
  pub either : (bytes : List ℕ) → ((i : ℕ) → get_or bytes i 0 < 256) → WellFormedOrNot kind bytes

pub none-one : {A : Type 0} (x : Option A) → is_some x ≡ false → x ≡ None
none-one None is = refl
none-one (Some x) is = cc

pub none-both : {A B : Type 0} (x : Option A) (y : Option B) → (is_some x || is_some y) ≡ false → (x ≡ None) × (y ≡ None)
none-both None None is = (refl, refl)
none-both (Some x) y is = cc
none-both None (Some y) is = cc

-- data of a kind that only wants enough bytes, and says these values
pub enough_or_not : (kind : Extension) (bytes : List ℕ) (least : ℕ) (values : ExtensionValues) → (least ≤ length bytes → Reads kind bytes values)
    → (IsWellFormed kind bytes → least ≤ length bytes) → WellFormedOrNot kind bytes
enough_or_not kind bytes least values reads wants = elim (cases_lt (length bytes) least) [
  | inl short ↦ inr (λ is. let long = wants is in absurd (omega arith))
  | inr long ↦ inl (values, reads long)
]

-- data of a kind that wants a text in UTF-8, and says these values
pub text_or_not : (kind : Extension) (bytes : List ℕ) (values : ExtensionValues) → (IsUtf8 bytes → Reads kind bytes values)
    → (IsWellFormed kind bytes → IsUtf8 bytes) → WellFormedOrNot kind bytes
text_or_not kind bytes values reads wants = elim (cases_Bool (is_utf8 bytes)) [
  | inl utf8 ↦ inl (values, reads (IsUtf8-from_is_utf8 bytes utf8))
  | inr other ↦ inr (λ is. false≢true (sym other ∙ is_utf8-from_IsUtf8 bytes (wants is)))
]

-- no allocation is one that the data mean
pub not_meant : (bytes : List ℕ) (allocation : Option Allocation) → ((a : Allocation) → Means bytes a → ⊥) → IsSomeAnd allocation (Means bytes) → ⊥
not_meant bytes None none is = absurd is
not_meant bytes (Some a) none is = none a is

-- the rows of the known kinds
abbrev pub laws : (kind : KnownKind) → KindLaws (extension_of_kind kind)
laws known.AbsoluteSendTime = record {
  there = λ values. is_some values.abs_send_time;
  absent = λ values is. rw (none-one values.abs_send_time is) refl;
  either = λ bytes all. enough_or_not extension.AbsoluteSendTime bytes 3 (record no_values { abs_send_time = Some (big_endian (take 3 bytes) * 1000000 / 262144) }) (λ long. (long, refl)) (λ is. is.1.0);
}
laws known.AbsoluteCaptureTime = record {
  there = λ values. is_some values.abs_capture_time;
  absent = λ values is. rw (none-one values.abs_capture_time is) refl;
  either = λ bytes all. enough_or_not extension.AbsoluteCaptureTime bytes 8 (record no_values { abs_capture_time = Some (record { capture_time = big_endian (take 8 bytes); clock_offset = offset_of (drop 8 bytes) }) })
      (λ long. (long, refl)) (λ is. is.1.0);
}
laws known.AudioLevel = record {
  there = λ values. is_some values.audio_level || is_some values.voice_activity;
  absent = λ values is. let none = none-both values.audio_level values.voice_activity is in rw (none.0, none.1) refl;
  either = λ bytes all. enough_or_not extension.AudioLevel bytes 1 (record no_values { audio_level = Some (neg_ℤ (pos (slice_index bytes 0 % 128))); voice_activity = Some (eqb (slice_index bytes 0 / 128) 1) })
      (λ long. (long, refl, refl)) (λ is. is.1.0);
}
laws known.TransmissionTimeOffset = record {
  there = λ values. is_some values.tx_time_offs;
  absent = λ values is. rw (none-one values.tx_time_offs is) refl;
  either = λ bytes all. enough_or_not extension.TransmissionTimeOffset bytes 4 (record no_values { tx_time_offs = Some (big_endian (take 4 bytes)) }) (λ long. (long, refl)) (λ is. is.1.0);
}
laws known.VideoOrientation = record {
  there = λ values. is_some values.video_orientation;
  absent = λ values is. rw (none-one values.video_orientation is) refl;
  either = λ bytes all. enough_or_not extension.VideoOrientation bytes 1 (record no_values { video_orientation = Some (orientation_of (slice_index bytes 0 % 4)) }) (λ long. (long, refl)) (λ is. is.1.0);
}
laws known.TransportSequenceNumber = record {
  there = λ values. is_some values.transport_cc;
  absent = λ values is. rw (none-one values.transport_cc is) refl;
  either = λ bytes all. enough_or_not extension.TransportSequenceNumber bytes 2 (record no_values { transport_cc = Some (big_endian (take 2 bytes)) }) (λ long. (long, refl)) (λ is. is.1.0);
}
laws known.PlayoutDelay = record {
  there = λ values. is_some values.play_delay_min || is_some values.play_delay_max;
  absent = λ values is. let none = none-both values.play_delay_min values.play_delay_max is in rw (none.0, none.1) refl;
  either = λ bytes all. enough_or_not extension.PlayoutDelay bytes 3 (record no_values {
    play_delay_min = Some (hundredths (big_endian (take 3 bytes) / 4096));
    play_delay_max = Some (hundredths (big_endian (take 3 bytes) % 4096));
  }) (λ long. (long, refl, refl)) (λ is. is.1.0);
}
laws known.VideoContentType = record {
  there = λ values. is_some values.video_content_type;
  absent = λ values is. rw (none-one values.video_content_type is) refl;
  either = λ bytes all. enough_or_not extension.VideoContentType bytes 1 (record no_values { video_content_type = Some (slice_index bytes 0) }) (λ long. (long, refl)) (λ is. is.1.0);
}
laws known.VideoTiming = record {
  there = λ values. is_some values.video_timing;
  absent = λ values is. rw (none-one values.video_timing is) refl;
  either = λ bytes all. enough_or_not extension.VideoTiming bytes 9 (record no_values {
    video_timing = Some (record {
      flags = slice_index bytes 0;
      encode_start = big_endian (slice_range bytes 1 3);
      encode_finish = big_endian (slice_range bytes 3 5);
      packetize_complete = big_endian (slice_range bytes 5 7);
      last_left_pacer = big_endian (slice_range bytes 7 9);
    });
  }) (λ long. (long, refl)) (λ is. is.1.0);
}
laws known.RtpStreamId = record {
  there = λ values. is_some values.rid;
  absent = λ values is. rw (none-one values.rid is) refl;
  either = λ bytes all. text_or_not extension.RtpStreamId bytes (record no_values { rid = Some (padded 8 (id_text 8 bytes)) }) (λ utf8. (utf8, IsIdOf-padded 8 bytes)) (λ is. is.1.0);
}
laws known.RepairedRtpStreamId = record {
  there = λ values. is_some values.rid_repair;
  absent = λ values is. rw (none-one values.rid_repair is) refl;
  either = λ bytes all. text_or_not extension.RepairedRtpStreamId bytes (record no_values { rid_repair = Some (padded 8 (id_text 8 bytes)) }) (λ utf8. (utf8, IsIdOf-padded 8 bytes)) (λ is. is.1.0);
}
laws known.RtpMid = record {
  there = λ values. is_some values.mid;
  absent = λ values is. rw (none-one values.mid is) refl;
  either = λ bytes all. text_or_not extension.RtpMid bytes (record no_values { mid = Some (padded 16 (id_text 16 bytes)) }) (λ utf8. (utf8, IsIdOf-padded 16 bytes)) (λ is. is.1.0);
}
laws known.FrameMarking = record {
  there = λ values. is_some values.frame_mark;
  absent = λ values is. rw (none-one values.frame_mark is) refl;
  either = λ bytes all. enough_or_not extension.FrameMarking bytes 4 (record no_values { frame_mark = Some (big_endian (take 4 bytes)) }) (λ long. (long, refl)) (λ is. is.1.0);
}
laws known.ColorSpace = record {
  there = λ values. false;
  absent = λ values is. refl;
  either = λ bytes all. inr (λ is. absurd is.1);
}
laws known.VideoLayersAllocation = record {
  there = λ values. is_some values.video_layers_allocation;
  absent = λ values is. rw (none-one values.video_layers_allocation is) refl;
  either = λ bytes all. elim (means_or_none bytes (AreBytes-from bytes all)) [
    | inl means ↦ inl (record no_values { video_layers_allocation = Some means.0 }, means.1)
    | inr none ↦ inr (λ is. not_meant bytes is.0.video_layers_allocation none is.1)
  ];
}

pub well_formed_or_not : (kind : Extension) (bytes : List ℕ) → ((i : ℕ) → get_or bytes i 0 < 256) → WellFormedOrNot kind bytes
well_formed_or_not (extension.UnknownUri uri) bytes all = inr (λ is. absurd is.1)
well_formed_or_not kind bytes all = (laws (slice_index_or every_kind (place kind) known.ColorSpace)).either bytes all
