-- The data that a kind's values are written as, and what they are read as.
use Rattle.std.proofs.Common.{◌≡◌, ℕ, ◌+◌, ◌*◌, ◌/◌, ◌%◌, ◌<◌, ◌≤◌, ℤ, pos, neg_ℤ, Bool, true, false, List, [], ◌∷◌, ◌++◌, length, Option, Some, None, refl, sym, ap, inl, inr, ⊎_elim, ◌∙◌, arith, eq-eqb, length-take}
use Rattle.std.specs.Prelude.{◌&&◌, nat_le, if◌then◌else◌, unsigned_abs, ◌==◌, map, IsUtf8}
use Rattle.std.specs.Option.{option_map, ForSome}
use Rattle.std.specs.Str.{chars}
use Rattle.std.proofs.lemmas.Bool.{ne_eqb, cases_lt, cases_Bool, and_parts, and_from, leb-true, le-leb}
use Rattle.std.proofs.lemmas.Nat.{div-mul-add, mod-mul-add}
use Rattle.rtp_base.specs.MediaTime.{Fraction}
use Rattle.rtp_base.specs.Overwriting.{overwritten}
use Rattle.rtp_base.proofs.OverwritingLemmas.{overwritten-front}
use Rattle.rtp_base.specs.Id.{before_padding, id_char, IsIdOf}
use Rattle.rtp_vla.specs.Allocation.{Allocation}
use Rattle.rtp_vla.specs.AllocationWritten.{Writable, can_be_written, written_of}
use Rattle.rtp_vla.proofs.AllocationWriting.{Writable-from, can_be_written-from, written_means}
use Rattle.rtp_values.specs.declared.kind.Extension.{Extension}
use Rattle.rtp_values.specs.declared.kind.Extension.TheVariants.{AbsoluteSendTime, AbsoluteCaptureTime, AudioLevel, TransmissionTimeOffset, VideoOrientation, TransportSequenceNumber, PlayoutDelay, VideoTiming, RtpStreamId, RepairedRtpStreamId, RtpMid, FrameMarking, VideoLayersAllocation}
use Rattle.rtp_values.specs.declared.value.values.ExtensionValues.{ExtensionValues}
use Rattle.rtp_values.specs.declared.value.abs_capture_time.AbsCaptureTime as capture
use Rattle.rtp_values.specs.declared.value.video_timing.VideoTiming as timing
use Rattle.rtp_values.specs.declared.value.video_orientation.VideoOrientation as orientation
use Rattle.rtp_values.specs.declared.value.video_orientation.VideoOrientation.TheVariants.{Deg0, Deg90, Deg180, Deg270}
use Rattle.rtp_base.specs.Flag.{bit}
use Rattle.rtp_values.specs.Values.{Reads, big_endian, offset_of, orientation_of, hundredths}
use Rattle.rtp_values.specs.Spelling.{element_allocation, bytes_of_number, spelled_data, HasRoom, carried_values, longest, send_ticks, delay_of, offset_bytes, orientation_bits, timing_bytes}
use Rattle.rtp_values.specs.KindBytes.{WritesData, IsTextOf}

-- ---- what is written

-- the data of the kind, and what they are read as
pub record AreData (kind : Extension) (values : ExtensionValues) (bytes : List ℕ) : Type 0 where
  pub spelled : spelled_data kind values ≡ Some bytes
  pub read_back : Reads kind bytes (carried_values values)
  pub few : length bytes ≤ longest kind

pub room_of : {spelled : Option (List ℕ)} {bytes : List ℕ} → spelled ≡ Some bytes → length bytes ≤ 255
    → (buf : List ℕ) → (length buf < 255 → ForSome spelled (λ some. length some ≤ length buf)) → length bytes ≤ length buf
room_of {bytes} is few buf room =
    elim (cases_lt (length buf) 255) [ inl below ↦ room below bytes is | inr enough ↦ omega arith ]

-- how long the data of a kind may be
pub longest-fits : (kind : Extension) → longest kind ≤ 255
longest-fits VideoLayersAllocation = omega arith
longest-fits _ = omega arith

module _ {kind : Extension} {values : ExtensionValues} {bytes : List ℕ} (are : AreData kind values bytes) where
  pub room_for : (buf : List ℕ) → HasRoom kind values buf → length bytes ≤ length buf
  room_for buf room = room_of are.spelled (omega (arith, are.few, longest-fits kind)) buf room

  pub WritesData-put : {old new : List ℕ} {result : ℕ} → result ≡ length bytes → new ≡ overwritten old 0 bytes → WritesData kind values old new (Some result)
  WritesData-put {old} len put = record {
    length_is = ap Some len ∙ ap (option_map length) (sym are.spelled);
    written = rw are.spelled (put ∙ overwritten-front old bytes);
    read_back = rw are.spelled are.read_back;
    few = rw are.spelled are.few;
  }

-- ---- a byte read again

abbrev pub level_byte : ℤ → Bool → ℕ
level_byte level voice = bit voice * 128 + unsigned_abs level % 128

level_again : (n : ℕ) (voice : Bool) → ((bit voice * 128 + n % 128) % 128 ≡ n % 128) × (((bit voice * 128 + n % 128) / 128 == 1) ≡ voice)
level_again n false = (omega arith, ne_eqb _ 1 (omega arith))
level_again n true = (omega arith, eq-eqb _ 1 (omega arith))

timing_again : (t : timing.VideoTiming) (start finish complete left : ℕ) → start ≡ t.encode_start → finish ≡ t.encode_finish
    → complete ≡ t.packetize_complete → left ≡ t.last_left_pacer
    → t ≡ record { flags = t.flags; encode_start = start; encode_finish = finish; packetize_complete = complete; last_left_pacer = left }
timing_again t start finish complete left start-is finish-is complete-is left-is = rw (start-is, finish-is, complete-is, left-is) refl

capture_again : (t : capture.AbsCaptureTime) (word : ℕ) (offset : Option ℤ) → word ≡ t.capture_time → offset ≡ t.clock_offset
    → t ≡ record { capture_time = word; clock_offset = offset }
capture_again t word offset word-is offset-is = rw (word-is, offset-is) refl

pub length-offset_bytes : (offset : Option ℤ) → length (offset_bytes offset) ≤ 8
length-offset_bytes None = omega arith
length-offset_bytes (Some offset) = omega arith

orientation_again : (turn : orientation.VideoOrientation) → turn ≡ orientation_of (orientation_bits turn % 4)
orientation_again Deg0 = refl
orientation_again Deg90 = refl
orientation_again Deg180 = refl
orientation_again Deg270 = refl

-- ---- the text of an id

-- the text of an id is the data of a kind that keeps the id, and is read as it
AreData-id : {kind : Extension} {values : ExtensionValues} (size : ℕ) {id text : List ℕ} → size ≤ longest kind → spelled_data kind values ≡ Some (before_padding id)
    → ((bytes : List ℕ) → IsUtf8 bytes → IsIdOf size bytes id → Reads kind bytes (carried_values values)) → IsTextOf size id text → AreData kind values text
AreData-id size {id} {text} enough spelled reads is = record {
  spelled = spelled ∙ ap Some (sym is.text_is);
  read_back = reads _ is.utf8 is.same;
  few = omega (arith, ap length (is.text_is ∙ is.same.text_is), length-take size (map id_char (chars text)));
}

-- ---- kind by kind

module _ (values : ExtensionValues) where
  pub spelled-send_time : {micros ticks : ℕ} → values.abs_send_time ≡ Some micros → ticks ≡ send_ticks micros → spelled_data AbsoluteSendTime values ≡ Some (bytes_of_number 3 ticks)
  spelled-send_time is ticks-is = rw (is, ticks-is) refl

  pub AreData-send_time : {micros ticks : ℕ} → values.abs_send_time ≡ Some micros → ticks ≡ send_ticks micros → big_endian (bytes_of_number 3 ticks) ≡ ticks
      → AreData AbsoluteSendTime values (bytes_of_number 3 ticks)
  unfolding carried_values
  AreData-send_time is ticks-is back = record {
    spelled = spelled-send_time is ticks-is;
    read_back = (omega arith, rw is (ap (λ (ticks : ℕ). Some (ticks * 1000000 / 262144)) (sym (back ∙ ticks-is))));
    few = omega arith;
  }

  pub spelled-transmission_offset : {offset : ℕ} → values.tx_time_offs ≡ Some offset → spelled_data TransmissionTimeOffset values ≡ Some (bytes_of_number 4 offset)
  spelled-transmission_offset is = rw is refl

  pub AreData-transmission_offset : {offset : ℕ} → values.tx_time_offs ≡ Some offset → big_endian (bytes_of_number 4 offset) ≡ offset → AreData TransmissionTimeOffset values (bytes_of_number 4 offset)
  unfolding carried_values
  AreData-transmission_offset is back = record {
    spelled = spelled-transmission_offset is;
    read_back = (omega arith, rw is (ap Some (sym back)));
    few = omega arith;
  }

  pub spelled-transport : {number : ℕ} → values.transport_cc ≡ Some number → spelled_data TransportSequenceNumber values ≡ Some (bytes_of_number 2 number)
  spelled-transport is = rw is refl

  pub AreData-transport : {number : ℕ} → values.transport_cc ≡ Some number → big_endian (bytes_of_number 2 number) ≡ number → AreData TransportSequenceNumber values (bytes_of_number 2 number)
  unfolding carried_values
  AreData-transport is back = record {
    spelled = spelled-transport is;
    read_back = (omega arith, rw is (ap Some (sym back)));
    few = omega arith;
  }

  pub spelled-frame_marking : {marking : ℕ} → values.frame_mark ≡ Some marking → spelled_data FrameMarking values ≡ Some (bytes_of_number 4 marking)
  spelled-frame_marking is = rw is refl

  pub AreData-frame_marking : {marking : ℕ} → values.frame_mark ≡ Some marking → big_endian (bytes_of_number 4 marking) ≡ marking → AreData FrameMarking values (bytes_of_number 4 marking)
  unfolding carried_values
  AreData-frame_marking is back = record {
    spelled = spelled-frame_marking is;
    read_back = (omega arith, rw is (ap Some (sym back)));
    few = omega arith;
  }

  pub spelled-orientation : {turn : orientation.VideoOrientation} {byte : ℕ} → values.video_orientation ≡ Some turn → byte ≡ orientation_bits turn
      → spelled_data VideoOrientation values ≡ Some (byte ∷ [])
  spelled-orientation is byte-is = rw (is, byte-is) refl

  pub AreData-orientation : {turn : orientation.VideoOrientation} {byte : ℕ} → values.video_orientation ≡ Some turn → byte ≡ orientation_bits turn
      → AreData VideoOrientation values (byte ∷ [])
  unfolding carried_values
  AreData-orientation {turn} is byte-is = record {
    spelled = spelled-orientation is byte-is;
    read_back = (omega arith, rw (is, byte-is) (ap Some (orientation_again turn)));
    few = omega arith;
  }

  pub spelled-level : {level : ℤ} {voice : Bool} {byte : ℕ} → values.audio_level ≡ Some level → values.voice_activity ≡ Some voice → byte ≡ level_byte level voice
      → spelled_data AudioLevel values ≡ Some (byte ∷ [])
  spelled-level level-is voice-is byte-is = rw (level-is, voice-is, byte-is) refl

  pub AreData-level : {level : ℤ} {voice : Bool} {byte : ℕ} → values.audio_level ≡ Some level → values.voice_activity ≡ Some voice → byte ≡ level_byte level voice
      → AreData AudioLevel values (byte ∷ [])
  unfolding carried_values
  AreData-level {level} {voice} level-is voice-is byte-is =
      let again = level_again (unsigned_abs level) voice in
      record {
        spelled = spelled-level level-is voice-is byte-is;
        read_back = (
          omega arith,
          rw (level-is, voice-is, byte-is) (ap (λ (n : ℕ). Some (neg_ℤ (pos n))) (sym again.0)),
          rw (level-is, voice-is, byte-is) (ap Some (sym again.1)),
        );
        few = omega arith;
      }

  pub spelled-delays : {min max : Fraction} {least most : ℕ} → values.play_delay_min ≡ Some min → values.play_delay_max ≡ Some max
      → least ≡ delay_of min → most ≡ delay_of max → spelled_data PlayoutDelay values ≡ Some (bytes_of_number 3 (least * 4096 + most))
  spelled-delays min-is max-is least-is most-is = rw (min-is, max-is, least-is, most-is) refl

  pub AreData-delays : {min max : Fraction} {least most : ℕ} → values.play_delay_min ≡ Some min → values.play_delay_max ≡ Some max
      → least ≡ delay_of min → most ≡ delay_of max → big_endian (bytes_of_number 3 (least * 4096 + most)) ≡ least * 4096 + most
      → AreData PlayoutDelay values (bytes_of_number 3 (least * 4096 + most))
  unfolding carried_values
  AreData-delays {min} {max} {least} {most} min-is max-is least-is most-is back =
      let below : most < 4096 = omega arith in
      record {
        spelled = spelled-delays min-is max-is least-is most-is;
        read_back = (
          omega arith,
          rw (min-is, max-is) (ap (λ (n : ℕ). Some (hundredths n)) (sym (ap (λ (n : ℕ). n / 4096) back ∙ div-mul-add least 4096 most below ∙ least-is))),
          rw (min-is, max-is) (ap (λ (n : ℕ). Some (hundredths n)) (sym (ap (λ (n : ℕ). n % 4096) back ∙ mod-mul-add least 4096 most below ∙ most-is))),
        );
        few = omega arith;
      }

  pub spelled-timing : {t : timing.VideoTiming} {bytes : List ℕ} → values.video_timing ≡ Some t → bytes ≡ timing_bytes t → spelled_data VideoTiming values ≡ Some bytes
  spelled-timing is bytes-are = rw is (ap Some (sym bytes-are))

  pub AreData-timing : {t : timing.VideoTiming} {bytes : List ℕ} → values.video_timing ≡ Some t → bytes ≡ timing_bytes t
      → big_endian (bytes_of_number 2 t.encode_start) ≡ t.encode_start → big_endian (bytes_of_number 2 t.encode_finish) ≡ t.encode_finish
      → big_endian (bytes_of_number 2 t.packetize_complete) ≡ t.packetize_complete → big_endian (bytes_of_number 2 t.last_left_pacer) ≡ t.last_left_pacer
      → AreData VideoTiming values bytes
  unfolding carried_values
  AreData-timing is bytes-are start finish complete left = record {
    spelled = spelled-timing is bytes-are;
    read_back = rw bytes-are (omega arith, rw is (ap Some (timing_again _ _ _ _ _ start finish complete left)));
    few = rw bytes-are (omega arith);
  }

  pub spelled-capture : {t : capture.AbsCaptureTime} {offset : Option ℤ} → values.abs_capture_time ≡ Some t → t.clock_offset ≡ offset
      → spelled_data AbsoluteCaptureTime values ≡ Some (bytes_of_number 8 t.capture_time ++ offset_bytes offset)
  spelled-capture is offset-is = rw (is, offset-is) refl

  pub AreData-capture : {t : capture.AbsCaptureTime} {offset : Option ℤ} → values.abs_capture_time ≡ Some t → t.clock_offset ≡ offset
      → big_endian (bytes_of_number 8 t.capture_time) ≡ t.capture_time → offset_of (offset_bytes offset) ≡ offset
      → AreData AbsoluteCaptureTime values (bytes_of_number 8 t.capture_time ++ offset_bytes offset)
  unfolding carried_values
  AreData-capture {t} {offset} is offset-is word back = record {
    spelled = spelled-capture is offset-is;
    read_back = (omega arith, rw is (ap Some (capture_again _ _ _ word (back ∙ sym offset-is))));
    few = omega (arith, length-offset_bytes offset);
  }

  pub AreData-rid : {id text : List ℕ} → values.rid ≡ Some id → IsTextOf 8 id text → AreData RtpStreamId values text
  unfolding carried_values
  AreData-rid is = AreData-id 8 (omega arith) (rw is refl) (λ _ utf8 back. (utf8, rw is back))

  pub AreData-repaired : {id text : List ℕ} → values.rid_repair ≡ Some id → IsTextOf 8 id text → AreData RepairedRtpStreamId values text
  unfolding carried_values
  AreData-repaired is = AreData-id 8 (omega arith) (rw is refl) (λ _ utf8 back. (utf8, rw is back))

  pub AreData-mid : {id text : List ℕ} → values.mid ≡ Some id → IsTextOf 16 id text → AreData RtpMid values text
  unfolding carried_values
  AreData-mid is = AreData-id 16 (omega arith) (rw is refl) (λ _ utf8 back. (utf8, rw is back))

-- ---- the layer allocation

-- whether an element carries it, by the length that is measured
carries : (a : Allocation) (carried : Bool) (len : ℕ) → Some len ≡ option_map length (option_map written_of (if carried then Some a else None)) → carried ≡ true
carries a true len is = refl
carries a false len is = cc

-- and the length that is measured, where one does
pub measured-allocation : (values : ExtensionValues) (a : Allocation) (len : ℕ) → values.video_layers_allocation ≡ Some a → Writable a → len ≡ length (written_of a) → len ≤ 255
    → Some len ≡ option_map length (spelled_data VideoLayersAllocation values)
measured-allocation values a len is writable len-is few =
    let carried : (can_be_written a && nat_le (length (written_of a)) 255) ≡ true = and_from _ _ (can_be_written-from a writable) (le-leb (length (written_of a)) 255 (omega (arith, len-is, few))) in
    rw (is, carried, len-is) refl

-- where it can't be written in 255 bytes there are no data
pub not_carried : (a : Allocation) → (Writable a → length (written_of a) ≤ 255 → ⊥) → element_allocation (Some a) ≡ None
not_carried a never =
    ⊎_elim
    (λ yes. let parts = and_parts _ _ yes in absurd (never (Writable-from a parts.0) (leb-true _ _ parts.1)))
    (λ e. rw e refl)
    (cases_Bool (can_be_written a && nat_le (length (written_of a)) 255))

module _ {shown values : ExtensionValues} (same : shown ≡ values) {a : Allocation} (is : shown.video_layers_allocation ≡ Some a) {len : ℕ}
    (measured : Some len ≡ option_map length (spelled_data VideoLayersAllocation values)) where
  carried-allocation : (can_be_written a && nat_le (length (written_of a)) 255) ≡ true
  carried-allocation =
      carries a _ len (measured ∙ rw (← same, is) refl)

  pub Writable-allocation : Writable a
  Writable-allocation = Writable-from a (and_parts _ _ carried-allocation).0

  pub AreData-allocation : AreData VideoLayersAllocation values (written_of a)
  unfolding carried_values
  AreData-allocation =
      let both = and_parts (can_be_written a) (nat_le (length (written_of a)) 255) carried-allocation in
      record {
        spelled = rw (← same, is, carried-allocation) refl;
        read_back = rw (← same, is, carried-allocation) (written_means a both.0).0;
        few = leb-true _ _ both.1;
      }
