-- No data but those of a text are empty.
use Rattle.std.proofs.Common.{◌≡◌, ◌≢◌, ◌≤◌, ℕ, false, length, [], ◌∷◌, length-append, arith, List, Option, Some, None, refl}
use Rattle.std.specs.Prelude.{IfSome}
use Rattle.std.specs.Option.{option_map}
use Rattle.std.proofs.lemmas.Bool.{ne_eqb, or_parts}
use Rattle.rtp_vla.proofs.AllocationWritingLemmas.{written-long}
use Rattle.rtp_values.specs.declared.kind.Extension.{Extension}
use Rattle.rtp_values.specs.declared.kind.Extension.TheVariants.{AbsoluteCaptureTime, AudioLevel, PlayoutDelay, RtpStreamId, RepairedRtpStreamId, RtpMid, ColorSpace, VideoLayersAllocation, UnknownUri}
use Rattle.rtp_values.specs.declared.known_kind.KnownKind.{KnownKind}
use Rattle.rtp_values.specs.declared.known_kind.KnownKind.TheVariants as known
use Rattle.rtp_values.specs.KnownKind.{extension_of_kind}
use Rattle.rtp_values.specs.declared.value.values.ExtensionValues.{ExtensionValues}
use Rattle.rtp_values.specs.Spelling.{has_no_data, has_empty_text, bytes_of_number, offset_bytes, of_both, element_allocation, spelled_data}

-- data that are made of a value have some bytes, or are absent with it
some_data : {A : Type 0} (f : A → List ℕ) (value : Option A) → ((x : A) → 1 ≤ length (f x)) → IfSome (option_map f value) (λ bytes. 1 ≤ length bytes)
some_data f None some = tt
some_data f (Some x) some = some x

some_of_both : {A B : Type 0} (f : A → B → List ℕ) (first : Option A) (second : Option B) → ((x : A) (y : B) → 1 ≤ length (f x y)) → IfSome (of_both f first second) (λ bytes. 1 ≤ length bytes)
some_of_both f None second some = tt
some_of_both f (Some x) None some = tt
some_of_both f (Some x) (Some y) some = some x y

full : (some : Option (List ℕ)) → IfSome some (λ bytes. 1 ≤ length bytes) → has_no_data some ≡ false
full None long = refl
full (Some bytes) long = ne_eqb (length bytes) 0 (λ none. omega (arith, long, none))

not_empty : (some : Option (List ℕ)) → has_no_data some ≡ false → IfSome some (λ bytes. 1 ≤ length bytes)
not_empty None long = tt
not_empty (Some []) long = cc
not_empty (Some (byte ∷ bytes)) long = omega arith

-- a kind whose data are a text
abbrev IsText : Extension → Type 0
IsText RtpStreamId = Unit {0}
IsText RepairedRtpStreamId = Unit {0}
IsText RtpMid = Unit {0}
IsText _ = ⊥

-- the data of a kind have some bytes, where the text of one that has a text isn't empty
some_but_text : (kind : Extension) (values : ExtensionValues) → (IsText kind → has_no_data (spelled_data kind values) ≡ false) → IfSome (spelled_data kind values) (λ bytes. 1 ≤ length bytes)
some_but_text RtpStreamId values text = not_empty _ (text tt)
some_but_text RepairedRtpStreamId values text = not_empty _ (text tt)
some_but_text RtpMid values text = not_empty _ (text tt)
some_but_text AbsoluteCaptureTime values text =
    some_data _ values.abs_capture_time (λ x. omega (arith, length-append (bytes_of_number 8 x.capture_time) (offset_bytes x.clock_offset)))
some_but_text AudioLevel values text = some_of_both _ values.audio_level values.voice_activity (λ x y. omega arith)
some_but_text PlayoutDelay values text = some_of_both _ values.play_delay_min values.play_delay_max (λ x y. omega arith)
some_but_text VideoLayersAllocation values text = some_data _ (element_allocation values.video_layers_allocation) (λ x. omega (arith, written-long x))
some_but_text ColorSpace values text = tt
some_but_text (UnknownUri uri) values text = tt
some_but_text _ values text = some_data _ _ (λ x. omega arith)

no_text : (kind : KnownKind) → kind ≢ known.RtpStreamId → kind ≢ known.RepairedRtpStreamId → kind ≢ known.RtpMid → IsText (extension_of_kind kind) → ⊥
no_text known.RtpStreamId a b c text = a refl
no_text known.RepairedRtpStreamId a b c text = b refl
no_text known.RtpMid a b c text = c refl
no_text _ a b c text = text

-- no data but those of a text are empty
pub no_empty_data : (kind : KnownKind) (values : ExtensionValues) → kind ≢ known.RtpStreamId → kind ≢ known.RepairedRtpStreamId → kind ≢ known.RtpMid
    → has_no_data (spelled_data (extension_of_kind kind) values) ≡ false
no_empty_data kind values a b c = full _ (some_but_text (extension_of_kind kind) values (λ text. absurd (no_text kind a b c text)))

texts : (values : ExtensionValues) → has_empty_text values ≡ false → (kind : Extension) → IsText kind → has_no_data (spelled_data kind values) ≡ false
texts values full RtpMid text = (or_parts (has_no_data (spelled_data RtpMid values)) _ full).0
texts values full RtpStreamId text = (or_parts (has_no_data (spelled_data RtpStreamId values)) _ (or_parts (has_no_data (spelled_data RtpMid values)) _ full).1).0
texts values full RepairedRtpStreamId text = (or_parts (has_no_data (spelled_data RtpStreamId values)) _ (or_parts (has_no_data (spelled_data RtpMid values)) _ full).1).1
texts values full _ text = absurd text

-- nor those, where no text is
pub no_empty_text : (kind : Extension) (values : ExtensionValues) → has_empty_text values ≡ false → has_no_data (spelled_data kind values) ≡ false
no_empty_text kind values no_text = full _ (some_but_text kind values (texts values no_text kind))
