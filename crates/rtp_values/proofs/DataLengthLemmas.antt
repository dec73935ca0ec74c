-- How many bytes the data of a kind may have.
use Rattle.std.proofs.Common.{◌≡◌, ◌≤◌, ℕ, Bool, true, false, List, length, length-append, Option, Some, None, refl, arith}
use Rattle.std.specs.Prelude.{◌&&◌, nat_le, if◌then◌else◌, IfSome}
use Rattle.std.specs.Option.{option_map}
use Rattle.std.proofs.lemmas.Bool.{and_parts, leb-true}
use Rattle.rtp_base.specs.Id.{before_padding}
use Rattle.rtp_vla.specs.Allocation.{Allocation}
use Rattle.rtp_vla.specs.AllocationWritten.{can_be_written, written_of}
use Rattle.rtp_values.specs.declared.kind.Extension.{Extension}
use Rattle.rtp_values.specs.declared.kind.Extension.TheVariants.{AbsoluteCaptureTime, AudioLevel, PlayoutDelay, RtpStreamId, RepairedRtpStreamId, RtpMid, ColorSpace, VideoLayersAllocation, UnknownUri}
use Rattle.rtp_values.specs.declared.value.values.ExtensionValues.{ExtensionValues}
use Rattle.rtp_values.specs.Spelling.{bytes_of_number, offset_bytes, of_both, element_allocation, spelled_data, longest}
use Rattle.rtp_values.proofs.ValueLemmas.{length-offset_bytes}

few_of : {A : Type 0} (f : A → List ℕ) (most : ℕ) (value : Option A) → ((x : A) → length (f x) ≤ most) → IfSome (option_map f value) (λ bytes. length bytes ≤ most)
few_of f most None few = tt
few_of f most (Some x) few = few x

few_of_both : {A B : Type 0} (f : A → B → List ℕ) (most : ℕ) (first : Option A) (second : Option B) → ((x : A) (y : B) → length (f x y) ≤ most)
    → IfSome (of_both f first second) (λ bytes. length bytes ≤ most)
few_of_both f most None second few = tt
few_of_both f most (Some x) None few = tt
few_of_both f most (Some x) (Some y) few = few x y

-- a text has as many bytes as its id has before the padding
abbrev IsShortText : Option (List ℕ) → Type 0
IsShortText text = IfSome text (λ id. length (before_padding id) ≤ 16)

few_of_text : (text : Option (List ℕ)) → IsShortText text → IfSome (option_map before_padding text) (λ bytes. length bytes ≤ 16)
few_of_text None few = tt
few_of_text (Some id) few = few

few_where : (a : Allocation) (fits : Bool) → (fits ≡ true → length (written_of a) ≤ 255)
    → IfSome (option_map written_of (if fits then Some a else None)) (λ bytes. length bytes ≤ 255)
few_where a true few = few refl
few_where a false few = tt

-- a layer allocation that is written has at most 255 bytes
pub few_of_allocation : (value : Option Allocation) → IfSome (option_map written_of (element_allocation value)) (λ bytes. length bytes ≤ 255)
few_of_allocation None = tt
few_of_allocation (Some a) =
    few_where a (can_be_written a && nat_le (length (written_of a)) 255)
    (λ fits. leb-true _ _ (and_parts (can_be_written a) (nat_le (length (written_of a)) 255) fits).1)

-- where the texts have at most 16 bytes, only a layer allocation has data of more
pub few_data : (kind : Extension) (values : ExtensionValues) → IsShortText values.mid → IsShortText values.rid → IsShortText values.rid_repair
    → IfSome (spelled_data kind values) (λ bytes. length bytes ≤ longest kind)
few_data AbsoluteCaptureTime values mid rid repair =
    few_of _ 16 values.abs_capture_time (λ x. omega (arith, length-append (bytes_of_number 8 x.capture_time) (offset_bytes x.clock_offset), length-offset_bytes x.clock_offset))
few_data AudioLevel values mid rid repair = few_of_both _ 16 values.audio_level values.voice_activity (λ x y. omega arith)
few_data PlayoutDelay values mid rid repair = few_of_both _ 16 values.play_delay_min values.play_delay_max (λ x y. omega arith)
few_data RtpStreamId values mid rid repair = few_of_text values.rid rid
few_data RepairedRtpStreamId values mid rid repair = few_of_text values.rid_repair repair
few_data RtpMid values mid rid repair = few_of_text values.mid mid
few_data ColorSpace values mid rid repair = tt
few_data VideoLayersAllocation values mid rid repair = few_of_allocation values.video_layers_allocation
few_data (UnknownUri uri) values mid rid repair = tt
few_data _ values mid rid repair = few_of _ 16 _ (λ x. omega arith)
