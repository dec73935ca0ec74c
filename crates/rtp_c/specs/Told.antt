-- Values that may be absent, as C is told of them.
use Rattle.std.specs.Prelude.{◌≡◌, ℕ, ◌+◌, ◌-◌, ℤ, pos, List, ◌++◌, length, replicate, Option, Some, None}
use Rattle.std.specs.Option.{option_map}
use Rattle.rtp_base.specs.Id.{before_padding}
use Rattle.rtp_base.specs.MediaTime.{Fraction}
use Rattle.rtp_values.specs.declared.value.video_orientation.VideoOrientation.{VideoOrientation}
use Rattle.rtp_values.specs.declared.value.video_orientation.VideoOrientation.TheVariants.{Deg0, Deg90, Deg180, Deg270}
use Rattle.rtp_values.specs.declared.value.video_timing.VideoTiming.{VideoTiming}
use Rattle.rtp_c.specs.declared.values.Time.{Time}

-- whether a value is there, as 1 or 0, and the value; of one that is absent this fact holds
abbrev pub IsToldOr : {A : Type 0} → (A → Type 0) → ℕ → A → Option A → Type 0
IsToldOr IsAbsent has told None = (has ≡ 0) × IsAbsent told
IsToldOr IsAbsent has told (Some value) = (has ≡ 1) × (told ≡ value)

-- the same of a number: one that is absent is 0
abbrev pub IsTold : ℕ → ℕ → Option ℕ → Type 0
IsTold has told value = IsToldOr (λ n. n ≡ 0) has told value

abbrev pub IsToldSigned : ℕ → ℤ → Option ℤ → Type 0
IsToldSigned has told value = IsToldOr (λ n. n ≡ pos 0) has told value

-- a time as its fraction
abbrev pub fraction_of : Time → Fraction
fraction_of time = record { numer = time.ticks; denom = time.hertz }

-- the same of a time: one that is absent is 0 ticks of 0 hertz
abbrev pub IsToldTime : ℕ → Time → Option Fraction → Type 0
IsToldTime has told value = IsToldOr (λ time. time ≡ record { numer = 0; denom = 0 }) has (fraction_of told) value

-- the text of an identifier of up to so many characters, and then zeros, of which there is at least one
abbrev pub ended_text : ℕ → List ℕ → List ℕ
ended_text most text = text ++ replicate (most - length text + 1) 0

-- the same of the text of an identifier: one that is absent is zeros alone
abbrev pub IsToldText : ℕ → ℕ → List ℕ → Option (List ℕ) → Type 0
IsToldText most has told value = IsToldOr (λ bytes. bytes ≡ replicate (most + 1) 0) has told (option_map (λ id. ended_text most (before_padding id)) value)

-- a video timing with zeros alone
abbrev pub no_timing : VideoTiming
no_timing = record { flags = 0; encode_start = 0; encode_finish = 0; packetize_complete = 0; last_left_pacer = 0 }

-- the degrees by which the picture is to be turned
abbrev pub degrees_of : VideoOrientation → ℕ
degrees_of Deg0 = 0
degrees_of Deg90 = 90
degrees_of Deg180 = 180
degrees_of Deg270 = 270
