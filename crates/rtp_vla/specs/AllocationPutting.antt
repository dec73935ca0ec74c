-- What the functions of `putting` ask of layers that can be written, and put for their counts.
use Rattle.std.specs.Prelude.{ℕ, ◌+◌, ◌*◌, ◌/◌, ◌%◌, ◌<◌, ◌≤◌, List, [], ◌∷◌, Option, Some, None}
use Rattle.std.specs.List.{AllByRecursion}
use Rattle.rtp_vla.specs.declared.allocation.ResolutionAndFramerate.{ResolutionAndFramerate}
use Rattle.rtp_vla.specs.Allocation.{Layer, count_of}

-- what the counts of layers weigh together: the first one's by this weight, and each other's a quarter as much as the one's before it
abbrev pub count_bits : ℕ → List Layer → ℕ
count_bits weight [] = 0
count_bits weight (layer ∷ layers) = count_of layer * weight + count_bits (weight / 4) layers

-- what a count after them weighs
abbrev pub weight_after : ℕ → List Layer → ℕ
weight_after weight [] = weight
weight_after weight (layer ∷ layers) = weight_after (weight / 4) layers

-- the bytes of a number of 32 bits, the highest first
abbrev pub four_bytes : ℕ → List ℕ
four_bytes n = n / 16777216 ∷ n / 65536 % 256 ∷ n / 256 % 256 ∷ n % 256 ∷ []

abbrev pub HasSmallRates : Layer → Type 0
HasSmallRates layer = AllByRecursion (λ rate. rate < 9223372036854775808) layer.temporal_layers

-- no width or height of 0
abbrev pub IsSized : Option ResolutionAndFramerate → Type 0
IsSized None = Unit {0}
IsSized (Some r) = (1 ≤ r.width) × (1 ≤ r.height)

abbrev pub HasSizedResolution : Layer → Type 0
HasSizedResolution layer = IsSized layer.resolution_and_framerate
