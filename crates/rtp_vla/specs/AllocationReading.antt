-- An allocation read from left to right: what the functions of `parsing` promise each other.
use Rattle.std.specs.Prelude.{◌≡◌, ℕ, zero, suc, ◌+◌, ◌-◌, ◌*◌, ◌/◌, ◌%◌, ◌<◌, ◌≤◌, ◌==◌, List, [], ◌∷◌, ◌++◌, length, take, drop, Bool, true, false, Option, Some, None, if◌then◌else◌}
use Rattle.std.specs.List.{AllByRecursion}
use Rattle.rtp_vla.specs.declared.allocation.ResolutionAndFramerate.{ResolutionAndFramerate}
use Rattle.rtp_vla.specs.LebReading.{leb_value, leb_rest}
use Rattle.rtp_vla.specs.Allocation.{Layer, Stream, Allocation, AreMasks}

-- two masks of each byte, and four counts of each
abbrev pub halves : List ℕ → List ℕ
halves [] = []
halves (byte ∷ bytes) = byte / 16 % 16 ∷ byte % 16 ∷ halves bytes

abbrev pub quarters : List ℕ → List ℕ
quarters [] = []
quarters (byte ∷ bytes) = byte / 64 % 4 ∷ byte / 16 % 4 ∷ byte / 4 % 4 ∷ byte % 4 ∷ quarters bytes

-- the first n counts of a number of 32 bits, two bits each from the highest on
unfoldable pub counts_in : ℕ → ℕ → List ℕ
counts_in zero bits = []
counts_in (suc n) bits = bits / 1073741824 ∷ counts_in n (bits * 4 % 4294967296)

-- whether each layer up to a mask's highest bit is active, from its lowest bit on; a mask has at most `room` bits
abbrev pub mask_bits : ℕ → ℕ → List Bool
mask_bits zero mask = []
mask_bits (suc room) mask = if mask == 0 then [] else ((mask % 2 == 1) ∷ mask_bits room (mask / 2))

unfoldable pub marks_of : ℕ → List Bool
marks_of mask = mask_bits 4 mask

-- how many are marked
abbrev pub marked : List Bool → ℕ
marked [] = 0
marked (true ∷ marks) = suc (marked marks)
marked (false ∷ marks) = marked marks

abbrev pub active_in : ℕ → ℕ
active_in mask = marked (marks_of mask)

-- a layer that isn't active
abbrev pub idle_layer : Layer
idle_layer = record { temporal_layers = []; resolution_and_framerate = None }

-- an allocation with one more stream
abbrev pub and_stream : Allocation → Stream → Allocation
and_stream a stream = record a { simulcast_streams = a.simulcast_streams ++ stream ∷ [] }

-- how many layers more the last of the streams can have, where a stream has at most four
abbrev pub layer_room : List Stream → ℕ
layer_room [] = 0
layer_room (stream ∷ []) = 4 - length stream
layer_room (stream ∷ next ∷ streams) = layer_room (next ∷ streams)

-- a stream with the next of the active layers wherever one is marked
abbrev pub dealt : List Bool → List Layer → Stream
dealt [] layers = []
dealt (false ∷ marks) layers = idle_layer ∷ dealt marks layers
dealt (true ∷ marks) [] = []
dealt (true ∷ marks) (layer ∷ layers) = layer ∷ dealt marks layers

-- the layer that is dealt: the next one where it is marked
abbrev pub Deals : Bool → List Layer → Layer → List Layer → Type 0
Deals true old layer new = old ≡ layer ∷ new
Deals false old layer new = (layer ≡ idle_layer) × (new ≡ old)

-- how many temporal layers that layer has
abbrev pub next_len : Bool → List Layer → ℕ
next_len false layers = 0
next_len true [] = 0
next_len true (layer ∷ layers) = length layer.temporal_layers

-- the layers that were dealt, and those that the marks still deal, are all of them
pub record DealsOn (items : List Layer) (marks : List Bool) (layers : List Layer) (all rest : List Layer) : Type 0 where
  pub stream : items ++ dealt marks layers ≡ all
  pub others : drop (marked marks) layers ≡ rest
  pub enough : marked marks ≤ length layers

-- a stream for each mask
abbrev pub dealt_streams : List ℕ → List Layer → List Stream
dealt_streams [] layers = []
dealt_streams (mask ∷ masks) layers = dealt (marks_of mask) layers ∷ dealt_streams masks (drop (active_in mask) layers)

-- the first n rates, and what follows them
abbrev pub rates_of : ℕ → List ℕ → List ℕ
rates_of zero bytes = []
rates_of (suc n) bytes = leb_value bytes ∷ rates_of n (leb_rest bytes)

abbrev pub after_rates : ℕ → List ℕ → List ℕ
after_rates zero bytes = bytes
after_rates (suc n) bytes = after_rates n (leb_rest bytes)

-- the resolution in the first five bytes, and what follows it; nothing where there are fewer
abbrev pub resolution_in : List ℕ → Option ResolutionAndFramerate
resolution_in (x ∷ y ∷ z ∷ u ∷ v ∷ bytes) = Some (record { width = 256 * x + y + 1; height = 256 * z + u + 1; framerate = v })
resolution_in bytes = None

abbrev pub after_resolution : List ℕ → List ℕ
after_resolution (x ∷ y ∷ z ∷ u ∷ v ∷ bytes) = bytes
after_resolution bytes = bytes

-- no width or height of the first n resolutions is above 65535
abbrev pub FitResolutions : ℕ → List ℕ → Type 0
FitResolutions zero bytes = Unit {0}
FitResolutions (suc n) (x ∷ y ∷ z ∷ u ∷ v ∷ bytes) = (256 * x + y < 65535) × (256 * z + u < 65535) × FitResolutions n bytes
FitResolutions (suc n) bytes = Unit {0}

-- an active layer for each count, with one rate more than it says
abbrev pub layers_read : List ℕ → List ℕ → List ℕ → List Layer
layers_read [] rates resolutions = []
layers_read (count ∷ counts) rates resolutions =
    record { temporal_layers = rates_of (suc count) rates; resolution_and_framerate = resolution_in resolutions }
    ∷ layers_read counts (after_rates (suc count) rates) (after_resolution resolutions)

-- how many rates there are
abbrev pub rate_count : List ℕ → ℕ
rate_count [] = 0
rate_count (count ∷ counts) = suc count + rate_count counts

-- how many layers are active
abbrev pub active_count : List ℕ → ℕ
active_count [] = 0
active_count (mask ∷ masks) = active_in mask + active_count masks

-- the masks of `count` streams, and what follows them
pub record HasMasks (bytes : List ℕ) (shared count : ℕ) (masks after : List ℕ) : Type 0 where
  pub mask_bytes : List ℕ
  pub bytes_are : bytes ≡ mask_bytes ++ after
  pub as_many : length masks ≡ count
  pub masks_fit : AllByRecursion (λ mask. mask ≤ 15) masks
  pub masks_are : AreMasks shared masks mask_bytes

-- a mask byte is missing
pub record LacksMasks (bytes : List ℕ) (shared count : ℕ) : Type 0 where
  pub spelled : shared ≡ 0
  pub short : length bytes < (count + 1) / 2

-- where the parts are, and what they have
pub record IsLaidOut (bytes : List ℕ) (index : ℕ) (masks : List ℕ) (layers : List Layer) : Type 0 where
  pub shared : ℕ
  pub mask_bytes : List ℕ
  pub count_bytes : List ℕ
  pub rate_bytes : List ℕ
  pub bytes_are : bytes ≡ (64 * index + 16 * (length masks - 1) + shared) ∷ (mask_bytes ++ (count_bytes ++ rate_bytes))
  pub index_fits : index ≤ 3
  pub some_mask : 1 ≤ length masks
  pub few_masks : length masks ≤ 4
  pub shared_fits : shared ≤ 15
  pub masks_fit : AllByRecursion (λ mask. mask ≤ 15) masks
  pub masks_are : AreMasks shared masks mask_bytes
  pub counts_len : length count_bytes ≡ (active_count masks + 3) / 4
  pub layers_are : layers ≡ layers_read (take (active_count masks) (quarters count_bytes)) rate_bytes
      (after_rates (rate_count (take (active_count masks) (quarters count_bytes))) rate_bytes)
  pub resolutions_fit : FitResolutions (active_count masks) (after_rates (rate_count (take (active_count masks) (quarters count_bytes))) rate_bytes)

-- the bytes have no such parts
abbrev pub IsCutShort : List ℕ → Type 0
IsCutShort bytes = (index : ℕ) (masks : List ℕ) (layers : List Layer) → IsLaidOut bytes index masks layers → ⊥
