-- What the bytes of a layer allocation mean (video-layers-allocation00), part by part.
use Rattle.std.specs.Prelude.{◌≡◌, ℕ, ◌+◌, ◌-◌, ◌*◌, ◌<◌, ◌≤◌, ◌⊎◌, List, [], ◌∷◌, ◌++◌, length, map, Bool, true, false, Option, Some, None, if◌then◌else◌}
use Rattle.std.specs.List.{AllByRecursion, filter, flat_map}
use Rattle.rtp_vla.specs.declared.allocation.ResolutionAndFramerate.{ResolutionAndFramerate}
use Rattle.rtp_vla.specs.Leb.{ReadsLeb}

-- ---- What an allocation is

-- a spatial layer: the rate of each of its temporal layers, and its resolution where it is known
pub record Layer : Type 0 where
  pub temporal_layers : List ℕ
  pub resolution_and_framerate : Option ResolutionAndFramerate

-- a simulcast stream: its spatial layers
abbrev pub Stream : Type 0
Stream = List Layer

-- an allocation: the index of the packet's simulcast stream, and all streams
pub record Allocation : Type 0 where
  pub current_simulcast_stream_index : ℕ
  pub simulcast_streams : List Stream

-- a layer is active where it has temporal layers
abbrev pub is_active : Layer → Bool
is_active layer = elim layer.temporal_layers [ [] ↦ false | rate ∷ rates ↦ true ]

-- the active layers, in order of the streams and then of the layers
abbrev pub active_layers : List Stream → List Layer
active_layers streams = flat_map (filter is_active) streams

-- ---- The masks

-- a number with the bit of value 2^j set where layer j is active
abbrev pub mask_of : Stream → ℕ
mask_of [] = 0
mask_of (layer ∷ layers) = (if is_active layer then 1 else 0) + 2 * mask_of layers

-- one half of a byte for each mask, the high half first; a half that is spare may hold anything
abbrev pub AreHalves : List ℕ → List ℕ → Type 0
AreHalves [] [] = Unit {0}
AreHalves (m ∷ []) (byte ∷ []) = (spare : ℕ) × (spare ≤ 15) × (byte ≡ 16 * m + spare)
AreHalves (m ∷ n ∷ masks) (byte ∷ bytes) = (byte ≡ 16 * m + n) × AreHalves masks bytes
AreHalves masks bytes = ⊥

-- the mask bytes: none where the head has one mask above 0 for all streams
abbrev pub AreMasks : ℕ → List ℕ → List ℕ → Type 0
AreMasks shared masks bytes =
    ((shared ≡ 0) × AreHalves masks bytes) ⊎ ((0 < shared) × AllByRecursion (λ mask. mask ≡ shared) masks × (bytes ≡ []))

-- ---- The counts of temporal layers

-- one quarter of a byte for each count, high quarters first; quarters that are spare may hold anything
abbrev pub AreQuarters : List ℕ → List ℕ → Type 0
AreQuarters [] [] = Unit {0}
AreQuarters (c ∷ []) (byte ∷ []) = (spare : ℕ) × (spare ≤ 63) × (byte ≡ 64 * c + spare)
AreQuarters (c ∷ d ∷ []) (byte ∷ []) = (spare : ℕ) × (spare ≤ 15) × (byte ≡ 64 * c + 16 * d + spare)
AreQuarters (c ∷ d ∷ e ∷ []) (byte ∷ []) = (spare : ℕ) × (spare ≤ 3) × (byte ≡ 64 * c + 16 * d + 4 * e + spare)
AreQuarters (c ∷ d ∷ e ∷ f ∷ counts) (byte ∷ bytes) = (byte ≡ 64 * c + 16 * d + 4 * e + f) × AreQuarters counts bytes
AreQuarters counts bytes = ⊥

-- what is spelled for an active layer: its number of temporal layers minus one
abbrev pub count_of : Layer → ℕ
count_of layer = length layer.temporal_layers - 1

-- ---- The rates

-- each rate is read after the one before it, and 0 where no further number is spelled
abbrev pub AreRates : List ℕ → List ℕ → List ℕ → Type 0
AreRates [] bytes rest = bytes ≡ rest
AreRates (rate ∷ rates) bytes rest = (after : List ℕ) × ReadsLeb bytes rate after × AreRates rates after rest

-- ---- The resolutions

-- two bytes of width minus one, two of height minus one, and one of the frame rate, in frames per second
pub record IsResolution (x y z u v : ℕ) (resolution : ResolutionAndFramerate) : Type 0 where
  pub width : resolution.width ≡ 256 * x + y + 1
  pub height : resolution.height ≡ 256 * z + u + 1
  pub framerate : resolution.framerate ≡ v
  pub width_fits : resolution.width ≤ 65535
  pub height_fits : resolution.height ≤ 65535

-- five bytes for each of the first layers, as far as there are five bytes; what follows may be anything
abbrev pub AreResolutions : List (Option ResolutionAndFramerate) → List ℕ → Type 0
AreResolutions [] bytes = Unit {0}
AreResolutions (first ∷ others) (x ∷ y ∷ z ∷ u ∷ v ∷ bytes) =
    ((resolution : ResolutionAndFramerate) × (first ≡ Some resolution) × IsResolution x y z u v resolution) × AreResolutions others bytes
AreResolutions (first ∷ others) bytes = (first ≡ None) × AllByRecursion (λ other. other ≡ None) others

-- ---- All of it

-- what a mask can say of a stream: at most four layers, of which the last is active and none but an active one has a resolution
abbrev pub EndsActive : Stream → Type 0
EndsActive [] = Unit {0}
EndsActive (layer ∷ []) = is_active layer ≡ true
EndsActive (layer ∷ next ∷ layers) = EndsActive (next ∷ layers)

abbrev pub IsBareUnlessActive : Layer → Type 0
IsBareUnlessActive layer = is_active layer ≡ false → layer.resolution_and_framerate ≡ None

pub record IsReadable (stream : Stream) : Type 0 where
  pub mask_fits : mask_of stream ≤ 15
  pub ends_active : EndsActive stream
  pub bare : AllByRecursion IsBareUnlessActive stream

-- an active layer that a count can say: one to four temporal layers
abbrev pub IsCounted : Layer → Type 0
IsCounted layer = length layer.temporal_layers ≤ 4

-- the bytes are a head, masks, counts, rates and resolutions of the allocation
pub record IsPacked (bytes : List ℕ) (a : Allocation) : Type 0 where
  pub shared : ℕ
  pub mask_bytes : List ℕ
  pub count_bytes : List ℕ
  pub rate_bytes : List ℕ
  pub rest : List ℕ
  pub bytes_are : bytes
      ≡ (64 * a.current_simulcast_stream_index + 16 * (length a.simulcast_streams - 1) + shared) ∷ (mask_bytes ++ (count_bytes ++ rate_bytes))
  pub index_fits : a.current_simulcast_stream_index ≤ 3
  pub some_stream : 1 ≤ length a.simulcast_streams
  pub few_streams : length a.simulcast_streams ≤ 4
  pub shared_fits : shared ≤ 15
  pub readable : AllByRecursion IsReadable a.simulcast_streams
  pub counted : AllByRecursion IsCounted (active_layers a.simulcast_streams)
  pub masks_are : AreMasks shared (map mask_of a.simulcast_streams) mask_bytes
  pub counts_are : AreQuarters (map count_of (active_layers a.simulcast_streams)) count_bytes
  pub rates_are : AreRates (flat_map (λ layer. layer.temporal_layers) (active_layers a.simulcast_streams)) rate_bytes rest
  pub resolutions_are : AreResolutions (map (λ layer. layer.resolution_and_framerate) (active_layers a.simulcast_streams)) rest

-- nothing is sent
abbrev pub nothing_sent : Allocation
nothing_sent = record { current_simulcast_stream_index = 0; simulcast_streams = [] }

-- what the bytes mean: the single byte 0 means that nothing is sent
abbrev pub Means : List ℕ → Allocation → Type 0
Means bytes a = ((bytes ≡ 0 ∷ []) × (a ≡ nothing_sent)) ⊎ IsPacked bytes a
