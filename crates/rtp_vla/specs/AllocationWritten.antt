-- Which allocations can be written, and as what bytes (video-layers-allocation00).
use Rattle.std.specs.Prelude.{ℕ, ◌+◌, ◌-◌, ◌*◌, ◌/◌, ◌%◌, ◌<◌, ◌==◌, ◌&&◌, ◌||◌, not, nat_lt, nat_le, List, [], ◌∷◌, ◌++◌, length, map, Bool, true, false, Option, Some, None, is_none, if◌then◌else◌}
use Rattle.std.specs.List.{AllByRecursion, flat_map, list_all}
use Rattle.rtp_vla.specs.declared.allocation.ResolutionAndFramerate.{ResolutionAndFramerate}
use Rattle.rtp_vla.specs.Leb.{shortest_of}
use Rattle.rtp_vla.specs.Allocation.{Layer, Stream, Allocation, is_active, active_layers, mask_of, count_of, Means}

-- ---- Which can be written

-- a layer with neither temporal layers nor a resolution says nothing, and none of them is kept after the last other one
abbrev pub is_bare : Layer → Bool
is_bare layer = not (is_active layer) && is_none layer.resolution_and_framerate

abbrev pub in_front_of : Layer → Stream → Stream
in_front_of layer [] = if is_bare layer then [] else layer ∷ []
in_front_of layer (next ∷ layers) = layer ∷ next ∷ layers

abbrev pub without_bare_tail : Stream → Stream
without_bare_tail [] = []
without_bare_tail (layer ∷ layers) = in_front_of layer (without_bare_tail layers)

-- the allocation without the layers at the end of each stream that have neither temporal layers nor a resolution
abbrev pub trimmed : Allocation → Allocation
trimmed a = record {
  current_simulcast_stream_index = a.current_simulcast_stream_index;
  simulcast_streams = map without_bare_tail a.simulcast_streams;
}

-- an allocation can be written where some bytes mean it without those layers
abbrev pub Writable : Allocation → Type 0
Writable a = (bytes : List ℕ) × AllByRecursion (λ byte. byte < 256) bytes × Means bytes (trimmed a)

-- ---- The same, case by case

-- a layer that isn't active has no resolution
abbrev pub bare_or_active : Layer → Bool
bare_or_active layer = is_active layer || is_none layer.resolution_and_framerate

-- at most four layers up to the last active one, and no resolution on a layer that isn't active
abbrev pub stream_fits : Stream → Bool
stream_fits stream = nat_le (mask_of stream) 15 && list_all bare_or_active stream

-- at most four rates, each below 2^63
abbrev pub rates_fit : List ℕ → Bool
rates_fit rates = nat_le (length rates) 4 && list_all (λ rate. nat_lt rate 9223372036854775808) rates

-- a resolution follows no active layer without one, and has no width or height of 0
abbrev pub resolution_fits : Bool → Option ResolutionAndFramerate → Bool
resolution_fits ended None = true
resolution_fits ended (Some r) =
    not ended && ((nat_lt 0 r.width && nat_lt r.width 65536) && ((nat_lt 0 r.height && nat_lt r.height 65536) && nat_lt r.framerate 256))

abbrev pub resolutions_in_front : Bool → List Layer → Bool
resolutions_in_front ended [] = true
resolutions_in_front ended (layer ∷ layers) =
    resolution_fits ended layer.resolution_and_framerate && resolutions_in_front (is_none layer.resolution_and_framerate) layers

abbrev pub layers_fit : List Layer → Bool
layers_fit layers = list_all (λ layer. rates_fit layer.temporal_layers) layers && resolutions_in_front false layers

-- whether an allocation can be written: nothing is sent, or it has an index of at most 3, one to four streams, and what the masks, counts, rates and resolutions can say
abbrev pub streams_fit : ℕ → List Stream → Bool
streams_fit index [] = index == 0
streams_fit index (stream ∷ streams) =
    (nat_le index 3 && nat_le (length (stream ∷ streams)) 4)
    && (list_all stream_fits (stream ∷ streams) && layers_fit (active_layers (stream ∷ streams)))

abbrev pub can_be_written : Allocation → Bool
can_be_written a = streams_fit a.current_simulcast_stream_index a.simulcast_streams

-- ---- As what bytes

-- the mask that all streams have, and 0 where they have several
abbrev pub shared_of : List ℕ → ℕ
shared_of [] = 0
shared_of (mask ∷ masks) = if list_all (λ other. other == mask) masks then mask else 0

-- two masks a byte; a spare half is 0 after one mask and 15 after three, where the description has zeros
abbrev pub halves_of : ℕ → List ℕ → List ℕ
halves_of spare [] = []
halves_of spare (m ∷ []) = (16 * m + spare) ∷ []
halves_of spare (m ∷ n ∷ masks) = (16 * m + n) ∷ halves_of 15 masks

abbrev pub mask_bytes : List ℕ → List ℕ
mask_bytes masks = if shared_of masks == 0 then halves_of 0 masks else []

-- four counts a byte; spare quarters are 0
abbrev pub quarters_of : List ℕ → List ℕ
quarters_of [] = []
quarters_of (c ∷ []) = (64 * c) ∷ []
quarters_of (c ∷ d ∷ []) = (64 * c + 16 * d) ∷ []
quarters_of (c ∷ d ∷ e ∷ []) = (64 * c + 16 * d + 4 * e) ∷ []
quarters_of (c ∷ d ∷ e ∷ f ∷ counts) = (64 * c + 16 * d + 4 * e + f) ∷ quarters_of counts

-- each rate in its shortest spelling
abbrev pub rate_bytes : Layer → List ℕ
rate_bytes layer = flat_map shortest_of layer.temporal_layers

-- width minus one, height minus one, and the frame rate
abbrev pub resolution_field : Option ResolutionAndFramerate → List ℕ
resolution_field None = []
resolution_field (Some r) = (r.width - 1) / 256 ∷ (r.width - 1) % 256 ∷ (r.height - 1) / 256 ∷ (r.height - 1) % 256 ∷ r.framerate ∷ []

abbrev pub resolution_bytes : Layer → List ℕ
resolution_bytes layer = resolution_field layer.resolution_and_framerate

abbrev pub packed_bytes : ℕ → List Stream → List ℕ
packed_bytes index streams =
    (64 * index + 16 * (length streams - 1) + shared_of (map mask_of streams))
    ∷ (mask_bytes (map mask_of streams)
    ++ (quarters_of (map count_of (active_layers streams))
    ++ (flat_map rate_bytes (active_layers streams) ++ flat_map resolution_bytes (active_layers streams))))

-- the bytes of an allocation: the byte 0 where nothing is sent, and else the first byte, the masks, the counts, the rates and the resolutions
abbrev pub streams_bytes : ℕ → List Stream → List ℕ
streams_bytes index [] = 0 ∷ []
streams_bytes index (stream ∷ streams) = packed_bytes index (stream ∷ streams)

unfoldable pub written_of : Allocation → List ℕ
written_of a = streams_bytes a.current_simulcast_stream_index a.simulcast_streams
