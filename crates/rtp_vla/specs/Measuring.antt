-- What is measured of an allocation that can be written.
use Rattle.std.specs.Prelude.{◌≡◌, ℕ, ◌+◌, List, length, map, take, Bool, true, not}
use Rattle.std.specs.List.{flat_map}
use Rattle.rtp_vla.specs.Allocation.{Layer, Stream, Allocation, active_layers, mask_of}
use Rattle.rtp_vla.specs.AllocationWritten.{layers_fit, resolutions_in_front, rate_bytes, resolution_bytes, shared_of, written_of}

-- how many they are, how many bytes their rates and resolutions have, and whether one has a resolution, so that an active layer without one can't stand before them
pub record AreMeasured (layers : List Layer) (active len : ℕ) (is_sized : Bool) : Type 0 where
  pub fit : layers_fit layers ≡ true
  pub active_is : active ≡ length layers
  pub len_is : len ≡ length (flat_map rate_bytes layers) + length (flat_map resolution_bytes layers)
  pub sized_is : resolutions_in_front true layers ≡ not is_sized

-- the masks of the streams in the first places, the mask that all of them have or 0, and how many layers are active
pub record AreMasksOf (streams : List Stream) (masks : List ℕ) (shared active : ℕ) : Type 0 where
  pub masks_are : take (length streams) masks ≡ map mask_of streams
  pub shared_is : shared ≡ shared_of (map mask_of streams)
  pub active_is : active ≡ length (active_layers streams)

-- the same of an allocation's streams, and how many bytes the allocation has
pub record IsMeasureOf (a : Allocation) (masks : List ℕ) (shared active len : ℕ) : Type 0 where
  pub are_masks : AreMasksOf a.simulcast_streams masks shared active
  pub len_is : len ≡ length (written_of a)
