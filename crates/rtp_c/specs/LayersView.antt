-- What C is told of a layer allocation (video-layers-allocation00).
use Rattle.std.specs.Prelude.{◌≡◌, ℕ, zero, suc, ◌-◌, List, [], ◌∷◌, length, None}
use Rattle.std.specs.Option.{option_map}
use Rattle.rtp_vla.specs.Allocation as vla
use Rattle.rtp_c.specs.declared.layers.Layer.{Layer}
use Rattle.rtp_c.specs.declared.layers.Stream.{Stream}
use Rattle.rtp_c.specs.declared.layers.Layers.{Layers}
use Rattle.rtp_c.specs.Told.{IsTold}

-- in each place the view of the item that stands there, and in those after the last item the view of nothing; there is a place for each item
abbrev pub AreInPlaces : {A B : Type 0} → (A → B → Type 0) → A → List A → List B → Type 0
AreInPlaces IsViewOf nothing [] [] = Unit {0}
AreInPlaces IsViewOf nothing [] (view ∷ views) = IsViewOf nothing view × AreInPlaces IsViewOf nothing [] views
AreInPlaces IsViewOf nothing (item ∷ items) [] = ⊥
AreInPlaces IsViewOf nothing (item ∷ items) (view ∷ views) = IsViewOf item view × AreInPlaces IsViewOf nothing items views

-- a layer: its rates and how many there are, and its resolution
pub record IsViewOfLayer (layer : vla.Layer) (view : Layer) : Type 0 where
  pub rates_are : AreInPlaces (λ rate kbps. kbps ≡ rate) 0 layer.temporal_layers view.kbps
  pub count_is : view.rates ≡ length layer.temporal_layers
  pub width_is : IsTold view.has_resolution view.width (option_map (λ known. known.width) layer.resolution_and_framerate)
  pub height_is : IsTold view.has_resolution view.height (option_map (λ known. known.height) layer.resolution_and_framerate)
  pub framerate_is : IsTold view.has_resolution view.framerate (option_map (λ known. known.framerate) layer.resolution_and_framerate)

-- a layer without rates and resolution
abbrev pub bare_layer : vla.Layer
bare_layer = record { temporal_layers = []; resolution_and_framerate = None }

-- a stream: its layers and how many there are
pub record IsViewOfStream (stream : vla.Stream) (view : Stream) : Type 0 where
  pub layers_are : AreInPlaces IsViewOfLayer bare_layer stream view.layers
  pub count_is : view.count ≡ length stream

-- how many layers more there is room for in the last stream, of which there are so many
abbrev pub layer_room : ℕ → List Stream → ℕ
layer_room zero streams = 0
layer_room (suc before) [] = 0
layer_room (suc zero) (stream ∷ streams) = 4 - stream.count
layer_room (suc (suc before)) (stream ∷ streams) = layer_room (suc before) streams

-- an allocation: its streams and how many there are, and the index of the packet's stream
pub record IsViewOfLayers (allocation : vla.Allocation) (view : Layers) : Type 0 where
  pub streams_are : AreInPlaces IsViewOfStream [] allocation.simulcast_streams view.streams
  pub count_is : view.count ≡ length allocation.simulcast_streams
  pub current_is : view.current ≡ allocation.current_simulcast_stream_index
