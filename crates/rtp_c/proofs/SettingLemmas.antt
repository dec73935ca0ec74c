-- Streams and layers that are put into what C is told of an allocation.
use Rattle.rtp_c.proofs.Common.{◌≡◌, ℕ, zero, suc, ◌+◌, ◌-◌, ◌<◌, ◌≤◌, List, [], ◌∷◌, ◌++◌, length, get_or, set, refl, ap, subst, sym, ◌∙◌, arith, length-append, Layer, Stream, Layers}
use Rattle.rtp_vla.specs.Allocation as vla
use Rattle.rtp_vla.specs.AllocationReading.{and_stream}
use Rattle.rtp_c.specs.LayersView.{AreInPlaces, IsViewOfLayer, IsViewOfStream, IsViewOfLayers, bare_layer, layer_room}
use Rattle.rtp_c.proofs.PlacesLemmas.{AreInPlaces-after, AreInPlaces-more, AreInPlaces-last, AreInPlaces-changed}

pub layer_room-at : (before : ℕ) (streams : List Stream) (unused : Stream) → before < length streams → layer_room (suc before) streams ≡ 4 - (get_or streams before unused).count
layer_room-at before [] unused within = absurd (omega arith)
layer_room-at zero (stream ∷ streams) unused within = refl
layer_room-at (suc before) (stream ∷ streams) unused within = layer_room-at before streams unused (omega arith)

-- where there is room there is a last stream
pub layer_room-some : (count : ℕ) (streams : List Stream) → 1 ≤ layer_room count streams → (1 ≤ count) × (count ≤ length streams)
layer_room-some zero streams some = absurd (omega arith)
layer_room-some (suc before) [] some = absurd (omega arith)
layer_room-some (suc zero) (stream ∷ streams) some = (omega arith, omega arith)
layer_room-some (suc (suc before)) (stream ∷ streams) some = (omega arith, omega (arith, (layer_room-some (suc before) streams some).1))

pub layer_room-last : (count : ℕ) (streams : List Stream) (unused : Stream) → 1 ≤ layer_room count streams → layer_room count streams ≡ 4 - (get_or streams (count - 1) unused).count
layer_room-last zero streams unused some = absurd (omega arith)
layer_room-last (suc before) streams unused some =
    layer_room-at before streams unused (omega (arith, (layer_room-some (suc before) streams some).1))
    ∙ ap (λ (n : ℕ). 4 - (get_or streams n unused).count) (omega arith)

-- in a stream that is put there is room for four, and in one with a layer more for one less
pub layer_room-new : (before : ℕ) (streams : List Stream) (stream : Stream) → before < length streams → layer_room (before + 1) (set streams before stream) ≡ 4 - stream.count
layer_room-new before [] stream within = absurd (omega arith)
layer_room-new zero (first ∷ streams) stream within = refl
layer_room-new (suc before) (first ∷ streams) stream within =
    ap (λ (n : ℕ). layer_room n (set (first ∷ streams) (suc before) stream)) next ∙ sym (ap (λ (n : ℕ). layer_room n (set streams before stream)) one) ∙ layer_room-new before streams stream (omega arith)
  where
    one : before + 1 ≡ suc before
    one = omega arith

    next : suc before + 1 ≡ suc (suc before)
    next = omega arith

pub layer_room-more : (count : ℕ) (streams : List Stream) (unused stream : Stream) → 1 ≤ layer_room count streams → stream.count ≡ (get_or streams (count - 1) unused).count + 1
    → layer_room count (set streams (count - 1) stream) + 1 ≡ layer_room count streams
layer_room-more count streams unused stream some more =
    let there = layer_room-some count streams some in
    let at : count - 1 + 1 ≡ count = omega (arith, there.0) in
    omega (
      arith,
      some,
      more,
      layer_room-last count streams unused some,
      ap (λ (n : ℕ). layer_room n (set streams (count - 1) stream)) (sym at) ∙ layer_room-new (count - 1) streams stream (omega (arith, there.0, there.1)),
    )

-- a stream without layers is put after the others
pub shows_stream : (allocation : vla.Allocation) (view : Layers) (unused : Stream) → view.count < length view.streams → IsViewOfLayers allocation view
    → IsViewOfLayers (and_stream allocation []) (record view {
      streams = set view.streams view.count (record (get_or view.streams view.count unused) { count = 0 });
      count = view.count + 1;
    })
shows_stream allocation view unused room is =
    let within : length allocation.simulcast_streams < length view.streams = omega (arith, room, is.count_is) in
    let nothing = AreInPlaces-after IsViewOfStream [] allocation.simulcast_streams view.streams unused within is.streams_are in
    let empty : IsViewOfStream [] (record (get_or view.streams (length allocation.simulcast_streams) unused) { count = 0 }) = record { layers_are = nothing.layers_are; count_is = refl } in
    record {
      streams_are = subst (λ (n : ℕ). AreInPlaces IsViewOfStream [] (allocation.simulcast_streams ++ [] ∷ []) (set view.streams n (record (get_or view.streams n unused) { count = 0 }))) (sym is.count_is)
          (AreInPlaces-more IsViewOfStream [] allocation.simulcast_streams view.streams [] _ within empty is.streams_are);
      count_is = omega (arith, is.count_is, length-append allocation.simulcast_streams ([] ∷ []));
      current_is = is.current_is;
    }

-- a layer is put after the others of the stream, where nothing was told
pub stream_more : (stream : vla.Stream) (layer : vla.Layer) (view : Stream) (layer_view unused : Layer) → view.count < length view.layers
    → (IsViewOfLayer bare_layer (get_or view.layers view.count unused) → IsViewOfLayer layer layer_view) → IsViewOfStream stream view
    → IsViewOfStream (stream ++ layer ∷ []) (record view { layers = set view.layers view.count layer_view; count = view.count + 1 })
stream_more stream layer view layer_view unused room told is =
    let within : length stream < length view.layers = omega (arith, room, is.count_is) in
    let nothing = AreInPlaces-after IsViewOfLayer bare_layer stream view.layers unused within is.layers_are in
    record {
      layers_are = subst (λ (n : ℕ). AreInPlaces IsViewOfLayer bare_layer (stream ++ layer ∷ []) (set view.layers n layer_view)) (sym is.count_is)
          (AreInPlaces-more IsViewOfLayer bare_layer stream view.layers layer layer_view within
          (told (subst (λ (n : ℕ). IsViewOfLayer bare_layer (get_or view.layers n unused)) (sym is.count_is) nothing)) is.layers_are);
      count_is = omega (arith, is.count_is, length-append stream (layer ∷ []));
    }

pub shows_layer : (allocation : vla.Allocation) (stream : vla.Stream) (layer : vla.Layer) (view : Layers) (unused new : Stream)
    → (IsViewOfStream stream (get_or view.streams (view.count - 1) unused) → IsViewOfStream (stream ++ layer ∷ []) new) → IsViewOfLayers (and_stream allocation stream) view
    → IsViewOfLayers (and_stream allocation (stream ++ layer ∷ [])) (record view { streams = set view.streams (view.count - 1) new })
shows_layer allocation stream layer view unused new told is =
    let before = allocation.simulcast_streams in
    let at : view.count - 1 ≡ length before = omega (arith, is.count_is, length-append before (stream ∷ [])) in
    let last : IsViewOfStream stream (get_or view.streams (view.count - 1) unused) =
    subst (λ (n : ℕ). IsViewOfStream stream (get_or view.streams n unused)) (sym at) (AreInPlaces-last IsViewOfStream [] before stream view.streams unused is.streams_are) in
    record {
      streams_are = subst (λ (n : ℕ). AreInPlaces IsViewOfStream [] (before ++ (stream ++ layer ∷ []) ∷ []) (set view.streams n new)) (sym at)
          (AreInPlaces-changed IsViewOfStream [] before stream (stream ++ layer ∷ []) view.streams new (told last) is.streams_are);
      count_is = omega (arith, is.count_is, length-append before (stream ∷ []), length-append before ((stream ++ layer ∷ []) ∷ []));
      current_is = is.current_is;
    }

-- there is a last stream where there is room in it
pub layer_room-within : (count : ℕ) (streams : List Stream) → 1 ≤ layer_room count streams → count - 1 < length streams
layer_room-within zero streams room = omega (arith, room)
layer_room-within (suc before) [] room = omega (arith, room)
layer_room-within (suc zero) (stream ∷ streams) room = omega arith
layer_room-within (suc (suc before)) (stream ∷ streams) room = omega (arith, layer_room-within (suc before) streams room)
