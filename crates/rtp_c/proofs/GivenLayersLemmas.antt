-- Items that are given place by place.
use Rattle.rtp_c.proofs.Common.{◌≡◌, ◌≤◌, List, [], ◌∷◌, map, take, ◌∙◌, ap, sym, refl, Some, All, AllZip, AllByRecursion, Layer, Stream, Layers, ExtensionValues, HeaderView, IsGivenHeader, IsGivenLayer, IsGivenStream, IsGivenLayers, AreCarriedLayers, IsGivenWithLayers, HasFewLayers, layer_in, stream_in, allocation_in, recursion_from_All, All-from_recursion}
use Rattle.rtp_vla.specs.Allocation as vla
use Rattle.rtp_wire.specs.declared.header.rtp_header.RtpHeader.{RtpHeader}
use Rattle.rtp_wire.specs.Written.{with_values}
use Rattle.rtp_c.proofs.WrittenHeaderLemmas.{type_fits, few_sources}

-- what counts is given, where no count is above four
AllZip-in : {A B : Type 0} (R : A → B → Type 0) (f : A → B) (P : A → Type 0) → ((x : A) → P x → R x (f x)) → (xs : List A) → AllByRecursion P xs → AllZip R xs (map f xs)
AllZip-in R f P is [] all = tt
AllZip-in R f P is (x ∷ xs) all = (is x all.0, AllZip-in R f P is xs all.1)

AllZip-each : {A B : Type 0} (R : A → B → Type 0) (P : A → Type 0) → ((x : A) (y : B) → R x y → P x) → (xs : List A) (ys : List B) → AllZip R xs ys → AllByRecursion P xs
AllZip-each R P is [] ys all = tt
AllZip-each R P is (x ∷ xs) [] all = absurd all
AllZip-each R P is (x ∷ xs) (y ∷ ys) all = (is x y all.0, AllZip-each R P is xs ys all.1)

given_layer : (view : Layer) → view.rates ≤ 4 → IsGivenLayer view (layer_in view)
given_layer view few = record { few_rates = few; rates_are = refl; resolution_is = refl }

given_stream : (view : Stream) → HasFewLayers view → IsGivenStream view (stream_in view)
given_stream view few = record {
  few_layers = few.0;
  layers_are = AllZip-in IsGivenLayer layer_in (λ layer. layer.rates ≤ 4) given_layer (take view.count view.layers)
      (recursion_from_All (λ (layer : Layer). layer.rates ≤ 4) (take view.count view.layers) few.1);
}

few_of_stream : (view : Stream) (stream : vla.Stream) → IsGivenStream view stream → HasFewLayers view
few_of_stream view stream is = (
  is.few_layers,
  All-from_recursion (λ (layer : Layer). layer.rates ≤ 4) (take view.count view.layers)
      (AllZip-each IsGivenLayer (λ layer. layer.rates ≤ 4) (λ layer given is. is.few_rates) (take view.count view.layers) stream is.layers_are),
)

pub given_in : (view : Layers) → view.count ≤ 4 → All HasFewLayers (take view.count view.streams) → IsGivenLayers view (allocation_in view)
given_in view few all = record {
  few_streams = few;
  streams_are = AllZip-in IsGivenStream stream_in HasFewLayers given_stream (take view.count view.streams)
      (recursion_from_All HasFewLayers (take view.count view.streams) all);
  current_is = refl;
}

pub few_of_given : (view : Layers) (a : vla.Allocation) → IsGivenLayers view a → All HasFewLayers (take view.count view.streams)
few_of_given view a is =
    All-from_recursion HasFewLayers (take view.count view.streams)
    (AllZip-each IsGivenStream HasFewLayers few_of_stream (take view.count view.streams) a.simulcast_streams is.streams_are)

-- what is given for each place is one
AllZip-one : {A B : Type 0} (R : A → B → Type 0) → ((x : A) (y z : B) → R x y → R x z → y ≡ z) → (xs : List A) (ys zs : List B)
    → AllZip R xs ys → AllZip R xs zs → ys ≡ zs
AllZip-one R one [] [] [] y_all z_all = refl
AllZip-one R one [] [] (z ∷ zs) y_all z_all = absurd z_all
AllZip-one R one [] (y ∷ ys) zs y_all z_all = absurd y_all
AllZip-one R one (x ∷ xs) [] zs y_all z_all = absurd y_all
AllZip-one R one (x ∷ xs) (y ∷ ys) [] y_all z_all = absurd z_all
AllZip-one R one (x ∷ xs) (y ∷ ys) (z ∷ zs) y_all z_all = λ i. one x y z y_all.0 z_all.0 i ∷ AllZip-one R one xs ys zs y_all.1 z_all.1 i

one_layer : (view : Layer) (a b : vla.Layer) → IsGivenLayer view a → IsGivenLayer view b → a ≡ b
one_layer view a b a_is b_is = λ i. record {
  temporal_layers = (a_is.rates_are ∙ sym b_is.rates_are) i;
  resolution_and_framerate = (a_is.resolution_is ∙ sym b_is.resolution_is) i;
}

one_stream : (view : Stream) (a b : vla.Stream) → IsGivenStream view a → IsGivenStream view b → a ≡ b
one_stream view a b a_is b_is = AllZip-one IsGivenLayer one_layer (take view.count view.layers) a b a_is.layers_are b_is.layers_are

-- the allocation that is given is one
one_given : (view : Layers) (a b : vla.Allocation) → IsGivenLayers view a → IsGivenLayers view b → a ≡ b
one_given view a b a_is b_is = λ i. record {
  current_simulcast_stream_index = (a_is.current_is ∙ sym b_is.current_is) i;
  simulcast_streams = AllZip-one IsGivenStream one_stream (take view.count view.streams) a.simulcast_streams b.simulcast_streams a_is.streams_are b_is.streams_are i;
}

-- so the allocation that is given is what counts
pub one_in : (view : Layers) (a : vla.Allocation) → IsGivenLayers view a → a ≡ allocation_in view
one_in view a is = one_given view a (allocation_in view) is (given_in view is.few_streams (few_of_given view a is))

-- the header with the layers among its values
pub given_with : (view : HeaderView) (layers : Layers) (header : RtpHeader) (without values : ExtensionValues) → IsGivenHeader view (with_values header without)
    → (a : vla.Allocation) × AreCarriedLayers layers a × (values ≡ record without { video_layers_allocation = Some a }) → IsGivenWithLayers view layers (with_values header values)
given_with view layers header without values is_given found = record {
  without = with_values header without;
  is_given = is_given;
  allocation = found.0;
  are_carried = found.1;
  header_is = ap (with_values header) found.2;
}

-- its fields are those that a header can have
pub with_layers-type_fits : (view : HeaderView) (layers : Layers) (header : RtpHeader) → IsGivenWithLayers view layers header → header.payload_type ≤ 127
with_layers-type_fits view layers header is = rw is.header_is (type_fits view is.without is.is_given.fields)

pub with_layers-few_sources : (view : HeaderView) (layers : Layers) (header : RtpHeader) → IsGivenWithLayers view layers header → header.csrc_count ≤ 15
with_layers-few_sources view layers header is = rw is.header_is (few_sources view is.without is.is_given.fields)
