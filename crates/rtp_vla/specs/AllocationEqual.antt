-- For the prover: equality of allocations is that of what they hold. A reader may skip this file.
use Rattle.std.specs.Prelude.{◌≡◌, Bool, ◌&&◌, ◌==◌, nat_eq, Option, Some, None, refl}
use Rattle.std.specs.Bool.{Decides}
use Rattle.std.specs.Option.{option_eq}
use Rattle.std.specs.Cmp.{IsEquivalence, decided, unsigned_Decides}
use Rattle.std.specs.Cmp.Lexicographic.{pointwise, pointwise_decides}
use Rattle.std.proofs.lemmas.Bool.Decides.{Decides-and, Decides-at}
use Rattle.rtp_vla.specs.declared.allocation.ResolutionAndFramerate.{ResolutionAndFramerate}
use Rattle.rtp_vla.specs.Allocation.{Layer, Stream, Allocation}

-- whether all fields are the same
abbrev pub same_resolution : ResolutionAndFramerate → ResolutionAndFramerate → Bool
same_resolution r s = (r.width == s.width) && ((r.height == s.height) && (r.framerate == s.framerate))

abbrev pub same_layer : Layer → Layer → Bool
same_layer l k = pointwise nat_eq l.temporal_layers k.temporal_layers && option_eq same_resolution l.resolution_and_framerate k.resolution_and_framerate

abbrev pub same_stream : Stream → Stream → Bool
same_stream = pointwise same_layer

abbrev pub same_allocation : Allocation → Allocation → Bool
same_allocation a b =
    (a.current_simulcast_stream_index == b.current_simulcast_stream_index) && pointwise same_stream a.simulcast_streams b.simulcast_streams

-- a test of two parts decides whether both are the same
both : {X A B : Type 0} (first : X → A) (second : X → B) → ((x y : X) → first x ≡ first y → second x ≡ second y → x ≡ y)
    → (s t : Bool) (x y : X) → Decides s (first x ≡ first y) → Decides t (second x ≡ second y) → Decides (s && t) (x ≡ y)
both first second whole s t x y d e =
    let parts = Decides-and s t d e in
    (λ yes. let same = parts.0 yes in whole x y same.0 same.1, λ same. parts.1 ((λ i. first (same i)), (λ i. second (same i))))

same_option : {A : Type 0} (test : A → A → Bool) → ((x y : A) → Decides (test x y) (x ≡ y)) → (o p : Option A) → Decides (option_eq test o p) (o ≡ p)
same_option test decides None None = (λ _. refl, λ _. refl)
same_option test decides None (Some y) = (λ no. cc, λ no. cc)
same_option test decides (Some x) None = (λ no. cc, λ no. cc)
same_option test decides (Some x) (Some y) = (λ yes i. Some ((decides x y).0 yes i), λ same. (decides x y).1 cc)

pub same_resolution-decides : (r s : ResolutionAndFramerate) → Decides (same_resolution r s) (r ≡ s)
same_resolution-decides r s =
    let sizes = Decides-and _ _ (unsigned_Decides r.height s.height) (unsigned_Decides r.framerate s.framerate) in
    let all = Decides-and _ _ (unsigned_Decides r.width s.width) sizes in (
      λ yes. let same = all.0 yes in λ i. record { width = same.0 i; height = same.1.0 i; framerate = same.1.1 i },
      λ same. all.1 ((λ i. (same i).width), ((λ i. (same i).height), (λ i. (same i).framerate))),
    )

pub same_layer-decides : (l k : Layer) → Decides (same_layer l k) (l ≡ k)
same_layer-decides l k =
    both (λ x. x.temporal_layers) (λ x. x.resolution_and_framerate) (λ x y p q i. record { temporal_layers = p i; resolution_and_framerate = q i })
    _ _ l k (pointwise_decides unsigned_Decides _ _) (same_option same_resolution same_resolution-decides _ _)

pub same_stream-decides : (s t : Stream) → Decides (same_stream s t) (s ≡ t)
same_stream-decides s t = pointwise_decides same_layer-decides s t

pub same_allocation-decides : (a b : Allocation) → Decides (same_allocation a b) (a ≡ b)
same_allocation-decides a b =
    both (λ x. x.current_simulcast_stream_index) (λ x. x.simulcast_streams) (λ x y p q i. record { current_simulcast_stream_index = p i; simulcast_streams = q i })
    _ _ a b (unsigned_Decides _ _) (pointwise_decides same_stream-decides _ _)

pub same_layer-equiv : IsEquivalence same_layer
same_layer-equiv = decided same_layer same_layer-decides

pub same_stream-equiv : IsEquivalence same_stream
same_stream-equiv = decided same_stream same_stream-decides

pub same_allocation-equiv : IsEquivalence same_allocation
same_allocation-equiv = decided same_allocation same_allocation-decides

-- a test that answers as these do decides it too
pub is_same_layer : (answer : Bool) (l k : Layer) → answer ≡ same_layer l k → Decides answer (l ≡ k)
is_same_layer answer l k test = Decides-at answer (same_layer l k) test (same_layer-decides l k)

pub is_same_stream : (answer : Bool) (s t : Stream) → answer ≡ same_stream s t → Decides answer (s ≡ t)
is_same_stream answer s t test = Decides-at answer (same_stream s t) test (same_stream-decides s t)

pub is_same_allocation : (answer : Bool) (a b : Allocation) → answer ≡ same_allocation a b → Decides answer (a ≡ b)
is_same_allocation answer a b test = Decides-at answer (same_allocation a b) test (same_allocation-decides a b)
