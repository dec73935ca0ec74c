-- What is put stream by stream.
use Rattle.rtp_vla.proofs.Common.{◌≡◌, ℕ, ◌+◌, List, [], ◌∷◌, ◌++◌, drop, Some, slice_get, ap, ◌∙◌, subst, AllByRecursion, filter, flat_map, Layer, Stream, is_active, active_layers}
use Rattle.std.proofs.lemmas.List.Concat.{flat_map-append}
use Rattle.rtp_vla.proofs.MeasuringLemmas.{drop_with}

all_parts : (P : Layer → Type 0) (xs ys : List Layer) → AllByRecursion P (xs ++ ys) → AllByRecursion P xs × AllByRecursion P ys
all_parts P [] ys all = (tt, all)
all_parts P (x ∷ xs) ys all = let parts = all_parts P xs ys all.1 in ((all.0, parts.0), parts.1)

-- the active layers of the streams from this one on
pub active_from : (streams : List Stream) (i : ℕ) (s : Stream) → slice_get streams i ≡ Some s → active_layers (drop i streams) ≡ filter is_active s ++ active_layers (drop (i + 1) streams)
active_from streams i s at = ap active_layers (drop_with streams i s at)

-- what holds for each of them
pub all_from : (P : Layer → Type 0) (streams : List Stream) (i : ℕ) (s : Stream) → slice_get streams i ≡ Some s → AllByRecursion P (active_layers (drop i streams))
    → AllByRecursion P (filter is_active s) × AllByRecursion P (active_layers (drop (i + 1) streams))
all_from P streams i s at all = all_parts P (filter is_active s) (active_layers (drop (i + 1) streams)) (subst (AllByRecursion P) (active_from streams i s at) all)

-- and their bytes
pub bytes_from : (f : Layer → List ℕ) (streams : List Stream) (i : ℕ) (s : Stream) → slice_get streams i ≡ Some s
    → flat_map f (active_layers (drop i streams)) ≡ flat_map f (filter is_active s) ++ flat_map f (active_layers (drop (i + 1) streams))
bytes_from f streams i s at = ap (flat_map f) (active_from streams i s at) ∙ flat_map-append f (filter is_active s) (active_layers (drop (i + 1) streams))
