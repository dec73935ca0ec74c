-- Without its trailing bare layers an allocation has the same masks and active layers, and can be read.
use Rattle.rtp_vla.proofs.Common.{◌≡◌, ℕ, ◌+◌, ◌*◌, ◌&&◌, ◌||◌, ⊎_elim, List, [], ◌∷◌, ◌++◌, map, Bool, true, false, not, cond, leb, None, Some, Option, refl, sym, ap, ◌∙◌, arith, is_none, AllByRecursion, filter, list_all, and_parts, and_from, le-leb, leb-true, false≢true, cases_Bool, or_right, or_left, ResolutionAndFramerate, Layer, Stream, is_active, active_layers, mask_of, EndsActive, IsBareUnlessActive, IsReadable, in_front_of, without_bare_tail, bare_or_active, stream_fits}

-- ---- Trimming leaves the masks and the active layers

-- what stands for a layer at the end
kept_mask : (a b : Bool) (layer : Layer) → is_active layer ≡ a → mask_of (cond (not a && b) [] (layer ∷ [])) ≡ mask_of (layer ∷ [])
kept_mask true b layer is = refl
kept_mask false true layer is = rw is (omega arith)
kept_mask false false layer is = refl

kept_active : (a b : Bool) (layer : Layer) → is_active layer ≡ a → filter is_active (cond (not a && b) [] (layer ∷ [])) ≡ filter is_active (layer ∷ [])
kept_active true b layer is = refl
kept_active false true layer is = rw is refl
kept_active false false layer is = refl

in_front-mask : (layer : Layer) (stream : Stream) → mask_of (in_front_of layer stream) ≡ mask_of (layer ∷ stream)
in_front-mask layer [] = kept_mask (is_active layer) (is_none layer.resolution_and_framerate) layer refl
in_front-mask layer (next ∷ stream) = refl

in_front-active : (layer : Layer) (stream : Stream) → filter is_active (in_front_of layer stream) ≡ filter is_active (layer ∷ stream)
in_front-active layer [] = kept_active (is_active layer) (is_none layer.resolution_and_framerate) layer refl
in_front-active layer (next ∷ stream) = refl

mask-trimmed : (stream : Stream) → mask_of (without_bare_tail stream) ≡ mask_of stream
mask-trimmed [] = refl
mask-trimmed (layer ∷ stream) = in_front-mask layer (without_bare_tail stream) ∙ ap (λ (n : ℕ). cond (is_active layer) 1 0 + 2 * n) (mask-trimmed stream)

filter-trimmed : (stream : Stream) → filter is_active (without_bare_tail stream) ≡ filter is_active stream
filter-trimmed [] = refl
filter-trimmed (layer ∷ stream) = in_front-active layer (without_bare_tail stream) ∙ ap (λ (ls : List Layer). cond (is_active layer) (layer ∷ ls) ls) (filter-trimmed stream)

pub masks-trimmed : (streams : List Stream) → map mask_of (map without_bare_tail streams) ≡ map mask_of streams
masks-trimmed [] = refl
masks-trimmed (stream ∷ streams) = λ i. mask-trimmed stream i ∷ masks-trimmed streams i

pub active-trimmed : (streams : List Stream) → active_layers (map without_bare_tail streams) ≡ active_layers streams
active-trimmed [] = refl
active-trimmed (stream ∷ streams) = λ i. filter-trimmed stream i ++ active-trimmed streams i

-- ---- What is kept can be read, and the other way round

pub none_is : (o : Option ResolutionAndFramerate) → is_none o ≡ true → o ≡ None
none_is None is = refl
none_is (Some r) is = absurd (false≢true is)

unless_active : (layer : Layer) → bare_or_active layer ≡ true → IsBareUnlessActive layer
unless_active layer fits = λ idle. none_is layer.resolution_and_framerate (ap (λ (b : Bool). b || is_none layer.resolution_and_framerate) (sym idle) ∙ fits)

kept_ends : (a b : Bool) (layer : Layer) → is_active layer ≡ a → is_none layer.resolution_and_framerate ≡ b → bare_or_active layer ≡ true
    → EndsActive (cond (not a && b) [] (layer ∷ [])) × AllByRecursion IsBareUnlessActive (cond (not a && b) [] (layer ∷ []))
kept_ends true b layer is none fits = (is, (unless_active layer fits, tt))
kept_ends false true layer is none fits = (tt, tt)
kept_ends false false layer is none fits = absurd (false≢true (sym (λ i. is i || none i) ∙ fits))

in_front-readable : (layer : Layer) (stream : Stream) → bare_or_active layer ≡ true → EndsActive stream × AllByRecursion IsBareUnlessActive stream
    → EndsActive (in_front_of layer stream) × AllByRecursion IsBareUnlessActive (in_front_of layer stream)
in_front-readable layer [] fits rest = kept_ends (is_active layer) (is_none layer.resolution_and_framerate) layer refl refl fits
in_front-readable layer (next ∷ stream) fits rest = (rest.0, (unless_active layer fits, rest.1))

trimmed_ends : (stream : Stream) → list_all bare_or_active stream ≡ true → EndsActive (without_bare_tail stream) × AllByRecursion IsBareUnlessActive (without_bare_tail stream)
trimmed_ends [] all = (tt, tt)
trimmed_ends (layer ∷ stream) all =
    let parts = and_parts (bare_or_active layer) (list_all bare_or_active stream) all in
    in_front-readable layer (without_bare_tail stream) parts.0 (trimmed_ends stream parts.1)

pub readable_from : (streams : List Stream) → list_all stream_fits streams ≡ true → AllByRecursion IsReadable (map without_bare_tail streams)
readable_from [] all = tt
readable_from (stream ∷ streams) all =
    let parts = and_parts (stream_fits stream) (list_all stream_fits streams) all in
    let own = and_parts (leb (mask_of stream) 15) (list_all bare_or_active stream) parts.0 in
    let ends = trimmed_ends stream own.1 in
    (record { mask_fits = omega (arith, leb-true (mask_of stream) 15 own.0, mask-trimmed stream); ends_active = ends.0; bare = ends.1 }, readable_from streams parts.1)

active_or : (layer : Layer) → IsBareUnlessActive layer → bare_or_active layer ≡ true
active_or layer bare = ⊎_elim (λ yes. or_left _ _ yes) (λ no. or_right _ _ (ap (λ (o : Option ResolutionAndFramerate). is_none o) (bare no))) (cases_Bool (is_active layer))

kept_back : (a b : Bool) (layer : Layer) → is_active layer ≡ a → is_none layer.resolution_and_framerate ≡ b → AllByRecursion IsBareUnlessActive (cond (not a && b) [] (layer ∷ [])) → bare_or_active layer ≡ true
kept_back true b layer is none bare = or_left _ _ is
kept_back false true layer is none bare = or_right _ _ none
kept_back false false layer is none bare = active_or layer bare.0

in_front-back : (layer : Layer) (stream : Stream) → AllByRecursion IsBareUnlessActive (in_front_of layer stream) → (bare_or_active layer ≡ true) × AllByRecursion IsBareUnlessActive stream
in_front-back layer [] bare = (kept_back (is_active layer) (is_none layer.resolution_and_framerate) layer refl refl bare, tt)
in_front-back layer (next ∷ stream) bare = (active_or layer bare.0, bare.1)

trimmed_back : (stream : Stream) → AllByRecursion IsBareUnlessActive (without_bare_tail stream) → list_all bare_or_active stream ≡ true
trimmed_back [] bare = refl
trimmed_back (layer ∷ stream) bare =
    let parts = in_front-back layer (without_bare_tail stream) bare in
    and_from _ _ parts.0 (trimmed_back stream parts.1)

pub fits_from : (streams : List Stream) → AllByRecursion IsReadable (map without_bare_tail streams) → list_all stream_fits streams ≡ true
fits_from [] all = refl
fits_from (stream ∷ streams) all =
    and_from _ _ (and_from _ _ (le-leb (mask_of stream) 15 (omega (arith, all.0.mask_fits, mask-trimmed stream))) (trimmed_back stream all.0.bare)) (fits_from streams all.1)
