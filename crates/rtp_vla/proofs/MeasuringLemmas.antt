-- Layers that are measured from the last one on.
use Rattle.rtp_vla.proofs.Common.{◌≡◌, ℕ, ◌+◌, ◌^◌, ◌<◌, ◌≤◌, ◌⊎◌, inl, inr, ⊎_elim, slice_get, slice_get_within, get_or_from_slice_get, list_all_at, take-append-drop, List, [], ◌∷◌, ◌++◌, length, take, drop, set, Bool, true, false, cond, Option, Some, None, refl, sym, ap, ◌∙◌, arith, is_none, filter, list_all, ◌&&◌, IfNone, drop_at, and_left, and_right, and_parts, and_from, false≢true, cases_lt, pow-le-pow_right, append_assoc, drop_more, drop-set-lt, length-set, Layer, Stream, is_active, active_layers, mask_of, stream_fits, rates_fit, resolution_fits, resolutions_in_front, layers_fit, ResolutionAndFramerate}
use Rattle.std.proofs.lemmas.List.Elements.{filter-append}
use Rattle.std.proofs.Common.{get_or-set_same}
use Rattle.std.proofs.lemmas.List.Concat.{flat_map-append}
use Rattle.rtp_vla.proofs.AllocationWritingLemmas.{few_active}

-- ---- What can't be written stays so

not_true : (b : Bool) → (b ≡ true → ⊥) → b ≡ false
not_true true never = absurd (never refl)
not_true false never = refl

after_none : (o : Option ResolutionAndFramerate) (layers : List Layer) → (resolutions_in_front true layers ≡ true → resolutions_in_front false layers ≡ true)
    → resolutions_in_front (is_none o) layers ≡ true → resolutions_in_front false layers ≡ true
after_none None layers weaker front = weaker front
after_none (Some r) layers weaker front = front

weaker_one : (o : Option ResolutionAndFramerate) (layers : List Layer) → (resolution_fits true o && resolutions_in_front (is_none o) layers) ≡ true
    → (resolution_fits false o && resolutions_in_front (is_none o) layers) ≡ true
weaker_one None layers front = front
weaker_one (Some r) layers front = absurd (false≢true front)

weaker : (layers : List Layer) → resolutions_in_front true layers ≡ true → resolutions_in_front false layers ≡ true
weaker [] front = refl
weaker (layer ∷ layers) front = weaker_one layer.resolution_and_framerate layers front

fit_after : (layer : Layer) (layers : List Layer) → layers_fit (layer ∷ layers) ≡ true → layers_fit layers ≡ true
fit_after layer layers fit =
    let parts = and_parts (list_all (λ l. rates_fit l.temporal_layers) (layer ∷ layers)) (resolutions_in_front false (layer ∷ layers)) fit in
    let rates = and_parts (rates_fit layer.temporal_layers) (list_all (λ l. rates_fit l.temporal_layers) layers) parts.0 in
    let front = and_parts (resolution_fits false layer.resolution_and_framerate) (resolutions_in_front (is_none layer.resolution_and_framerate) layers) parts.1 in
    and_from _ _ rates.1 (after_none layer.resolution_and_framerate layers (weaker layers) front.1)

fit_behind : (before layers : List Layer) → layers_fit (before ++ layers) ≡ true → layers_fit layers ≡ true
fit_behind [] layers fit = fit
fit_behind (layer ∷ before) layers fit = fit_behind before layers (fit_after layer (before ++ layers) fit)

pub unfit_before : (before layers : List Layer) → layers_fit layers ≡ false → layers_fit (before ++ layers) ≡ false
unfit_before before layers unfit = not_true (layers_fit (before ++ layers)) (λ fit. false≢true (sym unfit ∙ fit_behind before layers fit))

-- ---- The layers of a stream

filter_one : (layer : Layer) (layers : List Layer) (b : Bool) → is_active layer ≡ b → filter is_active (layer ∷ layers) ≡ cond b (layer ∷ filter is_active layers) (filter is_active layers)
filter_one layer layers b is = ap (λ (a : Bool). cond a (layer ∷ filter is_active layers) (filter is_active layers)) is

pub filter_active : (layer : Layer) (layers : List Layer) → is_active layer ≡ true → filter is_active (layer ∷ layers) ≡ layer ∷ filter is_active layers
filter_active layer layers is = filter_one layer layers true is

-- at most three layers are active below a mask of 8
pub few_below : (stream : Stream) → mask_of stream ≤ 7 → length (filter is_active stream) ≤ 3
few_below stream low =
    ⊎_elim (λ few. omega arith) (λ many.
    let big : 2 ^ 4 ≤ 2 ^ length (filter is_active stream) = pow-le-pow_right {n = 2} (omega arith) {i = 4} {j = length (filter is_active stream)} many in
    absurd (omega (arith, big, low, few_active stream)))
    (cases_lt (length (filter is_active stream)) 4)

-- the layers that are taken, with one more
pub taken_more : (left new taken all : List Layer) (layer : Layer) → left ++ taken ≡ all → left ≡ new ++ layer ∷ [] → (drop (length new) all ≡ layer ∷ taken) × (all ≡ new ++ (layer ∷ taken))
taken_more left new taken all layer joined more =
    let whole : all ≡ new ++ (layer ∷ taken) = sym joined ∙ ap (λ (ls : List Layer). ls ++ taken) more ∙ append_assoc new (layer ∷ []) taken in
    (ap (drop (length new)) whole ∙ drop_at new (layer ∷ taken) (length new) refl, whole)

-- where the last of the layers that are left can't stand before those that were taken
pub unfit_stream : (new taken all after : List Layer) (layer : Layer) → all ≡ new ++ (layer ∷ taken) → is_active layer ≡ true → layers_fit (layer ∷ (filter is_active taken ++ after)) ≡ false
    → (stream_fits all && layers_fit (filter is_active all ++ after)) ≡ false
unfit_stream new taken all after layer whole active unfit =
    let parts : filter is_active all ++ after ≡ filter is_active new ++ (layer ∷ (filter is_active taken ++ after)) =
    ap (λ (ls : List Layer). filter is_active ls ++ after) whole
    ∙ ap (λ (ls : List Layer). ls ++ after) (filter-append is_active new (layer ∷ taken) ∙ ap (λ (ls : List Layer). filter is_active new ++ ls) (filter_active layer taken active))
    ∙ append_assoc (filter is_active new) (layer ∷ filter is_active taken) after in
    and_right _ _ (ap layers_fit parts ∙ unfit_before (filter is_active new) (layer ∷ (filter is_active taken ++ after)) unfit)

-- ---- The streams

and_either : (a b : Bool) → (a && b) ≡ false → (a ≡ false) ⊎ (b ≡ false)
and_either true b e = inr e
and_either false b e = inl refl

pub drop_with : {A : Type 0} (xs : List A) (i : ℕ) (x : A) → slice_get xs i ≡ Some x → drop i xs ≡ x ∷ drop (i + 1) xs
drop_with {A} xs i x is = drop_more xs i x (slice_get_within xs i x is) ∙ ap (λ (y : A). y ∷ drop (i + 1) xs) (get_or_from_slice_get xs i x x is)

pub drop_set : (xs : List ℕ) (i x : ℕ) → i < length xs → drop i (set xs i x) ≡ x ∷ drop (i + 1) xs
drop_set xs i x within =
    drop_more (set xs i x) i 0 (omega (arith, within, length-set xs i x))
    ∙ (λ j. get_or-set_same xs i x 0 within j ∷ drop-set-lt (i + 1) xs i x (omega arith) j)

-- a test that fails at an index fails for all
list_all-with : {A : Type 0} (p : A → Bool) (xs : List A) (i : ℕ) (x : A) → slice_get xs i ≡ Some x → p x ≡ false → list_all p xs ≡ false
list_all-with p xs i x is fails = list_all_at p xs i x (slice_get_within xs i x is) (ap p (get_or_from_slice_get xs i x x is) ∙ fails)

-- where a stream can't stand before those after it
pub unfit_streams : (streams : List Stream) (i : ℕ) (s : Stream) → slice_get streams i ≡ Some s
    → (stream_fits s && layers_fit (filter is_active s ++ active_layers (drop (i + 1) streams))) ≡ false → (list_all stream_fits streams && layers_fit (active_layers streams)) ≡ false
unfit_streams streams i s at unfit =
    let whole : active_layers streams ≡ active_layers (take i streams) ++ (filter is_active s ++ active_layers (drop (i + 1) streams)) =
    ap active_layers (sym (take-append-drop i streams)) ∙ flat_map-append (filter is_active) (take i streams) (drop i streams)
    ∙ ap (λ (ss : List Stream). active_layers (take i streams) ++ active_layers ss) (drop_with streams i s at) in
    ⊎_elim (λ e. and_left _ _ (list_all-with stream_fits streams i s at e))
    (λ e. and_right _ _ (ap layers_fit whole ∙ unfit_before (active_layers (take i streams)) _ e))
    (and_either _ _ unfit)

pub if_none : {A : Type 0} {P : Type 0} (o : Option A) → P → IfNone o P
if_none None p = p
if_none (Some x) p = tt
