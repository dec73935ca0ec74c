-- What is written means the allocation without its trailing bare layers, and what can be written is what some bytes mean.
use Rattle.rtp_vla.proofs.Common.{◌≡◌, ℕ, ◌+◌, ◌-◌, ◌*◌, ◌<◌, ◌≤◌, ◌&&◌, inl, inr, ⊎_elim, List, [], ◌∷◌, ◌++◌, length, map, Bool, true, false, eqb, leb, ltb, None, Some, Option, refl, sym, ap, ◌∙◌, subst, arith, is_none, is_some, IfSome, IfNone, unwrap_or, AllByRecursion, flat_map, list_all, and_parts, and_from, le-leb, leb-true, ltb-true, eq-eqb, eqb-true, false≢true, length-map, nil_from_length, ResolutionAndFramerate, Layer, Stream, Allocation, active_layers, mask_of, count_of, AreMasks, AreQuarters, AreRates, AreResolutions, IsCounted, IsPacked, Means, without_bare_tail, trimmed, Writable, bare_or_active, stream_fits, resolution_fits, resolutions_in_front, layers_fit, streams_fit, can_be_written, shared_of, mask_bytes, quarters_of, rate_bytes, resolution_bytes, packed_bytes, streams_bytes, written_of, HasSmallRates, IsSized, HasSizedResolution}
use Rattle.rtp_vla.proofs.AllocationWritingLemmas.{written-bytes, streams_bytes-some}
use Rattle.rtp_vla.proofs.AllocationParts.{AreBytes, AreBytes-parts, rates_in, resolutions_of}
use Rattle.rtp_vla.proofs.AllocationTrimming.{masks-trimmed, active-trimmed, readable_from, fits_from}
use Rattle.rtp_vla.proofs.AllocationSpelling.{shared_small, AreMasks-of, AreQuarters-of, layer_fits, AreRates-layers, counted_from, layers_small, sizes, AreResolutions-of, front_from, AreBytes-append, AreBytes-masks, AreBytes-quarters, AreBytes-layers, AreBytes-resolutions, after_bytes}
use Rattle.rtp_vla.proofs.AllocationMeaning.{counts_fit}

-- ---- All of it

small_masks : (streams : List Stream) → list_all stream_fits streams ≡ true → AllByRecursion (λ mask. mask ≤ 15) (map mask_of streams)
small_masks [] all = tt
small_masks (stream ∷ streams) all =
    let parts = and_parts (stream_fits stream) (list_all stream_fits streams) all in
    (leb-true (mask_of stream) 15 (and_parts (leb (mask_of stream) 15) (list_all bare_or_active stream) parts.0).0, small_masks streams parts.1)

packed_means : (index : ℕ) (streams : List Stream) → index ≤ 3 → 1 ≤ length streams → length streams ≤ 4 → list_all stream_fits streams ≡ true → layers_fit (active_layers streams) ≡ true
    → IsPacked (packed_bytes index streams) (record { current_simulcast_stream_index = index; simulcast_streams = map without_bare_tail streams }) × AreBytes (packed_bytes index streams)
packed_means index streams low some few fits layers_ok =
    let layers = active_layers streams in
    let masks = map mask_of streams in
    let small = small_masks streams fits in
    let ok = and_parts (list_all layer_fits layers) (resolutions_in_front false layers) layers_ok in
    let many : length (map without_bare_tail streams) ≡ length streams = length-map streams without_bare_tail in
    let same = active-trimmed streams in (
      record {
        shared = shared_of masks;
        mask_bytes = mask_bytes masks;
        count_bytes = quarters_of (map count_of layers);
        rate_bytes = flat_map rate_bytes layers ++ flat_map resolution_bytes layers;
        rest = flat_map resolution_bytes layers;
        bytes_are = ap (λ (n : ℕ). (64 * index + 16 * (n - 1) + shared_of masks) ∷ (mask_bytes masks ++ (quarters_of (map count_of layers) ++ (flat_map rate_bytes layers ++ flat_map resolution_bytes layers)))) (sym many);
        index_fits = low;
        some_stream = omega (arith, some, many);
        few_streams = omega (arith, few, many);
        shared_fits = shared_small masks small;
        readable = readable_from streams fits;
        counted = subst (AllByRecursion IsCounted) (sym same) (counted_from layers ok.0);
        masks_are = subst (λ (ms : List ℕ). AreMasks (shared_of masks) ms (mask_bytes masks)) (sym (masks-trimmed streams)) (AreMasks-of masks);
        counts_are = subst (λ (ls : List Layer). AreQuarters (map count_of ls) (quarters_of (map count_of layers))) (sym same) (AreQuarters-of (map count_of layers));
        rates_are = subst (λ (ls : List Layer). AreRates (rates_in ls) (flat_map rate_bytes layers ++ flat_map resolution_bytes layers) (flat_map resolution_bytes layers)) (sym same) (AreRates-layers layers (flat_map resolution_bytes layers) ok.0);
        resolutions_are = subst (λ (ls : List Layer). AreResolutions (resolutions_of ls) (flat_map resolution_bytes layers)) (sym same) (AreResolutions-of layers ok.1);
      },
      (
        omega (arith, low, few, shared_small masks small),
        AreBytes-append (mask_bytes masks) (quarters_of (map count_of layers) ++ (flat_map rate_bytes layers ++ flat_map resolution_bytes layers)) (AreBytes-masks (eqb (shared_of masks) 0) masks small)
            (AreBytes-append (quarters_of (map count_of layers)) (flat_map rate_bytes layers ++ flat_map resolution_bytes layers) (AreBytes-quarters (map count_of layers) (counts_fit layers (counted_from layers ok.0)))
            (AreBytes-append (flat_map rate_bytes layers) (flat_map resolution_bytes layers) (AreBytes-layers layers) (AreBytes-resolutions false layers ok.1))),
      ),
    )

streams_mean : (index : ℕ) (streams : List Stream) → streams_fit index streams ≡ true
    → Means (streams_bytes index streams) (record { current_simulcast_stream_index = index; simulcast_streams = map without_bare_tail streams }) × AreBytes (streams_bytes index streams)
streams_mean index [] fits =
    let zero_index = eqb-true index 0 fits in
    (inl (refl, (λ i. record { current_simulcast_stream_index = zero_index i; simulcast_streams = [] })), (omega arith, tt))
streams_mean index (stream ∷ streams) fits =
    let all = stream ∷ streams in
    let parts = and_parts (leb index 3 && leb (length all) 4) (list_all stream_fits all && layers_fit (active_layers all)) fits in
    let numbers = and_parts (leb index 3) (leb (length all) 4) parts.0 in
    let rest = and_parts (list_all stream_fits all) (layers_fit (active_layers all)) parts.1 in
    let means = packed_means index all (leb-true index 3 numbers.0) (omega arith) (leb-true (length all) 4 numbers.1) rest.0 rest.1 in
    (inr means.0, means.1)

-- what is written means the allocation without its trailing bare layers
pub written_means : (a : Allocation) → can_be_written a ≡ true → Means (written_of a) (trimmed a) × AreBytes (written_of a)
written_means a fits = subst (λ (bytes : List ℕ). Means bytes (trimmed a) × AreBytes bytes) (sym (written-bytes a)) (streams_mean a.current_simulcast_stream_index a.simulcast_streams fits)

pub Writable-from : (a : Allocation) → can_be_written a ≡ true → Writable a
Writable-from a fits = let means = written_means a fits in (written_of a, means.1, means.0)

no_streams : (streams : List Stream) → map without_bare_tail streams ≡ [] → streams ≡ []
no_streams [] none = refl
no_streams (stream ∷ streams) none = cc

rest_bytes : (rates bytes rest : List ℕ) → AreBytes bytes → AreRates rates bytes rest → AreBytes rest
rest_bytes [] bytes rest all are = subst AreBytes are all
rest_bytes (rate ∷ rates) bytes rest all (after, reads, are) = rest_bytes rates after rest (after_bytes bytes rate after all reads) are

streams_from : (index : ℕ) (streams : List Stream) (bytes : List ℕ) → AreBytes bytes → IsPacked bytes (record { current_simulcast_stream_index = index; simulcast_streams = map without_bare_tail streams })
    → streams_fit index streams ≡ true
streams_from index [] bytes all p = absurd (omega (arith, p.some_stream))
streams_from index (stream ∷ streams) bytes all p =
    let ss = stream ∷ streams in
    let same = active-trimmed ss in
    let inside = AreBytes-parts p.count_bytes p.rate_bytes (AreBytes-parts p.mask_bytes (p.count_bytes ++ p.rate_bytes) (subst AreBytes p.bytes_are all).1).1 in
    let counted : AllByRecursion IsCounted (active_layers ss) = subst (AllByRecursion IsCounted) same p.counted in
    let rates = subst (λ (ls : List Layer). AreRates (rates_in ls) p.rate_bytes p.rest) same p.rates_are in
    let resolutions = subst (λ (ls : List Layer). AreResolutions (resolutions_of ls) p.rest) same p.resolutions_are in
    and_from _ _
    (and_from _ _ (le-leb index 3 p.index_fits) (le-leb (length ss) 4 (omega (arith, p.few_streams, length-map ss without_bare_tail))))
    (and_from _ _ (fits_from ss p.readable)
    (and_from _ _ (layers_small (active_layers ss) p.rate_bytes p.rest counted rates)
    (front_from (active_layers ss) p.rest (rest_bytes (rates_in (active_layers ss)) p.rate_bytes p.rest inside.1 rates) resolutions)))

-- what some bytes mean can be written
pub can_be_written-from : (a : Allocation) → Writable a → can_be_written a ≡ true
can_be_written-from a (bytes, all, means) =
    ⊎_elim
    (λ nothing.
    let none : a.simulcast_streams ≡ [] = no_streams a.simulcast_streams (λ i. (nothing.1 i).simulcast_streams) in
    let index : a.current_simulcast_stream_index ≡ 0 = λ i. (nothing.1 i).current_simulcast_stream_index in
    subst (λ (streams : List Stream). streams_fit a.current_simulcast_stream_index streams ≡ true) (sym none) (eq-eqb a.current_simulcast_stream_index 0 index))
    (λ p. streams_from a.current_simulcast_stream_index a.simulcast_streams bytes all p)
    means

-- ---- What the functions that write ask

pub some_found : (o : Option ℕ) (a : Allocation) (n : ℕ) → IfSome o (λ len. (can_be_written a ≡ true) × (len ≡ n)) → IfSome o (λ len. Writable a × (len ≡ n))
some_found None a n fits = fits
some_found (Some len) a n fits = (Writable-from a fits.0, fits.1)

pub none_found : (o : Option ℕ) (a : Allocation) → IfNone o (can_be_written a ≡ false) → IfNone o (Writable a → ⊥)
none_found None a unfit = λ some. false≢true (sym unfit ∙ can_be_written-from a some)
none_found (Some len) a unfit = unfit

pub some_is : (o : Option ℕ) (b : Bool) (n : ℕ) → IfSome o (λ len. (b ≡ true) × (len ≡ n)) → IfNone o (b ≡ false) → is_some o ≡ b
some_is None b n fits unfit = sym unfit
some_is (Some len) b n fits unfit = sym fits.0

pub some_value : (o : Option ℕ) (a : Allocation) (n : ℕ) → IfSome o (λ len. Writable a × (len ≡ n)) → IfNone o (Writable a → ⊥) → Writable a → unwrap_or o 0 ≡ n
some_value None a n found none some = absurd (none some)
some_value (Some len) a n found none some = found.1

small_one : (rates : List ℕ) → list_all (λ rate. ltb rate 9223372036854775808) rates ≡ true → AllByRecursion (λ rate. rate < 9223372036854775808) rates
small_one [] all = tt
small_one (rate ∷ rates) all = let parts = and_parts _ _ all in (ltb-true rate 9223372036854775808 parts.0, small_one rates parts.1)

small_all : (layers : List Layer) → list_all layer_fits layers ≡ true → AllByRecursion HasSmallRates layers
small_all [] all = tt
small_all (layer ∷ layers) all =
    let parts = and_parts (layer_fits layer) (list_all layer_fits layers) all in
    (small_one layer.temporal_layers (and_parts (leb (length layer.temporal_layers) 4) (list_all (λ rate. ltb rate 9223372036854775808) layer.temporal_layers) parts.0).1, small_all layers parts.1)

sized_one : (e : Bool) (o : Option ResolutionAndFramerate) → resolution_fits e o ≡ true → IsSized o
sized_one e None fits = tt
sized_one e (Some r) fits = let s = sizes e r fits in (s.width_some, s.height_some)

sized_all : (e : Bool) (layers : List Layer) → resolutions_in_front e layers ≡ true → AllByRecursion HasSizedResolution layers
sized_all e [] fits = tt
sized_all e (layer ∷ layers) fits =
    let parts = and_parts (resolution_fits e layer.resolution_and_framerate) (resolutions_in_front (is_none layer.resolution_and_framerate) layers) fits in
    (sized_one e layer.resolution_and_framerate parts.0, sized_all (is_none layer.resolution_and_framerate) layers parts.1)

pub record CanPut (index : ℕ) (streams : List Stream) : Type 0 where
  pub low : index ≤ 3
  pub few : length streams ≤ 4
  pub fits : list_all stream_fits streams ≡ true
  pub masks : AllByRecursion (λ mask. mask ≤ 15) (map mask_of streams)
  pub shared : shared_of (map mask_of streams) ≤ 15
  pub counted : AllByRecursion IsCounted (active_layers streams)
  pub small : AllByRecursion HasSmallRates (active_layers streams)
  pub sized : AllByRecursion HasSizedResolution (active_layers streams)

pub can_put : (index : ℕ) (streams : List Stream) → 1 ≤ length streams → streams_fit index streams ≡ true → CanPut index streams
can_put index [] some fits = absurd (omega arith)
can_put index (stream ∷ streams) some fits =
    let all = stream ∷ streams in
    let parts = and_parts (leb index 3 && leb (length all) 4) (list_all stream_fits all && layers_fit (active_layers all)) fits in
    let numbers = and_parts (leb index 3) (leb (length all) 4) parts.0 in
    let rest = and_parts (list_all stream_fits all) (layers_fit (active_layers all)) parts.1 in
    let ok = and_parts (list_all layer_fits (active_layers all)) (resolutions_in_front false (active_layers all)) rest.1 in
    record {
      low = leb-true index 3 numbers.0;
      few = leb-true (length all) 4 numbers.1;
      fits = rest.0;
      masks = small_masks all rest.0;
      shared = shared_small (map mask_of all) (small_masks all rest.0);
      counted = counted_from (active_layers all) ok.0;
      small = small_all (active_layers all) ok.0;
      sized = sized_all false (active_layers all) ok.1;
    }

pub written-none : (a : Allocation) → length a.simulcast_streams ≡ 0 → written_of a ≡ 0 ∷ []
written-none a none = written-bytes a ∙ ap (streams_bytes a.current_simulcast_stream_index) (nil_from_length a.simulcast_streams none)

pub written-some : (a : Allocation) → 0 < length a.simulcast_streams → written_of a ≡ packed_bytes a.current_simulcast_stream_index a.simulcast_streams
written-some a some = written-bytes a ∙ streams_bytes-some a.current_simulcast_stream_index a.simulcast_streams some
