-- What is measured and written of an allocation, part by part.
use Rattle.rtp_vla.proofs.Common.{◌≡◌, ℕ, zero, suc, ◌+◌, ◌*◌, ◌/◌, ◌^◌, ◌<◌, ◌≤◌, ⊎_elim, cond, map, List, [], ◌∷◌, ◌++◌, length, take, drop, get_or, Bool, true, false, leb, refl, ap, ◌∙◌, subst, arith, length-append, AllByRecursion, flat_map, list_all, filter, pow-suc, pow-le-pow_right, lt-leb, and_left, and_parts, leb-true, eq-eqb, ne_eqb, le-leb, and_from, cases_lt, take_more, append-nil, length-map, Layer, Stream, Allocation, is_active, active_layers, mask_of, count_of}
use Rattle.std.proofs.lemmas.List.Concat.{flat_map-append}
use Rattle.rtp_vla.specs.AllocationWritten.{stream_fits, bare_or_active, shared_of, halves_of, quarters_of, mask_bytes, rate_bytes, resolution_bytes, packed_bytes, layers_fit, streams_fit, streams_bytes, written_of}

-- ---- Masks

mask_after : (i : ℕ) (stream : Stream) → 0 < i → i ≤ length stream → 2 * mask_of (drop i stream) ≤ mask_of stream
mask_after zero stream some within = absurd (omega arith)
mask_after (suc i) [] some within = absurd (omega arith)
mask_after (suc zero) (layer ∷ stream) some within = omega arith
mask_after (suc (suc i)) (layer ∷ stream) some within = omega (arith, mask_after (suc i) stream (omega arith) (omega arith))

pub mask_unfit : (i mask : ℕ) (stream : Stream) → 0 < i → i ≤ length stream → mask ≡ mask_of (drop i stream) → 7 < mask → stream_fits stream ≡ false
mask_unfit i mask stream some within is large =
    and_left (leb (mask_of stream) 15) (list_all bare_or_active stream) (lt-leb (mask_of stream) 15 (omega (arith, is, mask_after i stream some within)))

-- ---- Rates

pub length-flat_map-more : (f : ℕ → List ℕ) (xs : List ℕ) (i : ℕ) → i < length xs → length (flat_map f (take (i + 1) xs)) ≡ length (flat_map f (take i xs)) + length (f (get_or xs i 0))
length-flat_map-more f xs i within =
    ap (λ (ys : List ℕ). length (flat_map f ys)) (take_more xs i 0 within)
    ∙ ap length (flat_map-append f (take i xs) (get_or xs i 0 ∷ []) ∙ ap (λ (ys : List ℕ). flat_map f (take i xs) ++ ys) (append-nil (f (get_or xs i 0))))
    ∙ length-append (flat_map f (take i xs)) (f (get_or xs i 0))

-- ---- How many layers are active

one_more : (b : Bool) (layer : Layer) (layers : List Layer) (mask : ℕ) → 2 ^ length layers ≤ mask + 1 → 2 ^ length (cond b (layer ∷ layers) layers) ≤ cond b 1 0 + 2 * mask + 1
one_more true layer layers mask h = omega (arith, pow-suc 2 (length layers), h)
one_more false layer layers mask h = omega (arith, h)

pub few_active : (stream : Stream) → 2 ^ length (filter is_active stream) ≤ mask_of stream + 1
few_active [] = omega arith
few_active (layer ∷ stream) = one_more (is_active layer) layer (filter is_active stream) (mask_of stream) (few_active stream)

active_small : (stream : Stream) → stream_fits stream ≡ true → length (filter is_active stream) ≤ 4
active_small stream fits =
    let mask = leb-true (mask_of stream) 15 (and_parts (leb (mask_of stream) 15) (list_all bare_or_active stream) fits).0 in
    ⊎_elim (λ few. omega arith) (λ many.
    let big : 2 ^ 5 ≤ 2 ^ length (filter is_active stream) = pow-le-pow_right {n = 2} (omega arith) {i = 5} {j = length (filter is_active stream)} many in
    absurd (omega (arith, big, mask, few_active stream)))
    (cases_lt (length (filter is_active stream)) 5)

pub length-active : (streams : List Stream) → list_all stream_fits streams ≡ true → length (active_layers streams) ≤ 4 * length streams
length-active [] fits = omega arith
length-active (stream ∷ streams) fits =
    let parts = and_parts (stream_fits stream) (list_all stream_fits streams) fits in
    omega (arith, length-append (filter is_active stream) (active_layers streams), active_small stream parts.0, length-active streams parts.1)

-- ---- How many bytes there are

pub length-halves_of : (spare : ℕ) (masks : List ℕ) → length (halves_of spare masks) ≡ (length masks + 1) / 2
length-halves_of spare [] = omega arith
length-halves_of spare (m ∷ []) = omega arith
length-halves_of spare (m ∷ n ∷ masks) = omega (arith, length-halves_of 15 masks)

pub length-quarters_of : (counts : List ℕ) → length (quarters_of counts) ≡ (length counts + 3) / 4
length-quarters_of [] = omega arith
length-quarters_of (c ∷ []) = omega arith
length-quarters_of (c ∷ d ∷ []) = omega arith
length-quarters_of (c ∷ d ∷ e ∷ []) = omega arith
length-quarters_of (c ∷ d ∷ e ∷ f ∷ counts) = omega (arith, length-quarters_of counts)

pub length-packed_bytes : (index : ℕ) (streams : List Stream) → length (packed_bytes index streams)
    ≡ 1 + (length (mask_bytes (map mask_of streams)) + ((length (active_layers streams) + 3) / 4
    + (length (flat_map rate_bytes (active_layers streams)) + length (flat_map resolution_bytes (active_layers streams)))))
length-packed_bytes index streams =
    let layers = active_layers streams in
    omega (
      arith,
      length-append (mask_bytes (map mask_of streams)) (quarters_of (map count_of layers) ++ (flat_map rate_bytes layers ++ flat_map resolution_bytes layers)),
      length-append (quarters_of (map count_of layers)) (flat_map rate_bytes layers ++ flat_map resolution_bytes layers),
      length-append (flat_map rate_bytes layers) (flat_map resolution_bytes layers),
      length-quarters_of (map count_of layers),
      length-map layers count_of,
    )

pub length-mask_bytes : (masks : List ℕ) → shared_of masks ≡ 0 → length (mask_bytes masks) ≡ (length masks + 1) / 2
length-mask_bytes masks none = rw (eq-eqb (shared_of masks) 0 none) (length-halves_of 0 masks)

-- ---- What is put

pub halves_two : (masks : List ℕ) → length masks ≡ 2 → halves_of 0 masks ≡ (16 * get_or masks 0 0 + get_or masks 1 0) ∷ []
halves_two [] len = absurd (omega arith)
halves_two (a ∷ []) len = absurd (omega arith)
halves_two (a ∷ b ∷ []) len = refl
halves_two (a ∷ b ∷ c ∷ masks) len = absurd (omega arith)

pub halves_three : (masks : List ℕ) → length masks ≡ 3 → halves_of 0 masks ≡ (16 * get_or masks 0 0 + get_or masks 1 0) ∷ (16 * get_or masks 2 0 + 15) ∷ []
halves_three [] len = absurd (omega arith)
halves_three (a ∷ []) len = absurd (omega arith)
halves_three (a ∷ b ∷ []) len = absurd (omega arith)
halves_three (a ∷ b ∷ c ∷ []) len = refl
halves_three (a ∷ b ∷ c ∷ d ∷ masks) len = absurd (omega arith)

pub halves_four : (masks : List ℕ) → length masks ≡ 4 → halves_of 0 masks ≡ (16 * get_or masks 0 0 + get_or masks 1 0) ∷ (16 * get_or masks 2 0 + get_or masks 3 0) ∷ []
halves_four [] len = absurd (omega arith)
halves_four (a ∷ []) len = absurd (omega arith)
halves_four (a ∷ b ∷ []) len = absurd (omega arith)
halves_four (a ∷ b ∷ c ∷ []) len = absurd (omega arith)
halves_four (a ∷ b ∷ c ∷ d ∷ []) len = refl
halves_four (a ∷ b ∷ c ∷ d ∷ e ∷ masks) len = absurd (omega arith)

pub mask_bytes-none : (masks : List ℕ) → (shared_of masks ≡ 0 → ⊥) → mask_bytes masks ≡ []
mask_bytes-none masks some = rw (ne_eqb (shared_of masks) 0 some) refl

-- ---- Streams, of which there are some

pub streams_fit-some : (index : ℕ) (streams : List Stream) → 0 < length streams → index ≤ 3 → length streams ≤ 4 → list_all stream_fits streams ≡ true → layers_fit (active_layers streams) ≡ true
    → streams_fit index streams ≡ true
streams_fit-some index [] some low few fits layers = absurd (omega arith)
streams_fit-some index (stream ∷ streams) some low few fits layers =
    and_from _ _ (and_from _ _ (le-leb index 3 low) (le-leb (length (stream ∷ streams)) 4 few)) (and_from _ _ fits layers)

pub streams_bytes-some : (index : ℕ) (streams : List Stream) → 0 < length streams → streams_bytes index streams ≡ packed_bytes index streams
streams_bytes-some index [] some = absurd (omega arith)
streams_bytes-some index (stream ∷ streams) some = refl

pub written-bytes : (a : Allocation) → written_of a ≡ streams_bytes a.current_simulcast_stream_index a.simulcast_streams
unfolding written_of
written-bytes a = refl

-- there is a head at least
streams_bytes-long : (index : ℕ) (streams : List Stream) → 1 ≤ length (streams_bytes index streams)
streams_bytes-long index [] = omega arith
streams_bytes-long index (stream ∷ streams) = omega arith

pub written-long : (a : Allocation) → 1 ≤ length (written_of a)
written-long a = omega (arith, ap length (written-bytes a), streams_bytes-long a.current_simulcast_stream_index a.simulcast_streams)

pub AllByRecursion-tail : (P : Layer → Type 0) (all rest : List Layer) {layer : Layer} → all ≡ layer ∷ rest → AllByRecursion P all → AllByRecursion P rest
AllByRecursion-tail P all rest is h = (subst (AllByRecursion P) is h).1

pub measured : (index : ℕ) (streams : List Stream) (spelled layers : ℕ) → 0 < length streams → index ≤ 3 → length streams ≤ 4 → list_all stream_fits streams ≡ true
    → layers_fit (active_layers streams) ≡ true → spelled ≡ length (mask_bytes (map mask_of streams))
    → layers ≡ (length (active_layers streams) + 3) / 4 + (length (flat_map rate_bytes (active_layers streams)) + length (flat_map resolution_bytes (active_layers streams)))
    → (streams_fit index streams ≡ true) × (1 + spelled + layers ≡ length (streams_bytes index streams))
measured index streams spelled layers some low few fits layers_ok spelled-is layers-is = (
  streams_fit-some index streams some low few fits layers_ok,
  omega (arith, spelled-is, layers-is, length-packed_bytes index streams, ap length (streams_bytes-some index streams some)),
)
