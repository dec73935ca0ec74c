-- Masks, counts, rates and resolutions as they are written mean what they spell.
use Rattle.rtp_vla.proofs.Common.{◌≡◌, ℕ, ◌<◌, ◌≤◌, ◌&&◌, inl, inr, ⊎_elim, List, [], ◌∷◌, ◌++◌, length, Bool, true, false, not, cond, eqb, leb, ltb, None, Some, Option, refl, sym, subst, arith, append_assoc, is_none, AllByRecursion, flat_map, list_all, and_parts, and_from, le-leb, lt-ltb, leb-true, ltb-true, eq-eqb, eqb-true, cases_eq, ne_eqb, false≢true, ResolutionAndFramerate, ReadsLeb, spelled, unspelled, shortest_of, Layer, AreHalves, AreMasks, AreQuarters, AreRates, AreResolutions, IsCounted, rates_fit, resolution_fits, resolutions_in_front, shared_of, halves_of, mask_bytes, quarters_of, rate_bytes, resolution_field, resolution_bytes}
use Rattle.rtp_vla.proofs.LebLemmas.{read_below}
use Rattle.rtp_vla.proofs.LebSpellingLemmas.{IsShortest-shortest_of, shortest_of-bytes}
use Rattle.rtp_vla.proofs.AllocationParts.{AreBytes, AreBytes-parts, rates_in, resolutions_of}

-- ---- Masks

AreHalves-of : (spare : ℕ) (masks : List ℕ) → spare ≤ 15 → AreHalves masks (halves_of spare masks)
AreHalves-of spare [] low = tt
AreHalves-of spare (m ∷ []) low = (spare, low, refl)
AreHalves-of spare (m ∷ n ∷ masks) low = (refl, AreHalves-of 15 masks (omega arith))

all_equal : (mask : ℕ) (masks : List ℕ) → list_all (λ other. eqb other mask) masks ≡ true → AllByRecursion (λ other. other ≡ mask) masks
all_equal mask [] all = tt
all_equal mask (m ∷ masks) all = let parts = and_parts _ _ all in (eqb-true m mask parts.0, all_equal mask masks parts.1)

shared_cases : (b : Bool) (mask : ℕ) (masks : List ℕ) → list_all (λ other. eqb other mask) masks ≡ b → (cond b mask 0 ≡ 0 → ⊥) → AllByRecursion (λ other. other ≡ cond b mask 0) (mask ∷ masks)
shared_cases true mask masks is some = (refl, all_equal mask masks is)
shared_cases false mask masks is some = absurd (some refl)

shared_all : (masks : List ℕ) → (shared_of masks ≡ 0 → ⊥) → AllByRecursion (λ mask. mask ≡ shared_of masks) masks
shared_all [] some = tt
shared_all (mask ∷ masks) some = shared_cases (list_all (λ other. eqb other mask) masks) mask masks refl some

cond_small : (b : Bool) (mask : ℕ) → mask ≤ 15 → cond b mask 0 ≤ 15
cond_small true mask low = low
cond_small false mask low = omega arith

pub shared_small : (masks : List ℕ) → AllByRecursion (λ mask. mask ≤ 15) masks → shared_of masks ≤ 15
shared_small [] fit = omega arith
shared_small (mask ∷ masks) fit = cond_small _ mask fit.0

pub AreMasks-of : (masks : List ℕ) → AreMasks (shared_of masks) masks (mask_bytes masks)
AreMasks-of masks =
    ⊎_elim
    (λ none. inl (none, rw (eq-eqb (shared_of masks) 0 none) (AreHalves-of 0 masks (omega arith))))
    (λ some. inr (omega (arith, some), shared_all masks some, rw (ne_eqb (shared_of masks) 0 some) refl))
    (cases_eq (shared_of masks) 0)

-- ---- Counts

pub AreQuarters-of : (counts : List ℕ) → AreQuarters counts (quarters_of counts)
AreQuarters-of [] = tt
AreQuarters-of (c ∷ []) = (0, omega arith, omega arith)
AreQuarters-of (c ∷ d ∷ []) = (0, omega arith, omega arith)
AreQuarters-of (c ∷ d ∷ e ∷ []) = (0, omega arith, omega arith)
AreQuarters-of (c ∷ d ∷ e ∷ f ∷ counts) = (refl, AreQuarters-of counts)

-- ---- Rates

AreRates-of : (rates more bytes rest : List ℕ) → list_all (λ rate. ltb rate 9223372036854775808) rates ≡ true → AreRates more bytes rest → AreRates (rates ++ more) (flat_map shortest_of rates ++ bytes) rest
AreRates-of [] more bytes rest small are = are
AreRates-of (rate ∷ rates) more bytes rest small are =
    let parts = and_parts (ltb rate 9223372036854775808) (list_all (λ r. ltb r 9223372036854775808) rates) small in (
      flat_map shortest_of rates ++ bytes,
      spelled (shortest_of rate) (append_assoc (shortest_of rate) (flat_map shortest_of rates) bytes) (IsShortest-shortest_of rate (ltb-true rate 9223372036854775808 parts.0)).spells,
      AreRates-of rates more bytes rest parts.1 are,
    )

abbrev pub layer_fits : Layer → Bool
layer_fits layer = rates_fit layer.temporal_layers

pub AreRates-layers : (layers : List Layer) (rest : List ℕ) → list_all layer_fits layers ≡ true → AreRates (rates_in layers) (flat_map rate_bytes layers ++ rest) rest
AreRates-layers [] rest fits = refl
AreRates-layers (layer ∷ layers) rest fits =
    let parts = and_parts (layer_fits layer) (list_all layer_fits layers) fits in
    let own = and_parts (leb (length layer.temporal_layers) 4) (list_all (λ rate. ltb rate 9223372036854775808) layer.temporal_layers) parts.0 in
    subst (λ (bytes : List ℕ). AreRates (rates_in (layer ∷ layers)) bytes rest) (sym (append_assoc (rate_bytes layer) (flat_map rate_bytes layers) rest))
    (AreRates-of layer.temporal_layers (rates_in layers) (flat_map rate_bytes layers ++ rest) rest own.1 (AreRates-layers layers rest parts.1))

pub counted_from : (layers : List Layer) → list_all layer_fits layers ≡ true → AllByRecursion IsCounted layers
counted_from [] fits = tt
counted_from (layer ∷ layers) fits =
    let parts = and_parts (layer_fits layer) (list_all layer_fits layers) fits in
    let own = and_parts (leb (length layer.temporal_layers) 4) (list_all (λ rate. ltb rate 9223372036854775808) layer.temporal_layers) parts.0 in
    (leb-true _ _ own.0, counted_from layers parts.1)

rates_small : (rates more bytes rest : List ℕ) → AreRates (rates ++ more) bytes rest → (list_all (λ rate. ltb rate 9223372036854775808) rates ≡ true) × ((mid : List ℕ) × AreRates more mid rest)
rates_small [] more bytes rest are = (refl, (bytes, are))
rates_small (rate ∷ rates) more bytes rest (after, reads, are) =
    let others = rates_small rates more after rest are in
    (and_from _ _ (lt-ltb rate 9223372036854775808 (read_below bytes rate after reads)) others.0, others.1)

pub layers_small : (layers : List Layer) (bytes rest : List ℕ) → AllByRecursion IsCounted layers → AreRates (rates_in layers) bytes rest → list_all layer_fits layers ≡ true
layers_small [] bytes rest counted are = refl
layers_small (layer ∷ layers) bytes rest counted are =
    let small = rates_small layer.temporal_layers (rates_in layers) bytes rest are in
    and_from _ _ (and_from _ _ (le-leb (length layer.temporal_layers) 4 counted.0) small.0) (layers_small layers small.1.0 rest counted.1 small.1.1)

-- ---- Resolutions

ended_one : (o : Option ResolutionAndFramerate) (layers : List Layer) → (resolution_fits true o && resolutions_in_front (is_none o) layers) ≡ true
    → (resolutions_in_front true layers ≡ true → (flat_map resolution_bytes layers ≡ []) × AllByRecursion (λ resolution. resolution ≡ None) (resolutions_of layers))
    → (resolution_field o ++ flat_map resolution_bytes layers ≡ []) × (o ≡ None) × AllByRecursion (λ resolution. resolution ≡ None) (resolutions_of layers)
ended_one None layers fits rest = let others = rest fits in (others.0, refl, others.1)
ended_one (Some r) layers fits rest = absurd (false≢true fits)

pub ended : (layers : List Layer) → resolutions_in_front true layers ≡ true → (flat_map resolution_bytes layers ≡ []) × AllByRecursion (λ resolution. resolution ≡ None) (resolutions_of layers)
ended [] fits = (refl, tt)
ended (layer ∷ layers) fits =
    let one = ended_one layer.resolution_and_framerate layers fits (ended layers) in (one.0, (one.1, one.2))

pub record Sizes (r : ResolutionAndFramerate) : Type 0 where
  pub width_some : 0 < r.width
  pub width_fits : r.width < 65536
  pub height_some : 0 < r.height
  pub height_fits : r.height < 65536
  pub framerate_fits : r.framerate < 256

pub sizes : (e : Bool) (r : ResolutionAndFramerate) → resolution_fits e (Some r) ≡ true → Sizes r
sizes e r fits =
    let all = and_parts (not e) _ fits in
    let parts = and_parts (ltb 0 r.width && ltb r.width 65536) _ all.1 in
    let width = and_parts (ltb 0 r.width) (ltb r.width 65536) parts.0 in
    let others = and_parts (ltb 0 r.height && ltb r.height 65536) (ltb r.framerate 256) parts.1 in
    let height = and_parts (ltb 0 r.height) (ltb r.height 65536) others.0 in
    record {
      width_some = ltb-true _ _ width.0;
      width_fits = ltb-true _ _ width.1;
      height_some = ltb-true _ _ height.0;
      height_fits = ltb-true _ _ height.1;
      framerate_fits = ltb-true _ _ others.1;
    }

front_one : (o : Option ResolutionAndFramerate) (layers : List Layer) → (resolution_fits false o && resolutions_in_front (is_none o) layers) ≡ true
    → (resolutions_in_front false layers ≡ true → AreResolutions (resolutions_of layers) (flat_map resolution_bytes layers))
    → AreResolutions (o ∷ resolutions_of layers) (resolution_field o ++ flat_map resolution_bytes layers)
front_one None layers fits rest =
    let none = ended layers fits in
    subst (AreResolutions (None ∷ resolutions_of layers)) (sym none.0) (refl, none.1)
front_one (Some r) layers fits rest =
    let parts = and_parts (resolution_fits false (Some r)) (resolutions_in_front false layers) fits in
    let s = sizes false r parts.0 in (
      (r, refl, record { width = omega (arith, s.width_some); height = omega (arith, s.height_some); framerate = refl; width_fits = omega (arith, s.width_fits); height_fits = omega (arith, s.height_fits) }),
      rest parts.1,
    )

pub AreResolutions-of : (layers : List Layer) → resolutions_in_front false layers ≡ true → AreResolutions (resolutions_of layers) (flat_map resolution_bytes layers)
AreResolutions-of [] fits = tt
AreResolutions-of (layer ∷ layers) fits = front_one layer.resolution_and_framerate layers fits (AreResolutions-of layers)

none_one : (e : Bool) (o : Option ResolutionAndFramerate) (layers : List Layer) → o ≡ None → ((d : Bool) → resolutions_in_front d layers ≡ true) → (resolution_fits e o && resolutions_in_front (is_none o) layers) ≡ true
none_one e o layers is rest = subst (λ (p : Option ResolutionAndFramerate). (resolution_fits e p && resolutions_in_front (is_none p) layers) ≡ true) (sym is) (rest true)

none_front : (layers : List Layer) → AllByRecursion (λ resolution. resolution ≡ None) (resolutions_of layers) → (e : Bool) → resolutions_in_front e layers ≡ true
none_front [] none e = refl
none_front (layer ∷ layers) none e = none_one e layer.resolution_and_framerate layers none.0 (none_front layers none.1)

some_one : (r : ResolutionAndFramerate) (o : Option ResolutionAndFramerate) (layers : List Layer) → o ≡ Some r → resolution_fits false (Some r) ≡ true → resolutions_in_front false layers ≡ true
    → (resolution_fits false o && resolutions_in_front (is_none o) layers) ≡ true
some_one r o layers is fits rest = subst (λ (p : Option ResolutionAndFramerate). (resolution_fits false p && resolutions_in_front (is_none p) layers) ≡ true) (sym is) (and_from _ _ fits rest)

pub front_from : (layers : List Layer) (bytes : List ℕ) → AreBytes bytes → AreResolutions (resolutions_of layers) bytes → resolutions_in_front false layers ≡ true
front_from [] bytes all are = refl
front_from (layer ∷ layers) [] all are = none_front (layer ∷ layers) are false
front_from (layer ∷ layers) (x ∷ []) all are = none_front (layer ∷ layers) are false
front_from (layer ∷ layers) (x ∷ y ∷ []) all are = none_front (layer ∷ layers) are false
front_from (layer ∷ layers) (x ∷ y ∷ z ∷ []) all are = none_front (layer ∷ layers) are false
front_from (layer ∷ layers) (x ∷ y ∷ z ∷ u ∷ []) all are = none_front (layer ∷ layers) are false
front_from (layer ∷ layers) (x ∷ y ∷ z ∷ u ∷ v ∷ bytes) all ((r, is, field), rest) =
    some_one r layer.resolution_and_framerate layers is
    (and_from (ltb 0 r.width && ltb r.width 65536) ((ltb 0 r.height && ltb r.height 65536) && ltb r.framerate 256)
    (and_from _ _ (lt-ltb 0 r.width (omega (arith, field.width))) (lt-ltb r.width 65536 (omega (arith, field.width_fits))))
    (and_from _ _ (and_from _ _ (lt-ltb 0 r.height (omega (arith, field.height))) (lt-ltb r.height 65536 (omega (arith, field.height_fits))))
    (lt-ltb r.framerate 256 (omega (arith, field.framerate, all.1.1.1.1.0)))))
    (front_from layers bytes all.1.1.1.1.1 rest)

-- ---- Written bytes are bytes

pub AreBytes-append : (xs ys : List ℕ) → AreBytes xs → AreBytes ys → AreBytes (xs ++ ys)
AreBytes-append [] ys all more = more
AreBytes-append (x ∷ xs) ys all more = (all.0, AreBytes-append xs ys all.1 more)

AreBytes-halves : (spare : ℕ) (masks : List ℕ) → spare ≤ 15 → AllByRecursion (λ mask. mask ≤ 15) masks → AreBytes (halves_of spare masks)
AreBytes-halves spare [] low fit = tt
AreBytes-halves spare (m ∷ []) low fit = (omega (arith, fit.0), tt)
AreBytes-halves spare (m ∷ n ∷ masks) low fit = (omega (arith, fit.0, fit.1.0), AreBytes-halves 15 masks (omega arith) fit.1.1)

pub AreBytes-masks : (b : Bool) (masks : List ℕ) → AllByRecursion (λ mask. mask ≤ 15) masks → AreBytes (cond b (halves_of 0 masks) [])
AreBytes-masks true masks fit = AreBytes-halves 0 masks (omega arith) fit
AreBytes-masks false masks fit = tt

pub AreBytes-quarters : (counts : List ℕ) → AllByRecursion (λ count. count ≤ 3) counts → AreBytes (quarters_of counts)
AreBytes-quarters [] fit = tt
AreBytes-quarters (c ∷ []) fit = (omega (arith, fit.0), tt)
AreBytes-quarters (c ∷ d ∷ []) fit = (omega (arith, fit.0, fit.1.0), tt)
AreBytes-quarters (c ∷ d ∷ e ∷ []) fit = (omega (arith, fit.0, fit.1.0, fit.1.1.0), tt)
AreBytes-quarters (c ∷ d ∷ e ∷ f ∷ counts) fit = (omega (arith, fit.0, fit.1.0, fit.1.1.0, fit.1.1.1.0), AreBytes-quarters counts fit.1.1.1.1)

AreBytes-rates : (rates : List ℕ) → AreBytes (flat_map shortest_of rates)
AreBytes-rates [] = tt
AreBytes-rates (rate ∷ rates) = AreBytes-append (shortest_of rate) (flat_map shortest_of rates) (shortest_of-bytes rate) (AreBytes-rates rates)

pub AreBytes-layers : (layers : List Layer) → AreBytes (flat_map rate_bytes layers)
AreBytes-layers [] = tt
AreBytes-layers (layer ∷ layers) = AreBytes-append (rate_bytes layer) (flat_map rate_bytes layers) (AreBytes-rates layer.temporal_layers) (AreBytes-layers layers)

AreBytes-resolution : (e : Bool) (o : Option ResolutionAndFramerate) → resolution_fits e o ≡ true → AreBytes (resolution_field o)
AreBytes-resolution e None fits = tt
AreBytes-resolution e (Some r) fits =
    let s = sizes e r fits in
    (omega (arith, s.width_fits), (omega arith, (omega (arith, s.height_fits), (omega arith, (s.framerate_fits, tt)))))

pub AreBytes-resolutions : (e : Bool) (layers : List Layer) → resolutions_in_front e layers ≡ true → AreBytes (flat_map resolution_bytes layers)
AreBytes-resolutions e [] fits = tt
AreBytes-resolutions e (layer ∷ layers) fits =
    let parts = and_parts (resolution_fits e layer.resolution_and_framerate) (resolutions_in_front (is_none layer.resolution_and_framerate) layers) fits in
    AreBytes-append (resolution_field layer.resolution_and_framerate) (flat_map resolution_bytes layers) (AreBytes-resolution e layer.resolution_and_framerate parts.0) (AreBytes-resolutions (is_none layer.resolution_and_framerate) layers parts.1)

pub after_bytes : (bytes : List ℕ) (rate : ℕ) (after : List ℕ) → AreBytes bytes → ReadsLeb bytes rate after → AreBytes after
after_bytes bytes rate after all (spelled front is leb) = (AreBytes-parts front after (subst AreBytes is all)).1
after_bytes bytes rate after all (unspelled none value is) = subst AreBytes (sym is) all
