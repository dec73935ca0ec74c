-- Masks, counts, rates and resolutions: what is read is what stands there, and the other way round.
use Rattle.rtp_vla.proofs.Common.{◌≡◌, ℕ, zero, suc, ◌+◌, ◌*◌, ◌/◌, ◌%◌, ◌<◌, ◌≤◌, inl, inr, List, [], ◌∷◌, ◌++◌, length, take, get_or, map, true, None, Some, Option, refl, sym, ap, ◌∙◌, subst, arith, AllByRecursion, flat_map, length-take-le, ResolutionAndFramerate, leb_rest, Layer, AreHalves, AreMasks, AreQuarters, AreRates, AreResolutions, next_len, halves, quarters, rates_of, after_rates, resolution_in, after_resolution, FitResolutions, layers_read, HasMasks}
use Rattle.rtp_vla.proofs.LebLemmas.{ReadsLeb-read, read-ReadsLeb}

-- ---- Lists

abbrev pub AreBytes : List ℕ → Type 0
AreBytes bytes = AllByRecursion (λ byte. byte < 256) bytes

pub AreBytes-from : (bytes : List ℕ) → ((i : ℕ) → get_or bytes i 0 < 256) → AreBytes bytes
AreBytes-from [] all = tt
AreBytes-from (byte ∷ bytes) all = (all 0, AreBytes-from bytes (λ i. all (suc i)))

pub AreBytes-parts : (xs ys : List ℕ) → AreBytes (xs ++ ys) → AreBytes xs × AreBytes ys
AreBytes-parts [] ys all = (tt, all)
AreBytes-parts (x ∷ xs) ys all = let rest = AreBytes-parts xs ys all.1 in ((all.0, rest.0), rest.1)

pub same_parts : (xs ys r s : List ℕ) → length xs ≡ length ys → xs ++ r ≡ ys ++ s → (xs ≡ ys) × (r ≡ s)
same_parts [] [] r s len is = (refl, is)
same_parts [] (y ∷ ys) r s len is = absurd (omega arith)
same_parts (x ∷ xs) [] r s len is = absurd (omega arith)
same_parts (x ∷ xs) (y ∷ ys) r s len is =
    let first : x ≡ y = cc in
    let tail : xs ++ r ≡ ys ++ s = cc in
    let rest = same_parts xs ys r s (omega arith) tail in
    ((λ i. first i ∷ rest.0 i), rest.1)

-- ---- Masks

AreHalves-from : (n : ℕ) (bytes : List ℕ) → length bytes ≡ (n + 1) / 2 → AreBytes bytes → AreHalves (take n (halves bytes)) bytes × AllByRecursion (λ mask. mask ≤ 15) (take n (halves bytes))
AreHalves-from zero [] len all = (tt, tt)
AreHalves-from zero (byte ∷ bytes) len all = absurd (omega arith)
AreHalves-from (suc n) [] len all = absurd (omega arith)
AreHalves-from (suc zero) (byte ∷ []) len all = ((byte % 16, omega arith, omega arith), (omega arith, tt))
AreHalves-from (suc zero) (byte ∷ next ∷ bytes) len all = absurd (omega arith)
AreHalves-from (suc (suc n)) (byte ∷ bytes) len all =
    let rest = AreHalves-from n bytes (omega arith) all.1 in
    ((omega arith, rest.0), (omega arith, (omega arith, rest.1)))

pub AreHalves-read : (masks bytes : List ℕ) → AllByRecursion (λ mask. mask ≤ 15) masks → AreHalves masks bytes → (masks ≡ take (length masks) (halves bytes)) × (length bytes ≡ (length masks + 1) / 2)
AreHalves-read [] [] fit are = (refl, omega arith)
AreHalves-read [] (byte ∷ bytes) fit are = absurd are
AreHalves-read (m ∷ []) [] fit are = absurd are
AreHalves-read (m ∷ []) (byte ∷ []) fit are =
    let is : m ≡ byte / 16 % 16 = omega (arith, are.1, are.2, fit.0) in
    ((λ i. is i ∷ []), omega arith)
AreHalves-read (m ∷ []) (byte ∷ next ∷ bytes) fit are = absurd are
AreHalves-read (m ∷ n ∷ masks) [] fit are = absurd are
AreHalves-read (m ∷ n ∷ masks) (byte ∷ bytes) fit are =
    let rest = AreHalves-read masks bytes fit.1.1 are.1 in
    let high : m ≡ byte / 16 % 16 = omega (arith, are.0, fit.0, fit.1.0) in
    let low : n ≡ byte % 16 = omega (arith, are.0, fit.0, fit.1.0) in
    ((λ i. high i ∷ low i ∷ rest.0 i), omega (arith, rest.1))

pub HasMasks-halves : (bytes spelled after masks : List ℕ) (count : ℕ) → bytes ≡ spelled ++ after → length spelled ≡ (count + 1) / 2 → AreBytes spelled
    → length masks ≡ count → masks ≡ take count (halves spelled) → HasMasks bytes 0 count masks after
HasMasks-halves bytes spelled after masks count is len all as_many masks-is =
    let from = AreHalves-from count spelled len all in
    record {
      mask_bytes = spelled;
      bytes_are = is;
      as_many = as_many;
      masks_fit = subst (AllByRecursion (λ mask. mask ≤ 15)) (sym masks-is) from.1;
      masks_are = inl (refl, subst (λ (ms : List ℕ). AreHalves ms spelled) (sym masks-is) from.0);
    }

all_taken : (P : ℕ → Type 0) (n : ℕ) (xs : List ℕ) → AllByRecursion P xs → AllByRecursion P (take n xs)
all_taken P zero xs all = tt
all_taken P (suc n) [] all = tt
all_taken P (suc n) (x ∷ xs) all = (all.0, all_taken P n xs all.1)

-- one mask for all streams
pub HasMasks-shared : (bytes : List ℕ) (shared streams : ℕ) → 0 < shared → shared ≤ 15 → streams ≤ 4 → HasMasks bytes shared streams (take streams (shared ∷ shared ∷ shared ∷ shared ∷ [])) bytes
HasMasks-shared bytes shared streams some fits few =
    let four : List ℕ = shared ∷ shared ∷ shared ∷ shared ∷ [] in
    record {
      mask_bytes = [];
      bytes_are = refl;
      as_many = length-take-le streams four few;
      masks_fit = all_taken (λ mask. mask ≤ 15) streams four (fits, (fits, (fits, (fits, tt))));
      masks_are = inr (some, all_taken (λ mask. mask ≡ shared) streams four (refl, (refl, (refl, (refl, tt)))), refl);
    }

same_shared : (shared : ℕ) (xs ys : List ℕ) → length xs ≡ length ys → AllByRecursion (λ mask. mask ≡ shared) xs → AllByRecursion (λ mask. mask ≡ shared) ys → xs ≡ ys
same_shared shared [] [] len all others = refl
same_shared shared [] (y ∷ ys) len all others = absurd (omega arith)
same_shared shared (x ∷ xs) [] len all others = absurd (omega arith)
same_shared shared (x ∷ xs) (y ∷ ys) len all others =
    let rest = same_shared shared xs ys (omega arith) all.1 others.1 in λ i. (all.0 ∙ sym others.0) i ∷ rest i

-- masks in the same bytes are the same
pub masks_same : (shared : ℕ) (masks others bytes spelled r s : List ℕ) → length masks ≡ length others → AllByRecursion (λ mask. mask ≤ 15) masks → AllByRecursion (λ mask. mask ≤ 15) others
    → AreMasks shared masks bytes → AreMasks shared others spelled → bytes ++ r ≡ spelled ++ s → (masks ≡ others) × (r ≡ s)
masks_same shared masks others bytes spelled r s len fit fits (inl are) (inl do_too) is =
    let one = AreHalves-read masks bytes fit are.1 in
    let two = AreHalves-read others spelled fits do_too.1 in
    let same = same_parts bytes spelled r s (omega (arith, one.1, two.1)) is in
    (one.0 ∙ ap (λ (n : ℕ). take n (halves bytes)) len ∙ ap (λ (bs : List ℕ). take (length others) (halves bs)) same.0 ∙ sym two.0, same.1)
masks_same shared masks others bytes spelled r s len fit fits (inl are) (inr do_too) is = absurd (omega (arith, are.0, do_too.0))
masks_same shared masks others bytes spelled r s len fit fits (inr are) (inl do_too) is = absurd (omega (arith, are.0, do_too.0))
masks_same shared masks others bytes spelled r s len fit fits (inr are) (inr do_too) is =
    (same_shared shared masks others len are.1 do_too.1, ap (λ (bs : List ℕ). bs ++ r) (sym are.2) ∙ is ∙ ap (λ (bs : List ℕ). bs ++ s) do_too.2)

-- ---- Counts

pub AreQuarters-from : (n : ℕ) (bytes : List ℕ) → length bytes ≡ (n + 3) / 4 → AreBytes bytes → AreQuarters (take n (quarters bytes)) bytes × AllByRecursion (λ count. count ≤ 3) (take n (quarters bytes))
AreQuarters-from zero [] len all = (tt, tt)
AreQuarters-from zero (byte ∷ bytes) len all = absurd (omega arith)
AreQuarters-from (suc n) [] len all = absurd (omega arith)
AreQuarters-from (suc zero) (byte ∷ []) len all = ((byte % 64, omega arith, omega arith), (omega arith, tt))
AreQuarters-from (suc zero) (byte ∷ next ∷ bytes) len all = absurd (omega arith)
AreQuarters-from (suc (suc zero)) (byte ∷ []) len all = ((byte % 16, omega arith, omega arith), (omega arith, (omega arith, tt)))
AreQuarters-from (suc (suc zero)) (byte ∷ next ∷ bytes) len all = absurd (omega arith)
AreQuarters-from (suc (suc (suc zero))) (byte ∷ []) len all = ((byte % 4, omega arith, omega arith), (omega arith, (omega arith, (omega arith, tt))))
AreQuarters-from (suc (suc (suc zero))) (byte ∷ next ∷ bytes) len all = absurd (omega arith)
AreQuarters-from (suc (suc (suc (suc n)))) (byte ∷ bytes) len all =
    let rest = AreQuarters-from n bytes (omega arith) all.1 in
    ((omega arith, rest.0), (omega arith, (omega arith, (omega arith, (omega arith, rest.1)))))

pub AreQuarters-read : (counts bytes : List ℕ) → AllByRecursion (λ count. count ≤ 3) counts → AreQuarters counts bytes → (counts ≡ take (length counts) (quarters bytes)) × (length bytes ≡ (length counts + 3) / 4)
AreQuarters-read [] [] fit are = (refl, omega arith)
AreQuarters-read [] (byte ∷ bytes) fit are = absurd are
AreQuarters-read (c ∷ []) [] fit are = absurd are
AreQuarters-read (c ∷ []) (byte ∷ []) fit are =
    let first : c ≡ byte / 64 % 4 = omega (arith, are.1, are.2, fit.0) in ((λ i. first i ∷ []), omega arith)
AreQuarters-read (c ∷ []) (byte ∷ next ∷ bytes) fit are = absurd are
AreQuarters-read (c ∷ d ∷ []) [] fit are = absurd are
AreQuarters-read (c ∷ d ∷ []) (byte ∷ []) fit are =
    let first : c ≡ byte / 64 % 4 = omega (arith, are.1, are.2, fit.0, fit.1.0) in
    let second : d ≡ byte / 16 % 4 = omega (arith, are.1, are.2, fit.0, fit.1.0) in
    ((λ i. first i ∷ second i ∷ []), omega arith)
AreQuarters-read (c ∷ d ∷ []) (byte ∷ next ∷ bytes) fit are = absurd are
AreQuarters-read (c ∷ d ∷ e ∷ []) [] fit are = absurd are
AreQuarters-read (c ∷ d ∷ e ∷ []) (byte ∷ []) fit are =
    let first : c ≡ byte / 64 % 4 = omega (arith, are.1, are.2, fit.0, fit.1.0, fit.1.1.0) in
    let second : d ≡ byte / 16 % 4 = omega (arith, are.1, are.2, fit.0, fit.1.0, fit.1.1.0) in
    let third : e ≡ byte / 4 % 4 = omega (arith, are.1, are.2, fit.0, fit.1.0, fit.1.1.0) in
    ((λ i. first i ∷ second i ∷ third i ∷ []), omega arith)
AreQuarters-read (c ∷ d ∷ e ∷ []) (byte ∷ next ∷ bytes) fit are = absurd are
AreQuarters-read (c ∷ d ∷ e ∷ f ∷ counts) [] fit are = absurd are
AreQuarters-read (c ∷ d ∷ e ∷ f ∷ counts) (byte ∷ bytes) fit are =
    let rest = AreQuarters-read counts bytes fit.1.1.1.1 are.1 in
    let first : c ≡ byte / 64 % 4 = omega (arith, are.0, fit.0, fit.1.0, fit.1.1.0, fit.1.1.1.0) in
    let second : d ≡ byte / 16 % 4 = omega (arith, are.0, fit.0, fit.1.0, fit.1.1.0, fit.1.1.1.0) in
    let third : e ≡ byte / 4 % 4 = omega (arith, are.0, fit.0, fit.1.0, fit.1.1.0, fit.1.1.1.0) in
    let fourth : f ≡ byte % 4 = omega (arith, are.0, fit.0, fit.1.0, fit.1.1.0, fit.1.1.1.0) in
    ((λ i. first i ∷ second i ∷ third i ∷ fourth i ∷ rest.0 i), omega (arith, rest.1))

-- ---- Rates

abbrev pub rates_in : List Layer → List ℕ
rates_in layers = flat_map (λ layer. layer.temporal_layers) layers

pub length-rates_of : (n : ℕ) (bytes : List ℕ) → length (rates_of n bytes) ≡ n
length-rates_of zero bytes = refl
length-rates_of (suc n) bytes = ap suc (length-rates_of n (leb_rest bytes))

-- how many temporal layers the first layer has
pub next_len-read : (counts rates resolutions : List ℕ) (count : ℕ) (left : List ℕ) → counts ≡ count ∷ left → next_len true (layers_read counts rates resolutions) ≡ suc count
next_len-read counts rates resolutions count left is = rw is (length-rates_of (suc count) rates)

pub next_len-first : (counts rates resolutions : List ℕ) (first : ℕ) → 1 ≤ length counts → ((count : ℕ) (left : List ℕ) → counts ≡ count ∷ left → first ≡ count)
    → next_len true (layers_read counts rates resolutions) ≡ suc first
next_len-first [] rates resolutions first some is = absurd (omega arith)
next_len-first (count ∷ counts) rates resolutions first some is = length-rates_of (suc count) rates ∙ ap suc (sym (is count counts refl))

pub after_rates-add : (m n : ℕ) (bytes : List ℕ) → after_rates (m + n) bytes ≡ after_rates n (after_rates m bytes)
after_rates-add zero n bytes = let same : 0 + n ≡ n = omega arith in ap (λ (k : ℕ). after_rates k bytes) same
after_rates-add (suc m) n bytes =
    let one : suc m + n ≡ suc (m + n) = omega arith in
    ap (λ (k : ℕ). after_rates k bytes) one ∙ after_rates-add m n (leb_rest bytes)

pub AreRates-front : (n : ℕ) (bytes more rest : List ℕ) → AreRates more (after_rates n bytes) rest → AreRates (rates_of n bytes ++ more) bytes rest
AreRates-front zero bytes more rest are = are
AreRates-front (suc n) bytes more rest are = (leb_rest bytes, ReadsLeb-read bytes, AreRates-front n (leb_rest bytes) more rest are)

pub AreRates-read : (rates bytes rest : List ℕ) → AreRates rates bytes rest → (rates ≡ rates_of (length rates) bytes) × (rest ≡ after_rates (length rates) bytes)
AreRates-read [] bytes rest are = (refl, sym are)
AreRates-read (rate ∷ rates) bytes rest (after, reads, are) =
    let first = read-ReadsLeb bytes rate after reads in
    let others = AreRates-read rates after rest are in (
      (λ i. sym first.0 i ∷ (others.0 ∙ ap (rates_of (length rates)) (sym first.1)) i),
      others.1 ∙ ap (after_rates (length rates)) (sym first.1),
    )

pub AreRates-split : (xs ys bytes rest : List ℕ) → AreRates (xs ++ ys) bytes rest → (mid : List ℕ) × AreRates xs bytes mid × AreRates ys mid rest
AreRates-split [] ys bytes rest are = (bytes, refl, are)
AreRates-split (x ∷ xs) ys bytes rest (after, reads, are) =
    let others = AreRates-split xs ys after rest are in (others.0, (after, reads, others.1), others.2)

-- ---- Resolutions

no_resolutions : (counts rates resolutions : List ℕ) → length resolutions < 5
    → AllByRecursion (λ resolution. resolution ≡ None) (map (λ layer. layer.resolution_and_framerate) (layers_read counts rates resolutions))
no_resolutions [] rates resolutions short = tt
no_resolutions (count ∷ counts) rates [] short = (refl, no_resolutions counts (after_rates (suc count) rates) [] short)
no_resolutions (count ∷ counts) rates (x ∷ []) short = (refl, no_resolutions counts (after_rates (suc count) rates) (x ∷ []) short)
no_resolutions (count ∷ counts) rates (x ∷ y ∷ []) short = (refl, no_resolutions counts (after_rates (suc count) rates) (x ∷ y ∷ []) short)
no_resolutions (count ∷ counts) rates (x ∷ y ∷ z ∷ []) short = (refl, no_resolutions counts (after_rates (suc count) rates) (x ∷ y ∷ z ∷ []) short)
no_resolutions (count ∷ counts) rates (x ∷ y ∷ z ∷ u ∷ []) short = (refl, no_resolutions counts (after_rates (suc count) rates) (x ∷ y ∷ z ∷ u ∷ []) short)
no_resolutions (count ∷ counts) rates (x ∷ y ∷ z ∷ u ∷ v ∷ bytes) short = absurd (omega arith)

pub AreResolutions-short : (others : List (Option ResolutionAndFramerate)) (bytes : List ℕ) → length bytes < 5 → AllByRecursion (λ resolution. resolution ≡ None) others → AreResolutions others bytes
AreResolutions-short [] bytes short none = tt
AreResolutions-short (first ∷ others) [] short none = none
AreResolutions-short (first ∷ others) (x ∷ []) short none = none
AreResolutions-short (first ∷ others) (x ∷ y ∷ []) short none = none
AreResolutions-short (first ∷ others) (x ∷ y ∷ z ∷ []) short none = none
AreResolutions-short (first ∷ others) (x ∷ y ∷ z ∷ u ∷ []) short none = none
AreResolutions-short (first ∷ others) (x ∷ y ∷ z ∷ u ∷ v ∷ bytes) short none = absurd (omega arith)

abbrev pub resolutions_of : List Layer → List (Option ResolutionAndFramerate)
resolutions_of layers = map (λ layer. layer.resolution_and_framerate) layers

short_read : (counts rates bytes : List ℕ) → length bytes < 5 → AreResolutions (resolutions_of (layers_read counts rates bytes)) bytes
short_read counts rates bytes short = AreResolutions-short (resolutions_of (layers_read counts rates bytes)) bytes short (no_resolutions counts rates bytes short)

pub resolutions_read : (counts rates resolutions : List ℕ) → FitResolutions (length counts) resolutions → AreResolutions (resolutions_of (layers_read counts rates resolutions)) resolutions
resolutions_read [] rates resolutions fit = tt
resolutions_read (count ∷ counts) rates [] fit = short_read (count ∷ counts) rates [] (omega arith)
resolutions_read (count ∷ counts) rates (x ∷ []) fit = short_read (count ∷ counts) rates (x ∷ []) (omega arith)
resolutions_read (count ∷ counts) rates (x ∷ y ∷ []) fit = short_read (count ∷ counts) rates (x ∷ y ∷ []) (omega arith)
resolutions_read (count ∷ counts) rates (x ∷ y ∷ z ∷ []) fit = short_read (count ∷ counts) rates (x ∷ y ∷ z ∷ []) (omega arith)
resolutions_read (count ∷ counts) rates (x ∷ y ∷ z ∷ u ∷ []) fit = short_read (count ∷ counts) rates (x ∷ y ∷ z ∷ u ∷ []) (omega arith)
resolutions_read (count ∷ counts) rates (x ∷ y ∷ z ∷ u ∷ v ∷ bytes) fit = (
  (
    record { width = 256 * x + y + 1; height = 256 * z + u + 1; framerate = v },
    refl,
    record { width = refl; height = refl; framerate = refl; width_fits = omega (arith, fit.0); height_fits = omega (arith, fit.1) },
  ),
  resolutions_read counts (after_rates (suc count) rates) bytes fit.2,
)

-- the first resolution, and the others
pub resolution_same : (first : Option ResolutionAndFramerate) (others : List (Option ResolutionAndFramerate)) (bytes : List ℕ) → AreResolutions (first ∷ others) bytes
    → (first ≡ resolution_in bytes) × AreResolutions others (after_resolution bytes)
resolution_same first others [] are = (are.0, AreResolutions-short others [] (omega arith) are.1)
resolution_same first others (x ∷ []) are = (are.0, AreResolutions-short others (x ∷ []) (omega arith) are.1)
resolution_same first others (x ∷ y ∷ []) are = (are.0, AreResolutions-short others (x ∷ y ∷ []) (omega arith) are.1)
resolution_same first others (x ∷ y ∷ z ∷ []) are = (are.0, AreResolutions-short others (x ∷ y ∷ z ∷ []) (omega arith) are.1)
resolution_same first others (x ∷ y ∷ z ∷ u ∷ []) are = (are.0, AreResolutions-short others (x ∷ y ∷ z ∷ u ∷ []) (omega arith) are.1)
resolution_same first others (x ∷ y ∷ z ∷ u ∷ v ∷ bytes) ((resolution, is, r), rest) =
    (is ∙ (λ i. Some (record { width = r.width i; height = r.height i; framerate = r.framerate i })), rest)

pub AreResolutions-fit : (others : List (Option ResolutionAndFramerate)) (bytes : List ℕ) → AreResolutions others bytes → FitResolutions (length others) bytes
AreResolutions-fit [] bytes are = tt
AreResolutions-fit (first ∷ others) [] are = tt
AreResolutions-fit (first ∷ others) (x ∷ []) are = tt
AreResolutions-fit (first ∷ others) (x ∷ y ∷ []) are = tt
AreResolutions-fit (first ∷ others) (x ∷ y ∷ z ∷ []) are = tt
AreResolutions-fit (first ∷ others) (x ∷ y ∷ z ∷ u ∷ []) are = tt
AreResolutions-fit (first ∷ others) (x ∷ y ∷ z ∷ u ∷ v ∷ bytes) ((resolution, is, r), rest) =
    (omega (arith, r.width, r.width_fits), omega (arith, r.height, r.height_fits), AreResolutions-fit others bytes rest)
