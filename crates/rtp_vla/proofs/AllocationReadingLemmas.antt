-- The parts of an allocation, read one after another.
use Rattle.rtp_vla.proofs.Common.{◌≡◌, ℕ, zero, suc, ◌+◌, ◌-◌, ◌*◌, ◌/◌, ◌%◌, ◌^◌, ◌<◌, ◌≤◌, ◌&&◌, ◌↔◌, ◌⊎◌, inl, inr, ⊎_elim, List, [], ◌∷◌, ◌++◌, length, take, drop, get_or, Bool, true, false, leb, eqb, refl, sym, ap, ◌∙◌, subst, arith, bit_and, pow-suc, agree_below_at, and_parts, eqb-true, leb-true, ne_eqb, append_assoc, append-nil, and_mask, leb_value, leb_rest, Layer}
use Rattle.std.specs.Bool.{OnTrue}
use Rattle.std.specs.List.{AllByRecursion}
use Rattle.std.proofs.Math.Nat.{suc-mul}
use Rattle.std.specs.Int.{w8, leading_zeros}
use Rattle.std.specs.Int.Count.{ones, count_leading_zeros}
use Rattle.rtp_vla.specs.AllocationReading.{halves, quarters, mask_bits, marks_of, marked, active_in, active_count, idle_layer, dealt, Deals, DealsOn, rates_of, after_rates, after_resolution, FitResolutions, layers_read}

-- ---- Masks and counts

agrees : (mask : ℕ) → mask ≤ 15 → (eqb (ones mask) (active_in mask) && leb (ones mask) 4) ≡ true
unfolding marks_of ones
agrees mask few = agree_below_at (λ m. eqb (ones m) (active_in m) && leb (ones m) 4) (λ m. true) 16 mask refl (omega arith)

pub ones-active_in : (mask : ℕ) → mask ≤ 15 → (ones mask ≡ active_in mask) × (ones mask ≤ 4)
ones-active_in mask few =
    let parts = and_parts (eqb (ones mask) (active_in mask)) (leb (ones mask) 4) (agrees mask few) in
    (eqb-true _ _ parts.0, leb-true _ _ parts.1)

get_or-halves : (bytes : List ℕ) (i : ℕ) → i < 2 * length bytes → get_or (halves bytes) i 0 ≡ get_or bytes (i / 2) 0 / 2 ^ (4 - 4 * (i % 2)) % 16
get_or-halves [] i within = absurd (omega arith)
get_or-halves (byte ∷ bytes) zero within = refl
get_or-halves (byte ∷ bytes) (suc zero) within = ap (λ (n : ℕ). n % 16) (omega arith)
get_or-halves (byte ∷ bytes) (suc (suc i)) within =
    let row : suc (suc i) / 2 ≡ suc (i / 2) = omega arith in
    let column : suc (suc i) % 2 ≡ i % 2 = omega arith in
    get_or-halves bytes i (omega arith)
    ∙ ap (λ (k : ℕ). get_or (byte ∷ bytes) k 0 / 2 ^ (4 - 4 * (i % 2)) % 16) (sym row)
    ∙ ap (λ (k : ℕ). get_or (byte ∷ bytes) (suc (suc i) / 2) 0 / 2 ^ (4 - 4 * k) % 16) (sym column)

pub half_read : (bytes : List ℕ) (i : ℕ) → i < 2 * length bytes → bit_and (get_or bytes (i / 2) 0 / 2 ^ (4 - 4 * (i % 2))) 15 ≡ get_or (halves bytes) i 0
half_read bytes i within = and_mask (get_or bytes (i / 2) 0 / 2 ^ (4 - 4 * (i % 2))) 4 ∙ sym (get_or-halves bytes i within)

pub length-halves : (bytes : List ℕ) → length (halves bytes) ≡ 2 * length bytes
length-halves [] = refl
length-halves (byte ∷ bytes) = omega (arith, length-halves bytes)

pub length-quarters : (bytes : List ℕ) → length (quarters bytes) ≡ 4 * length bytes
length-quarters [] = refl
length-quarters (byte ∷ bytes) = omega (arith, length-quarters bytes)

-- where all masks are one, each marks as many layers
pub active_shared : (masks : List ℕ) (shared : ℕ) → AllByRecursion (λ mask. mask ≡ shared) masks → active_count masks ≡ length masks * active_in shared
active_shared [] shared all = omega arith
active_shared (mask ∷ masks) shared all = omega (arith, ap active_in all.0, active_shared masks shared all.1, suc-mul (length masks) (active_in shared))

-- ---- Rates

one_less : (count i : ℕ) → i < count → count - i ≡ suc (count - (i + 1))
one_less count i within = omega arith

pub after_rates-more : (count i : ℕ) (bytes next all : List ℕ) → i < count → next ≡ leb_rest bytes → after_rates (count - i) bytes ≡ all → after_rates (count - (i + 1)) next ≡ all
after_rates-more count i bytes next all within is so_far =
    ap (after_rates (count - (i + 1))) is ∙ ap (λ (n : ℕ). after_rates n bytes) (sym (one_less count i within)) ∙ so_far

pub rates_of-more : (count i rate : ℕ) (rates bytes next all : List ℕ) → i < count → rate ≡ leb_value bytes → next ≡ leb_rest bytes → rates ++ rates_of (count - i) bytes ≡ all
    → (rates ++ rate ∷ []) ++ rates_of (count - (i + 1)) next ≡ all
rates_of-more count i rate rates bytes next all within rate-is is so_far =
    append_assoc rates (rate ∷ []) (rates_of (count - (i + 1)) next)
    ∙ ap (λ (r : ℕ). rates ++ r ∷ rates_of (count - (i + 1)) next) rate-is
    ∙ ap (λ (bs : List ℕ). rates ++ leb_value bytes ∷ rates_of (count - (i + 1)) bs) is
    ∙ ap (λ (n : ℕ). rates ++ rates_of n bytes) (sym (one_less count i within)) ∙ so_far

-- ---- Resolutions

pub FitResolutions-short : (count : ℕ) (bytes : List ℕ) → length bytes < 5 → FitResolutions count bytes
FitResolutions-short zero bytes short = tt
FitResolutions-short (suc count) [] short = tt
FitResolutions-short (suc count) (x ∷ []) short = tt
FitResolutions-short (suc count) (x ∷ y ∷ []) short = tt
FitResolutions-short (suc count) (x ∷ y ∷ z ∷ []) short = tt
FitResolutions-short (suc count) (x ∷ y ∷ z ∷ u ∷ []) short = tt
FitResolutions-short (suc count) (x ∷ y ∷ z ∷ u ∷ v ∷ bytes) short = absurd (omega arith)

-- the first of them and the others
abbrev FitsFirst : ℕ → List ℕ → List ℕ → Type 0
FitsFirst count field next = (256 * get_or field 0 0 + get_or field 1 0 < 65535) × (256 * get_or field 2 0 + get_or field 3 0 < 65535) × FitResolutions count next

pub fits_first : (count : ℕ) (bytes field next : List ℕ) → field ≡ take 5 bytes → next ≡ drop 5 bytes → 5 ≤ length bytes → FitResolutions (suc count) bytes ↔ FitsFirst count field next
fits_first count [] field next f n long = absurd (omega arith)
fits_first count (x ∷ []) field next f n long = absurd (omega arith)
fits_first count (x ∷ y ∷ []) field next f n long = absurd (omega arith)
fits_first count (x ∷ y ∷ z ∷ []) field next f n long = absurd (omega arith)
fits_first count (x ∷ y ∷ z ∷ u ∷ []) field next f n long = absurd (omega arith)
fits_first count (x ∷ y ∷ z ∷ u ∷ v ∷ bytes) field next f n long = (
  λ h. subst (λ (xs : List ℕ). FitsFirst count xs next) (sym f) (subst (λ (xs : List ℕ). FitsFirst count (x ∷ y ∷ z ∷ u ∷ v ∷ []) xs) (sym n) h),
  λ h. subst (λ (xs : List ℕ). FitsFirst count (x ∷ y ∷ z ∷ u ∷ v ∷ []) xs) n (subst (λ (xs : List ℕ). FitsFirst count xs next) f h),
)

pub fits_left : (count i : ℕ) (bytes : List ℕ) (All : Type 0) → i < count → (FitResolutions (count - i) bytes ↔ All) → (FitResolutions (suc (count - (i + 1))) bytes ↔ All)
fits_left count i bytes All within h = subst (λ (n : ℕ). FitResolutions n bytes ↔ All) (one_less count i within) h

-- ---- One layer after another

pub length-layers_read : (counts rates resolutions : List ℕ) → length (layers_read counts rates resolutions) ≡ length counts
length-layers_read [] rates resolutions = refl
length-layers_read (count ∷ counts) rates resolutions = ap suc (length-layers_read counts (after_rates (suc count) rates) (after_resolution resolutions))

-- ---- Layers dealt by a mask

pub zero_or_more : (n : ℕ) → (n ≡ 0) ⊎ (0 < n)
zero_or_more zero = inl refl
zero_or_more (suc n) = inr (omega arith)

pub mask_bits-zero : (room : ℕ) → mask_bits room 0 ≡ []
mask_bits-zero zero = refl
mask_bits-zero (suc room) = refl

pub mask_bits-above : (room mask : ℕ) → 0 < mask → mask_bits (suc room) mask ≡ eqb (mask % 2) 1 ∷ mask_bits room (mask / 2)
mask_bits-above room mask some = rw (ne_eqb mask 0 (λ none. absurd (omega arith))) refl

mask_bits-room : (room mask : ℕ) → mask < 2 ^ room → mask_bits (suc room) mask ≡ mask_bits room mask
mask_bits-room zero mask below =
    let none : mask ≡ 0 = omega arith in
    ap (mask_bits 1) none
mask_bits-room (suc room) mask below =
    ⊎_elim
    (λ none. ap (mask_bits (suc (suc room))) none ∙ ap (mask_bits (suc room)) (sym none))
    (λ some.
    mask_bits-above (suc room) mask some
    ∙ ap (λ (bits : List Bool). eqb (mask % 2) 1 ∷ bits) (mask_bits-room room (mask / 2) (omega (arith, pow-suc 2 room)))
    ∙ sym (mask_bits-above room mask some))
    (zero_or_more mask)

pub marks_of-none : marks_of 0 ≡ []
unfolding marks_of
marks_of-none = refl

pub marks_of-more : (mask : ℕ) → mask ≤ 15 → 0 < mask → marks_of mask ≡ eqb (mask % 2) 1 ∷ marks_of (mask / 2)
unfolding marks_of
marks_of-more mask few some =
    mask_bits-above 3 mask some ∙ ap (λ (bits : List Bool). eqb (mask % 2) 1 ∷ bits) (sym (mask_bits-room 3 (mask / 2) (omega arith)))

-- a mask has as many layers as it has bits up to its highest one
as_long : (mask : ℕ) → mask ≤ 15 → eqb (length (marks_of mask)) (8 - leading_zeros w8 mask) ≡ true
unfolding marks_of count_leading_zeros
as_long mask few = agree_below_at (λ m. eqb (length (marks_of m)) (8 - leading_zeros w8 m)) (λ m. true) 16 mask refl (omega arith)

few_bits : (room mask : ℕ) → length (mask_bits room mask) ≤ room
few_bits zero mask = omega arith
few_bits (suc room) mask =
    ⊎_elim
    (λ none. omega (arith, ap length (ap (mask_bits (suc room)) none ∙ mask_bits-zero (suc room))))
    (λ some. omega (arith, ap length (mask_bits-above room mask some), few_bits room (mask / 2)))
    (zero_or_more mask)

-- a mask marks up to four layers
pub few_marks : (mask : ℕ) → length (marks_of mask) ≤ 4
unfolding marks_of
few_marks mask = few_bits 4 mask

pub length-marks_of : (mask : ℕ) → mask ≤ 15 → length (marks_of mask) ≡ 8 - leading_zeros w8 mask
length-marks_of mask few = eqb-true _ _ (as_long mask few)

pub length-marks_of-more : (mask : ℕ) → mask ≤ 15 → 0 < mask → length (marks_of mask) ≡ length (marks_of (mask / 2)) + 1
length-marks_of-more mask few some = ap length (marks_of-more mask few some) ∙ omega arith

deals_one : (marks : List Bool) (b : Bool) (items old new all rest : List Layer) (layer : Layer) → Deals b old layer new → DealsOn items (b ∷ marks) old all rest
    → DealsOn (items ++ layer ∷ []) marks new all rest
deals_one marks true items old new all rest layer is h = record {
  stream = append_assoc items (layer ∷ []) (dealt marks new) ∙ ap (λ (xs : List Layer). items ++ dealt (true ∷ marks) xs) (sym is) ∙ h.stream;
  others = ap (drop (suc (marked marks))) (sym is) ∙ h.others;
  enough = omega (arith, h.enough, ap length is);
}
deals_one marks false items old new all rest layer (idle, same) h = record {
  stream = append_assoc items (layer ∷ []) (dealt marks new) ∙ ap (λ (x : Layer). items ++ x ∷ dealt marks new) idle ∙ ap (λ (xs : List Layer). items ++ idle_layer ∷ dealt marks xs) same ∙ h.stream;
  others = ap (drop (marked marks)) same ∙ h.others;
  enough = omega (arith, h.enough, ap length same);
}

pub deals_more : (mask : ℕ) (items old new all rest : List Layer) (layer : Layer) → mask ≤ 15 → 0 < mask → Deals (eqb (mask % 2) 1) old layer new → DealsOn items (marks_of mask) old all rest
    → DealsOn (items ++ layer ∷ []) (marks_of (mask / 2)) new all rest
deals_more mask items old new all rest layer few some deals h =
    deals_one (marks_of (mask / 2)) (eqb (mask % 2) 1) items old new all rest layer deals (rw (marks_of-more mask few some) at h)

active_one : (b : Bool) (marks : List Bool) (len : ℕ) → marked (b ∷ marks) ≤ len → OnTrue b (1 ≤ len)
active_one true marks len enough = omega arith
active_one false marks len enough = tt

pub active_next : (mask len : ℕ) → mask ≤ 15 → 0 < mask → active_in mask ≤ len → OnTrue (eqb (mask % 2) 1) (1 ≤ len)
active_next mask len few some enough = active_one (eqb (mask % 2) 1) (marks_of (mask / 2)) len (rw (marks_of-more mask few some) at enough)

pub deals_all : (mask : ℕ) (items left all rest : List Layer) → mask ≡ 0 → DealsOn items (marks_of mask) left all rest → (items ≡ all) × (left ≡ rest)
deals_all mask items left all rest none h =
    let marks : marks_of mask ≡ [] = ap marks_of none ∙ marks_of-none in
    let done : DealsOn items [] left all rest = rw marks at h in
    (sym (append-nil items) ∙ done.stream, done.others)
