-- The bytes taken apart: one layout, and what none has.
use Rattle.rtp_vla.proofs.Common.{◌≡◌, ℕ, zero, suc, ◌+◌, ◌-◌, ◌*◌, ◌/◌, ◌%◌, ◌^◌, ◌<◌, ◌≤◌, inl, inr, ⊎_elim, List, [], ◌∷◌, ◌++◌, length, take, map, Bool, true, false, eqb, refl, sym, ap, ◌∙◌, subst, arith, length-append, bit_and, AllByRecursion, pow-suc, eqb-false, and_mask, length-take-le, Layer, count_of, AreMasks, AreRates, AreResolutions, IsCounted}
use Rattle.rtp_vla.specs.AllocationReading.{quarters, mask_bits, marks_of, marked, active_in, active_count, rates_of, after_rates, after_resolution, FitResolutions, layers_read, rate_count, HasMasks, LacksMasks, IsLaidOut, IsCutShort}
use Rattle.rtp_vla.proofs.AllocationReadingLemmas.{length-quarters, length-layers_read, mask_bits-above}
use Rattle.rtp_vla.proofs.AllocationDealing.{AllActive}
use Rattle.rtp_vla.proofs.AllocationParts.{same_parts, AreHalves-read, masks_same, rates_in, length-rates_of, after_rates-add, AreRates-front, AreRates-read, AreRates-split, resolution_same}

-- ---- Layers that are read

pub AllActive-read : (counts rates resolutions : List ℕ) → AllActive (layers_read counts rates resolutions)
AllActive-read [] rates resolutions = tt
AllActive-read (count ∷ counts) rates resolutions = (refl, AllActive-read counts (after_rates (suc count) rates) (after_resolution resolutions))

pub counted_read : (counts rates resolutions : List ℕ) → AllByRecursion (λ count. count ≤ 3) counts → AllByRecursion IsCounted (layers_read counts rates resolutions)
counted_read [] rates resolutions fit = tt
counted_read (count ∷ counts) rates resolutions fit =
    (omega (arith, fit.0, length-rates_of (suc count) rates), counted_read counts (after_rates (suc count) rates) (after_resolution resolutions) fit.1)

pub counts_read : (counts rates resolutions : List ℕ) → map count_of (layers_read counts rates resolutions) ≡ counts
counts_read [] rates resolutions = refl
counts_read (count ∷ counts) rates resolutions =
    let one : length (rates_of (suc count) rates) - 1 ≡ count = omega (arith, length-rates_of (suc count) rates) in
    λ i. one i ∷ counts_read counts (after_rates (suc count) rates) (after_resolution resolutions) i

pub rates_read : (counts rates resolutions : List ℕ) → AreRates (rates_in (layers_read counts rates resolutions)) rates (after_rates (rate_count counts) rates)
rates_read [] rates resolutions = refl
rates_read (count ∷ counts) rates resolutions =
    AreRates-front (suc count) rates (rates_in (layers_read counts (after_rates (suc count) rates) (after_resolution resolutions))) (after_rates (rate_count (count ∷ counts)) rates)
    (subst (λ (rest : List ℕ). AreRates (rates_in (layers_read counts (after_rates (suc count) rates) (after_resolution resolutions))) (after_rates (suc count) rates) rest)
    (sym (after_rates-add (suc count) (rate_count counts) rates))
    (rates_read counts (after_rates (suc count) rates) (after_resolution resolutions)))

some_rate : (rates : List ℕ) → (elim rates as (λ _. Bool) [ [] ↦ false | rate ∷ others ↦ true ]) ≡ true → 1 ≤ length rates
some_rate [] active = cc
some_rate (rate ∷ rates) active = omega arith

-- layers with these rates and resolutions are read
pub layers_back : (layers : List Layer) (rates rest resolutions : List ℕ) → AllActive layers → AreRates (rates_in layers) rates rest
    → AreResolutions (map (λ layer. layer.resolution_and_framerate) layers) resolutions
    → (layers ≡ layers_read (map count_of layers) rates resolutions) × (rest ≡ after_rates (rate_count (map count_of layers)) rates)
layers_back [] rates rest resolutions all are resolutions_are = (refl, sym are)
layers_back (layer ∷ layers) rates rest resolutions all are resolutions_are =
    let parts = AreRates-split layer.temporal_layers (rates_in layers) rates rest are in
    let count : length layer.temporal_layers ≡ suc (count_of layer) = omega (arith, some_rate layer.temporal_layers all.0) in
    let own = AreRates-read layer.temporal_layers rates parts.0 parts.1 in
    let temporal : layer.temporal_layers ≡ rates_of (suc (count_of layer)) rates = own.0 ∙ ap (λ (n : ℕ). rates_of n rates) count in
    let after : parts.0 ≡ after_rates (suc (count_of layer)) rates = own.1 ∙ ap (λ (n : ℕ). after_rates n rates) count in
    let resolution = resolution_same layer.resolution_and_framerate (map (λ l. l.resolution_and_framerate) layers) resolutions resolutions_are in
    let others = layers_back layers parts.0 rest (after_resolution resolutions) all.1 parts.2 resolution.1 in (
      (λ i. record { temporal_layers = temporal i; resolution_and_framerate = resolution.0 i }
          ∷ (others.0 ∙ ap (λ (bs : List ℕ). layers_read (map count_of layers) bs (after_resolution resolutions)) after) i),
      others.1 ∙ ap (after_rates (rate_count (map count_of layers))) after
          ∙ sym (after_rates-add (suc (count_of layer)) (rate_count (map count_of layers)) rates),
    )

-- ---- Parts with one boundary

abbrev pub read_counts : List ℕ → List ℕ → List ℕ
read_counts masks counts = take (active_count masks) (quarters counts)

pub length-read_counts : (masks counts : List ℕ) → length counts ≡ (active_count masks + 3) / 4 → length (read_counts masks counts) ≡ active_count masks
length-read_counts masks counts len = length-take-le (active_count masks) (quarters counts) (omega (arith, len, length-quarters counts))

-- the head says the index, the number of masks and the shared mask
record HasHead (head index count shared : ℕ) : Type 0 where
  index_is : index ≡ head / 64
  count_is : count ≡ head / 16 % 4 + 1
  shared_is : shared ≡ head % 16

head_of : (head index count shared : ℕ) → index ≤ 3 → 1 ≤ count → count ≤ 4 → shared ≤ 15 → 64 * index + 16 * (count - 1) + shared ≡ head → HasHead head index count shared
head_of head index count shared low some few fits is = record { index_is = omega arith; count_is = omega arith; shared_is = omega arith }

-- what every layout of the bytes has, where these masks were found in them
pub record Agrees (bytes : List ℕ) (head : ℕ) (masks rest : List ℕ) (index : ℕ) (others : List ℕ) (layers : List Layer) (l : IsLaidOut bytes index others layers) : Type 0 where
  pub index_is : index ≡ head / 64
  pub masks_are : others ≡ masks
  pub parts_are : l.count_bytes ++ l.rate_bytes ≡ rest

agree : (bytes : List ℕ) (head : ℕ) (after masks rest : List ℕ) (index : ℕ) (others : List ℕ) (layers : List Layer) (l : IsLaidOut bytes index others layers)
    → bytes ≡ head ∷ after → HasMasks after (head % 16) (head / 16 % 4 + 1) masks rest → Agrees bytes head masks rest index others layers l
agree bytes head after masks rest index others layers l is has =
    let heads : 64 * index + 16 * (length others - 1) + l.shared ≡ head = let e = sym l.bytes_are ∙ is in cc in
    let tails : l.mask_bytes ++ (l.count_bytes ++ l.rate_bytes) ≡ after = let e = sym l.bytes_are ∙ is in cc in
    let h = head_of head index (length others) l.shared l.index_fits l.some_mask l.few_masks l.shared_fits heads in
    let same = masks_same (head % 16) others masks l.mask_bytes has.mask_bytes (l.count_bytes ++ l.rate_bytes) rest (h.count_is ∙ sym has.as_many) l.masks_fit has.masks_fit
    (subst (λ (s : ℕ). AreMasks s others l.mask_bytes) h.shared_is l.masks_are) has.masks_are (tails ∙ has.bytes_are) in
    record { index_is = h.index_is; masks_are = same.0; parts_are = same.1 }

parts_same : (bytes : List ℕ) (head : ℕ) (masks rest counts rates : List ℕ) (index : ℕ) (others : List ℕ) (layers : List Layer) (l : IsLaidOut bytes index others layers)
    → Agrees bytes head masks rest index others layers l → rest ≡ counts ++ rates → length counts ≡ (active_count masks + 3) / 4
    → (l.count_bytes ≡ counts) × (l.rate_bytes ≡ rates)
parts_same bytes head masks rest counts rates index others layers l a is len =
    same_parts l.count_bytes counts l.rate_bytes rates (omega (arith, l.counts_len, len, ap active_count a.masks_are)) (a.parts_are ∙ is)

-- ---- Refusals

pub cut_empty : (bytes : List ℕ) → length bytes ≡ 0 → IsCutShort bytes
cut_empty bytes empty index masks layers l = absurd (omega (arith, empty, ap length l.bytes_are))

halves_len : (shared : ℕ) (masks bytes : List ℕ) → shared ≡ 0 → AllByRecursion (λ mask. mask ≤ 15) masks → AreMasks shared masks bytes → length bytes ≡ (length masks + 1) / 2
halves_len shared masks bytes none fit (inl are) = (AreHalves-read masks bytes fit are.1).1
halves_len shared masks bytes none fit (inr are) = absurd (omega (arith, are.0, none))

pub cut_masks : (bytes : List ℕ) (head : ℕ) (after : List ℕ) → bytes ≡ head ∷ after → LacksMasks after (head % 16) (head / 16 % 4 + 1) → IsCutShort bytes
cut_masks bytes head after is lacks index others layers l =
    let heads : 64 * index + 16 * (length others - 1) + l.shared ≡ head = let e = sym l.bytes_are ∙ is in cc in
    let tails : l.mask_bytes ++ (l.count_bytes ++ l.rate_bytes) ≡ after = let e = sym l.bytes_are ∙ is in cc in
    let h = head_of head index (length others) l.shared l.index_fits l.some_mask l.few_masks l.shared_fits heads in
    absurd (omega (
      arith,
      lacks.short,
      h.count_is,
      ap length tails,
      length-append l.mask_bytes (l.count_bytes ++ l.rate_bytes),
      halves_len l.shared others l.mask_bytes (h.shared_is ∙ lacks.spelled) l.masks_fit l.masks_are,
    ))

pub cut_counts : (bytes : List ℕ) (head : ℕ) (after masks rest : List ℕ) → bytes ≡ head ∷ after → HasMasks after (head % 16) (head / 16 % 4 + 1) masks rest
    → length rest < (active_count masks + 3) / 4 → IsCutShort bytes
cut_counts bytes head after masks rest is has short index others layers l =
    let a = agree bytes head after masks rest index others layers l is has in
    absurd (omega (arith, short, l.counts_len, ap active_count a.masks_are, ap length a.parts_are, length-append l.count_bytes l.rate_bytes))

pub cut_resolutions : (bytes : List ℕ) (head : ℕ) (after masks rest counts rates : List ℕ) → bytes ≡ head ∷ after → HasMasks after (head % 16) (head / 16 % 4 + 1) masks rest
    → rest ≡ counts ++ rates → length counts ≡ (active_count masks + 3) / 4
    → (FitResolutions (active_count masks) (after_rates (rate_count (read_counts masks counts)) rates) → ⊥) → IsCutShort bytes
cut_resolutions bytes head after masks rest counts rates is has split len unfit index others layers l =
    let a = agree bytes head after masks rest index others layers l is has in
    let parts = parts_same bytes head masks rest counts rates index others layers l a split len in
    unfit (subst (λ (ms : List ℕ). FitResolutions (active_count ms) (after_rates (rate_count (read_counts ms counts)) rates)) a.masks_are
    (subst (λ (cs : List ℕ). FitResolutions (active_count others) (after_rates (rate_count (read_counts others cs)) rates)) parts.0
    (subst (λ (rs : List ℕ). FitResolutions (active_count others) (after_rates (rate_count (read_counts others l.count_bytes)) rs)) parts.1 l.resolutions_fit)))

-- ---- One layout

pub one_layout : (bytes : List ℕ) (index i : ℕ) (masks ms : List ℕ) (layers ls : List Layer) → IsLaidOut bytes index masks layers → IsLaidOut bytes i ms ls
    → (index ≡ i) × (masks ≡ ms) × (layers ≡ ls)
one_layout bytes index i masks ms layers ls l k =
    let head : ℕ = 64 * i + 16 * (length ms - 1) + k.shared in
    let h = head_of head i (length ms) k.shared k.index_fits k.some_mask k.few_masks k.shared_fits refl in
    let has : HasMasks (k.mask_bytes ++ (k.count_bytes ++ k.rate_bytes)) (head % 16) (head / 16 % 4 + 1) ms (k.count_bytes ++ k.rate_bytes) = record {
      mask_bytes = k.mask_bytes;
      bytes_are = refl;
      as_many = h.count_is;
      masks_fit = k.masks_fit;
      masks_are = subst (λ (s : ℕ). AreMasks s ms k.mask_bytes) h.shared_is k.masks_are;
    } in
    let a = agree bytes head (k.mask_bytes ++ (k.count_bytes ++ k.rate_bytes)) ms (k.count_bytes ++ k.rate_bytes) index masks layers l k.bytes_are has in
    let parts = parts_same bytes head ms (k.count_bytes ++ k.rate_bytes) k.count_bytes k.rate_bytes index masks layers l a refl k.counts_len in (
      a.index_is ∙ sym h.index_is,
      a.masks_are,
      l.layers_are
          ∙ (λ j. layers_read (read_counts (a.masks_are j) (parts.0 j)) (parts.1 j) (after_rates (rate_count (read_counts (a.masks_are j) (parts.0 j))) (parts.1 j)))
          ∙ sym k.layers_are,
    )

marked_some : (b : Bool) (marks : List Bool) → (b ≡ false → 1 ≤ marked marks) → 1 ≤ marked (b ∷ marks)
marked_some true marks some = omega arith
marked_some false marks some = some refl

-- a mask above 0 marks a layer
active_bits : (room mask : ℕ) → mask < 2 ^ room → 0 < mask → 1 ≤ marked (mask_bits room mask)
active_bits zero mask below some = absurd (omega arith)
active_bits (suc room) mask below some =
    subst (λ (marks : List Bool). 1 ≤ marked marks) (sym (mask_bits-above room mask some))
    (marked_some (eqb (mask % 2) 1) (mask_bits room (mask / 2)) (λ even. active_bits room (mask / 2) (omega (arith, pow-suc 2 room)) (omega (arith, eqb-false (mask % 2) 1 even))))

active_some : (mask : ℕ) → 0 < mask → mask ≤ 15 → 1 ≤ active_in mask
unfolding marks_of
active_some mask some few = active_bits 4 mask (omega arith) some

some_part : (shared : ℕ) (masks bytes counts : List ℕ) → 1 ≤ length masks → AllByRecursion (λ mask. mask ≤ 15) masks → AreMasks shared masks bytes
    → length counts ≡ (active_count masks + 3) / 4 → 1 ≤ length bytes + length counts
some_part shared masks bytes counts some fit (inl are) len = omega (arith, (AreHalves-read masks bytes fit are.1).1)
some_part shared [] bytes counts some fit (inr are) len = absurd (omega arith)
some_part shared (mask ∷ masks) bytes counts some fit (inr are) len = omega (arith, len, active_some mask (omega (arith, are.0, are.1.0)) fit.0)

pub laid_out_long : (bytes : List ℕ) (index : ℕ) (masks : List ℕ) (layers : List Layer) → IsLaidOut bytes index masks layers → 2 ≤ length bytes
laid_out_long bytes index masks layers l =
    omega (
      arith,
      ap length l.bytes_are,
      length-append l.mask_bytes (l.count_bytes ++ l.rate_bytes),
      length-append l.count_bytes l.rate_bytes,
      some_part l.shared masks l.mask_bytes l.count_bytes l.some_mask l.masks_fit l.masks_are l.counts_len,
    )

pub laid_out_layers : (bytes : List ℕ) (index : ℕ) (masks : List ℕ) (layers : List Layer) → IsLaidOut bytes index masks layers → length layers ≡ active_count masks
laid_out_layers bytes index masks layers l =
    ap length l.layers_are ∙ length-layers_read (read_counts masks l.count_bytes) l.rate_bytes (after_rates (rate_count (read_counts masks l.count_bytes)) l.rate_bytes) ∙ length-read_counts masks l.count_bytes l.counts_len

-- ---- The head's bits

pub head_parts : (head streams : ℕ) → streams ≡ bit_and (head / 16) 3 → (bit_and head 15 ≡ head % 16) × (streams + 1 ≡ head / 16 % 4 + 1)
head_parts head streams is =
    let two : streams ≡ head / 16 % 4 = is ∙ and_mask (head / 16) 2 in
    (and_mask head 4, omega arith)

pub HasMasks-at : (bytes masks after : List ℕ) (s shared n count : ℕ) → s ≡ shared → n ≡ count → HasMasks bytes s n masks after → HasMasks bytes shared count masks after
HasMasks-at bytes masks after s shared n count p q h =
    subst (λ (k : ℕ). HasMasks bytes k count masks after) p (subst (λ (k : ℕ). HasMasks bytes s k masks after) q h)

-- a shared mask above 0 is that of each stream
pub shared_masks : (bytes masks after : List ℕ) (shared given count : ℕ) → given ≡ shared → HasMasks bytes shared count masks after → 0 < given → AllByRecursion (λ mask. mask ≡ given) masks
shared_masks bytes masks after shared given count is h some =
    ⊎_elim
    (λ each. absurd (omega (arith, each.0, is)))
    (λ all. subst (λ (n : ℕ). AllByRecursion (λ mask. mask ≡ n) masks) (sym is) all.1)
    h.masks_are
