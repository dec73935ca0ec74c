-- Bytes mean an allocation, or they mean none.
use Rattle.rtp_vla.proofs.Common.{◌≡◌, ℕ, zero, suc, ◌+◌, ◌-◌, ◌*◌, ◌/◌, ◌%◌, ◌<◌, ◌≤◌, ◌⊎◌, inl, inr, ⊎_elim, List, [], ◌∷◌, ◌++◌, length, take, drop, refl, sym, ap, ◌∙◌, subst, arith, cases_lt, take-append-drop, length-take-le, Layer, Allocation, nothing_sent, IsPacked, Means, halves, active_count, rate_count, after_rates, FitResolutions, layers_read, HasMasks, LacksMasks, IsLaidOut, IsCutShort, dealt_streams}
use Rattle.rtp_vla.proofs.AllocationReadingLemmas.{zero_or_more, length-halves}
use Rattle.rtp_vla.proofs.AllocationParts.{AreBytes, AreBytes-parts, HasMasks-halves, HasMasks-shared}
use Rattle.rtp_vla.proofs.AllocationLayout.{read_counts, cut_empty, cut_masks, cut_counts, cut_resolutions, HasMasks-at}
use Rattle.rtp_vla.proofs.AllocationMeaning.{packed_from, laid_out_from}

-- a width or height is above 65535, or none is
fit_or_not : (count : ℕ) (bytes : List ℕ) → FitResolutions count bytes ⊎ (FitResolutions count bytes → ⊥)
fit_or_not zero bytes = inl tt
fit_or_not (suc count) [] = inl tt
fit_or_not (suc count) (x ∷ []) = inl tt
fit_or_not (suc count) (x ∷ y ∷ []) = inl tt
fit_or_not (suc count) (x ∷ y ∷ z ∷ []) = inl tt
fit_or_not (suc count) (x ∷ y ∷ z ∷ u ∷ []) = inl tt
fit_or_not (suc count) (x ∷ y ∷ z ∷ u ∷ v ∷ bytes) = elim (cases_lt (256 * x + y) 65535) [
  | inr wide ↦ inr (λ fit. absurd (omega (arith, fit.0)))
  | inl narrow ↦ elim (cases_lt (256 * z + u) 65535) [
    | inr high ↦ inr (λ fit. absurd (omega (arith, fit.1)))
    | inl low ↦ elim (fit_or_not count bytes) [
      | inl others ↦ inl (narrow, low, others)
      | inr not ↦ inr (λ fit. not fit.2)
    ]
  ]
]

-- the masks of the streams that a head announces, and the bytes after them
record FindsMasks (bytes : List ℕ) (shared count : ℕ) : Type 0 where
  masks : List ℕ
  after : List ℕ
  has : HasMasks bytes shared count masks after

masks_or_none : (bytes : List ℕ) (shared count : ℕ) → AreBytes bytes → shared ≤ 15 → count ≤ 4 → FindsMasks bytes shared count ⊎ LacksMasks bytes shared count
masks_or_none bytes shared count all fits few = elim (zero_or_more shared) [
  | inr some ↦ inl (record { masks = take count (shared ∷ shared ∷ shared ∷ shared ∷ []); after = bytes; has = HasMasks-shared bytes shared count some fits few })
  | inl none ↦ elim (cases_lt (length bytes) ((count + 1) / 2)) [
    | inl short ↦ inr (record { spelled = none; short = short })
    | inr enough ↦
        let k = (count + 1) / 2 in
        let spelled = take k bytes in
        let split = sym (take-append-drop k bytes) in
        let len : length spelled ≡ k = length-take-le k bytes enough in
        inl (record {
          masks = take count (halves spelled);
          after = drop k bytes;
          has = HasMasks-at bytes (take count (halves spelled)) (drop k bytes) 0 shared count count (sym none) refl
              (HasMasks-halves bytes spelled (drop k bytes) (take count (halves spelled)) count split len (AreBytes-parts spelled (drop k bytes) (subst AreBytes split all)).0
              (length-take-le count (halves spelled) (omega (arith, len, length-halves spelled))) refl);
        })
  ]
]

-- where the parts are, if all of them are there
record FindsLayout (bytes : List ℕ) : Type 0 where
  index : ℕ
  masks : List ℕ
  layers : List Layer
  laid_out : IsLaidOut bytes index masks layers

laid_out_or_not : (head : ℕ) (after : List ℕ) → head < 256 → AreBytes after → FindsLayout (head ∷ after) ⊎ IsCutShort (head ∷ after)
laid_out_or_not head after below all = elim (masks_or_none after (head % 16) (head / 16 % 4 + 1) all (omega arith) (omega arith)) [
  | inr lacks ↦ inr (cut_masks (head ∷ after) head after refl lacks)
  | inl found ↦
      let active = active_count found.masks in
      let k = (active + 3) / 4 in
      let rest = found.after in
      let counts = take k rest in
      let rates = drop k rest in
      let split = sym (take-append-drop k rest) in
      elim (cases_lt (length rest) k) [
        | inl short ↦ inr (cut_counts (head ∷ after) head after found.masks rest refl found.has short)
        | inr enough ↦
            let len : length counts ≡ k = length-take-le k rest enough in
            let resolutions = after_rates (rate_count (read_counts found.masks counts)) rates in
            elim (fit_or_not active resolutions) [
              | inr unfit ↦ inr (cut_resolutions (head ∷ after) head after found.masks rest counts rates refl found.has split len unfit)
              | inl fit ↦ inl (record {
                index = head / 64;
                masks = found.masks;
                layers = layers_read (read_counts found.masks counts) rates resolutions;
                laid_out = record {
                  shared = head % 16;
                  mask_bytes = found.has.mask_bytes;
                  count_bytes = counts;
                  rate_bytes = rates;
                  bytes_are =
                      let first : head ≡ 64 * (head / 64) + 16 * (length found.masks - 1) + head % 16 = omega (arith, found.has.as_many) in
                      λ i. first i ∷ (found.has.bytes_are ∙ ap (λ (bs : List ℕ). found.has.mask_bytes ++ bs) split) i;
                  index_fits = omega arith;
                  some_mask = omega (arith, found.has.as_many);
                  few_masks = omega (arith, found.has.as_many);
                  shared_fits = omega arith;
                  masks_fit = found.has.masks_fit;
                  masks_are = found.has.masks_are;
                  counts_len = len;
                  layers_are = refl;
                  resolutions_fit = fit;
                };
              })
            ]
      ]
]

-- bytes with no parts mean at most that nothing is sent
packed_nowhere : (bytes : List ℕ) (a : Allocation) → IsCutShort bytes → IsPacked bytes a → ⊥
packed_nowhere bytes a cut p = cut _ _ _ (laid_out_from bytes a p)

-- bytes that have parts mean the allocation that is read from them
means_or_not : (head : ℕ) (after : List ℕ) → AreBytes (head ∷ after) → (head ∷ after ≡ 0 ∷ [] → ⊥) → ((a : Allocation) × Means (head ∷ after) a) ⊎ ((a : Allocation) → Means (head ∷ after) a → ⊥)
means_or_not head after all some = elim (laid_out_or_not head after all.0 all.1) [
  | inl found ↦ inl (record { current_simulcast_stream_index = found.index; simulcast_streams = dealt_streams found.masks found.layers }, inr (packed_from (head ∷ after) found.index found.masks found.layers all found.laid_out))
  | inr cut ↦ inr (λ a. ⊎_elim (λ nothing. absurd (some nothing.0)) (λ p. packed_nowhere (head ∷ after) a cut p))
]

pub means_or_none : (bytes : List ℕ) → AreBytes bytes → ((a : Allocation) × Means bytes a) ⊎ ((a : Allocation) → Means bytes a → ⊥)
means_or_none [] all = inr (λ a. ⊎_elim (λ nothing. absurd cc) (λ p. packed_nowhere [] a (cut_empty [] refl) p))
means_or_none (zero ∷ []) all = inl (nothing_sent, inl (refl, refl))
means_or_none (zero ∷ next ∷ after) all = means_or_not zero (next ∷ after) all (λ same. absurd cc)
means_or_none (suc head ∷ after) all = means_or_not (suc head) after all (λ same. absurd cc)
