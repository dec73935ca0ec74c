-- What the bytes mean is what is read from left to right, and the other way round.
use Rattle.rtp_vla.proofs.Common.{◌≡◌, ℕ, ◌+◌, ◌-◌, ◌*◌, ◌≤◌, inl, inr, List, [], ◌∷◌, ◌++◌, length, take, map, sym, ap, ◌∙◌, subst, arith, AllByRecursion, length-map, take_all, Layer, Stream, Allocation, active_layers, mask_of, count_of, AreMasks, AreQuarters, AreRates, AreResolutions, IsReadable, IsCounted, IsPacked, Means, quarters, active_count, dealt_streams, after_rates, FitResolutions, layers_read, rate_count, IsLaidOut}
use Rattle.rtp_vla.proofs.AllocationDealing.{AllActive, AllActive-active_layers, masks-dealt_streams, active-dealt_streams, length-dealt_streams, dealt_streams-back}
use Rattle.rtp_vla.proofs.AllocationParts.{AreBytes, AreBytes-parts, AreQuarters-from, AreQuarters-read, rates_in, resolutions_of, resolutions_read, AreResolutions-fit}
use Rattle.rtp_vla.proofs.AllocationLayout.{AllActive-read, counted_read, counts_read, rates_read, layers_back, read_counts, length-read_counts, one_layout, laid_out_long, laid_out_layers}

-- ---- What the bytes mean

pub packed_from : (bytes : List ℕ) (index : ℕ) (masks : List ℕ) (layers : List Layer) → AreBytes bytes → IsLaidOut bytes index masks layers → IsPacked bytes (record { current_simulcast_stream_index = index; simulcast_streams = dealt_streams masks layers })
packed_from bytes index masks layers all l =
    let cs = read_counts masks l.count_bytes in
    let rest = after_rates (rate_count cs) l.rate_bytes in
    let len = laid_out_layers bytes index masks layers l in
    let active : AllActive layers = subst AllActive (sym l.layers_are) (AllActive-read cs l.rate_bytes rest) in
    let dealt_masks = masks-dealt_streams masks layers l.masks_fit active (omega (arith, len)) in
    let dealt_active : active_layers (dealt_streams masks layers) ≡ layers_read cs l.rate_bytes rest =
    active-dealt_streams masks layers active (omega (arith, len)) ∙ take_all (active_count masks) layers (omega (arith, len)) ∙ l.layers_are in
    let streams = length-dealt_streams masks layers in
    let inside = (AreBytes-parts l.count_bytes l.rate_bytes (AreBytes-parts l.mask_bytes (l.count_bytes ++ l.rate_bytes) (subst AreBytes l.bytes_are all).1).1).0 in
    let quarters_are = AreQuarters-from (active_count masks) l.count_bytes l.counts_len inside in
    record {
      shared = l.shared;
      mask_bytes = l.mask_bytes;
      count_bytes = l.count_bytes;
      rate_bytes = l.rate_bytes;
      rest = rest;
      bytes_are = l.bytes_are ∙ ap (λ (n : ℕ). (64 * index + 16 * (n - 1) + l.shared) ∷ (l.mask_bytes ++ (l.count_bytes ++ l.rate_bytes))) (sym streams);
      index_fits = l.index_fits;
      some_stream = omega (arith, l.some_mask, streams);
      few_streams = omega (arith, l.few_masks, streams);
      shared_fits = l.shared_fits;
      readable = dealt_masks.1;
      counted = subst (AllByRecursion IsCounted) (sym dealt_active) (counted_read cs l.rate_bytes rest quarters_are.1);
      masks_are = subst (λ (ms : List ℕ). AreMasks l.shared ms l.mask_bytes) (sym dealt_masks.0) l.masks_are;
      counts_are = subst (λ (ls : List Layer). AreQuarters (map count_of ls) l.count_bytes) (sym dealt_active)
          (subst (λ (ns : List ℕ). AreQuarters ns l.count_bytes) (sym (counts_read cs l.rate_bytes rest)) quarters_are.0);
      rates_are = subst (λ (ls : List Layer). AreRates (rates_in ls) l.rate_bytes rest) (sym dealt_active) (rates_read cs l.rate_bytes rest);
      resolutions_are = subst (λ (ls : List Layer). AreResolutions (resolutions_of ls) rest) (sym dealt_active)
          (resolutions_read cs l.rate_bytes rest (subst (λ (n : ℕ). FitResolutions n rest) (sym (length-read_counts masks l.count_bytes l.counts_len)) l.resolutions_fit));
    }

pub counts_fit : (layers : List Layer) → AllByRecursion IsCounted layers → AllByRecursion (λ count. count ≤ 3) (map count_of layers)
counts_fit [] all = tt
counts_fit (layer ∷ layers) all = (omega (arith, all.0), counts_fit layers all.1)

masks_fit : (streams : List Stream) → AllByRecursion IsReadable streams → AllByRecursion (λ mask. mask ≤ 15) (map mask_of streams)
masks_fit [] all = tt
masks_fit (stream ∷ streams) all = (all.0.mask_fits, masks_fit streams all.1)

pub laid_out_from : (bytes : List ℕ) (a : Allocation) → IsPacked bytes a → IsLaidOut bytes a.current_simulcast_stream_index (map mask_of a.simulcast_streams) (active_layers a.simulcast_streams)
laid_out_from bytes a p =
    let ss = a.simulcast_streams in
    let layers = active_layers ss in
    let masks = map mask_of ss in
    let many : length masks ≡ length ss = length-map ss mask_of in
    let count : active_count masks ≡ length layers = (dealt_streams-back ss p.readable).1 in
    let read = AreQuarters-read (map count_of layers) p.count_bytes (counts_fit layers p.counted) p.counts_are in
    let lens : length (map count_of layers) ≡ active_count masks = length-map layers count_of ∙ sym count in
    let cs : map count_of layers ≡ read_counts masks p.count_bytes = read.0 ∙ ap (λ (n : ℕ). take n (quarters p.count_bytes)) lens in
    let back = layers_back layers p.rate_bytes p.rest p.rest (AllActive-active_layers ss) p.rates_are p.resolutions_are in
    let rest : p.rest ≡ after_rates (rate_count (read_counts masks p.count_bytes)) p.rate_bytes = back.1 ∙ ap (λ (ns : List ℕ). after_rates (rate_count ns) p.rate_bytes) cs in
    record {
      shared = p.shared;
      mask_bytes = p.mask_bytes;
      count_bytes = p.count_bytes;
      rate_bytes = p.rate_bytes;
      bytes_are = p.bytes_are ∙ ap (λ (n : ℕ). (64 * a.current_simulcast_stream_index + 16 * (n - 1) + p.shared) ∷ (p.mask_bytes ++ (p.count_bytes ++ p.rate_bytes))) (sym many);
      index_fits = p.index_fits;
      some_mask = omega (arith, p.some_stream, many);
      few_masks = omega (arith, p.few_streams, many);
      shared_fits = p.shared_fits;
      masks_fit = masks_fit ss p.readable;
      masks_are = p.masks_are;
      counts_len = omega (arith, read.1, lens);
      layers_are = back.0 ∙ (λ i. layers_read (cs i) p.rate_bytes (rest i));
      resolutions_fit = subst (FitResolutions (active_count masks)) rest
          (subst (λ (n : ℕ). FitResolutions n p.rest) (length-map layers (λ layer. layer.resolution_and_framerate) ∙ sym count) (AreResolutions-fit (resolutions_of layers) p.rest p.resolutions_are));
    }

-- an allocation that the bytes mean is the one that is read
pub packed_only : (bytes : List ℕ) (index : ℕ) (masks : List ℕ) (layers : List Layer) (a : Allocation) → IsLaidOut bytes index masks layers → IsPacked bytes a
    → a ≡ record { current_simulcast_stream_index = index; simulcast_streams = dealt_streams masks layers }
packed_only bytes index masks layers a l p =
    let same = one_layout bytes a.current_simulcast_stream_index index (map mask_of a.simulcast_streams) masks (active_layers a.simulcast_streams) layers (laid_out_from bytes a p) l in
    let streams : a.simulcast_streams ≡ dealt_streams masks layers =
    sym (dealt_streams-back a.simulcast_streams p.readable).0 ∙ (λ i. dealt_streams (same.1 i) (same.2 i)) in
    λ i. record { current_simulcast_stream_index = same.0 i; simulcast_streams = streams i }

pub packed_long : (bytes : List ℕ) (a : Allocation) → IsPacked bytes a → 2 ≤ length bytes
packed_long bytes a p = laid_out_long bytes a.current_simulcast_stream_index (map mask_of a.simulcast_streams) (active_layers a.simulcast_streams) (laid_out_from bytes a p)

pub one_meaning : (bytes : List ℕ) (a b : Allocation) → Means bytes a → Means bytes b → a ≡ b
one_meaning bytes a b (inl nothing) (inl none) = nothing.1 ∙ sym none.1
one_meaning bytes a b (inl nothing) (inr p) = absurd (omega (arith, packed_long bytes b p, ap length nothing.0))
one_meaning bytes a b (inr p) (inl nothing) = absurd (omega (arith, packed_long bytes a p, ap length nothing.0))
one_meaning bytes a b (inr p) (inr q) =
    let l = laid_out_from bytes b q in
    packed_only bytes b.current_simulcast_stream_index (map mask_of b.simulcast_streams) (active_layers b.simulcast_streams) a l p
    ∙ sym (packed_only bytes b.current_simulcast_stream_index (map mask_of b.simulcast_streams) (active_layers b.simulcast_streams) b l q)
