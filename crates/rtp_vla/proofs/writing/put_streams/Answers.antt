use Rattle.rtp_vla.proofs.Common.{rules, ◌≡◌, ◌≤◌, ◌+◌, ◌-◌, ◌*◌, ◌∷◌, ◌++◌, [], ◌∙◌, ap, sym, subst, arith, length, length-append, append_assoc, take, map, List, ℕ, AllByRecursion, flat_map, Stream, active_layers, mask_of, count_of, shared_of, mask_bytes, quarters_of, rate_bytes, resolution_bytes, packed_bytes, overwritten, overwritten-nil, nil_from_length, length-map}
use Rattle.rtp_vla.specs.Measuring.{AreMasksOf}
use Rattle.rtp_vla.proofs.AllocationWriting.{can_put}
use Rattle.rtp_vla.proofs.AllocationWritingLemmas.{length-active, length-packed_bytes, length-quarters_of}
use Rattle.rtp_vla.proofs.LeavingLemmas.{overwritten-four}
use Rattle.rtp_vla.proofs.writing.put_streams.Goals as goal
use Rattle.rtp_vla.proofs.writing.put_streams.Goals.{After-put_counts_and_rates-end}

-- the masks of as many streams as are lent
masks_in : (count : ℕ) (streams : List Stream) (masks : List ℕ) (shared active : ℕ) → length streams ≡ count → AreMasksOf streams masks shared active → take count masks ≡ map mask_of streams
masks_in count streams masks shared active many are = ap (λ (n : ℕ). take n masks) (sym many) ∙ are.masks_are

pub put_masks-end-requires-clause-shared : goal.put_masks-end-requires-clause-shared
put_masks-end-requires-clause-shared g c =
    c.requires.masks.shared_is ∙ sym (ap (λ (ms : List ℕ). shared_of ms) (masks_in _ _ _ _ _ (length-map c.args.streams.now g.S.Layered.stream) c.requires.masks))

pub put_masks-end-requires-clause-fit : goal.put_masks-end-requires-clause-fit
put_masks-end-requires-clause-fit g c =
    subst (AllByRecursion (λ mask. mask ≤ 15)) (sym (masks_in _ _ _ _ _ (length-map c.args.streams.now g.S.Layered.stream) c.requires.masks)) (can_put c.args.index (map g.S.Layered.stream c.args.streams.now) c.requires.some c.requires.fit).masks

pub put_counts_and_rates-end-requires-clause-few : goal.put_counts_and_rates-end-requires-clause-few
put_counts_and_rates-end-requires-clause-few g c =
    let streams = map g.S.Layered.stream c.args.streams.now in
    let can = can_put c.args.index streams c.requires.some c.requires.fit in
    omega (arith, c.requires.masks.active_is, length-active streams can.fits, can.few)

pub put_counts_and_rates-end-requires-clause-fit : goal.put_counts_and_rates-end-requires-clause-fit
put_counts_and_rates-end-requires-clause-fit g c = (can_put c.args.index (map g.S.Layered.stream c.args.streams.now) c.requires.some c.requires.fit).counted

pub put_counts_and_rates-end-requires-clause-small : goal.put_counts_and_rates-end-requires-clause-small
put_counts_and_rates-end-requires-clause-small g c = (can_put c.args.index (map g.S.Layered.stream c.args.streams.now) c.requires.some c.requires.fit).small

pub put_counts_and_rates-end-requires-clause-room : goal.put_counts_and_rates-end-requires-clause-room
put_counts_and_rates-end-requires-clause-room g c =
    let layers = active_layers (map g.S.Layered.stream c.args.streams.now) in
    omega (
      arith,
      c.requires.room,
      length-packed_bytes c.args.index (map g.S.Layered.stream c.args.streams.now),
      c.put-end.ensures.end,
      c.put_masks-end.ensures.end,
      ap (λ (ms : List ℕ). length (mask_bytes ms)) (masks_in _ _ _ _ _ (length-map c.args.streams.now g.S.Layered.stream) c.requires.masks),
      length-append (quarters_of (map count_of layers)) (flat_map rate_bytes layers),
      length-quarters_of (map count_of layers),
      length-map layers count_of,
    )

-- where the rates end, and how many bytes there are
ends : (g : _) (c : After-put_counts_and_rates-end g) → c.put_counts_and_rates-end.result + length (flat_map resolution_bytes (active_layers (map g.S.Layered.stream c.args.streams.now)))
    ≡ length (packed_bytes c.args.index (map g.S.Layered.stream c.args.streams.now))
ends g c =
    let layers = active_layers (map g.S.Layered.stream c.args.streams.now) in
    omega (
      arith,
      length-packed_bytes c.args.index (map g.S.Layered.stream c.args.streams.now),
      c.put-end.ensures.end,
      c.put_masks-end.ensures.end,
      ap (λ (ms : List ℕ). length (mask_bytes ms)) (masks_in _ _ _ _ _ (length-map c.args.streams.now g.S.Layered.stream) c.requires.masks),
      c.put_counts_and_rates-end.ensures.end,
      length-append (quarters_of (map count_of layers)) (flat_map rate_bytes layers),
      length-quarters_of (map count_of layers),
      length-map layers count_of,
    )

pub put_resolutions-requires-clause-some : goal.put_resolutions-requires-clause-some
put_resolutions-requires-clause-some g c = (can_put c.args.index (map g.S.Layered.stream c.args.streams.now) c.requires.some c.requires.fit).sized

pub put_resolutions-requires-clause-room : goal.put_resolutions-requires-clause-room
put_resolutions-requires-clause-room g c =
    omega (arith, c.requires.room, ends g (goal.at.put_resolutions-requires-clause-room g c).After-put_counts_and_rates-end)

-- the parts, with these resolutions
all_put : (g : _) (c : After-put_counts_and_rates-end g) (buf : List ℕ) (end : ℕ)
    → buf ≡ overwritten c.put_counts_and_rates-end.new.buf c.put_counts_and_rates-end.result (flat_map resolution_bytes (active_layers (map g.S.Layered.stream c.args.streams.now)))
    → end ≡ c.put_counts_and_rates-end.result + length (flat_map resolution_bytes (active_layers (map g.S.Layered.stream c.args.streams.now)))
    → (buf ≡ overwritten c.args.buf.now 0 (packed_bytes c.args.index (map g.S.Layered.stream c.args.streams.now))) × (end ≡ length (packed_bytes c.args.index (map g.S.Layered.stream c.args.streams.now)))
all_put g c buf end buf-is end-is =
    let streams = map g.S.Layered.stream c.args.streams.now in
    let layers = active_layers streams in
    let head = 64 * c.args.index + 16 * (length streams - 1) + shared_of (map mask_of streams) in
    let masks = mask_bytes (map mask_of streams) in
    let counts = quarters_of (map count_of layers) in
    let rates = flat_map rate_bytes layers in
    let resolutions = flat_map resolution_bytes layers in
    let mask_part : mask_bytes (take (length c.args.streams.now) c.args.measured.now.masks) ≡ masks = ap (λ (ms : List ℕ). mask_bytes ms) (masks_in _ _ _ _ _ (length-map c.args.streams.now g.S.Layered.stream) c.requires.masks) in
    let whole : head ∷ (masks ++ ((counts ++ rates) ++ resolutions)) ≡ head ∷ (masks ++ (counts ++ (rates ++ resolutions))) = ap (λ (bs : List ℕ). head ∷ (masks ++ bs)) (append_assoc counts rates resolutions) in
    subst (λ (bs : List ℕ). (buf ≡ overwritten c.args.buf.now 0 bs) × (end ≡ length bs)) whole
    (overwritten-four c.args.buf.now c.put-end.new.buf c.put_masks-end.new.buf c.put_counts_and_rates-end.new.buf buf
    (head ∷ []) masks (counts ++ rates) resolutions
    c.put-end.result c.put_masks-end.result c.put_counts_and_rates-end.result end
    (omega (arith, c.requires.room, ap length whole))
    (c.put-end.ensures.written ∙ (λ j. overwritten c.args.buf.now 0 ((64 * c.args.index + 16 * (sym (length-map c.args.streams.now g.S.Layered.stream) j - 1) + c.requires.masks.shared_is j) ∷ [])))
    c.put-end.ensures.end
    (c.put_masks-end.ensures.written ∙ ap (overwritten c.put-end.new.buf c.put-end.result) mask_part)
    (c.put_masks-end.ensures.end ∙ ap (λ (bs : List ℕ). c.put-end.result + length bs) mask_part)
    c.put_counts_and_rates-end.ensures.written
    c.put_counts_and_rates-end.ensures.end
    buf-is end-is)

-- where that is all, there are no resolutions
without : (g : _) (c : After-put_counts_and_rates-end g) → c.put_counts_and_rates-end.result ≡ c.args.measured.now.len → (c.put_counts_and_rates-end.new.buf ≡ overwritten c.args.buf.now 0 (packed_bytes c.args.index (map g.S.Layered.stream c.args.streams.now)))
    × (c.put_counts_and_rates-end.result ≡ length (packed_bytes c.args.index (map g.S.Layered.stream c.args.streams.now)))
without g c is =
    let resolutions = flat_map resolution_bytes (active_layers (map g.S.Layered.stream c.args.streams.now)) in
    let none : resolutions ≡ [] = nil_from_length resolutions (omega (arith, ends g c, c.requires.len, is)) in
    all_put g c c.put_counts_and_rates-end.new.buf c.put_counts_and_rates-end.result
    (sym (overwritten-nil c.put_counts_and_rates-end.new.buf c.put_counts_and_rates-end.result) ∙ ap (overwritten c.put_counts_and_rates-end.new.buf c.put_counts_and_rates-end.result) (sym none))
    (omega (arith, ap length none))

pub returns-then-end-from-clause-written : goal.returns-then-end-from-clause-written
returns-then-end-from-clause-written g c = (without g (goal.at.returns-then-end-from-clause-written g c).After-put_counts_and_rates-end (c.if-end-from.true ∙ search rules)).0

pub returns-clause-written : goal.returns-clause-written
returns-clause-written g c =
    (all_put g (goal.at.returns-clause-written g c).After-put_counts_and_rates-end c.put_resolutions.new.buf c.put_resolutions.result c.put_resolutions.ensures.written c.put_resolutions.ensures.end).0

pub returns-clause-end : goal.returns-clause-end
returns-clause-end g c =
    (all_put g (goal.at.returns-clause-end g c).After-put_counts_and_rates-end c.put_resolutions.new.buf c.put_resolutions.result c.put_resolutions.ensures.written c.put_resolutions.ensures.end).1
