-- Streams that are dealt by masks, and the masks and layers that give them back.
use Rattle.rtp_vla.proofs.Common.{◌≡◌, ◌≢◌, ℕ, zero, suc, ◌+◌, ◌*◌, ◌/◌, ◌%◌, ◌^◌, ◌<◌, ◌≤◌, ⊎_elim, List, [], ◌∷◌, ◌++◌, length, take, drop, map, Bool, true, false, cond, eqb, None, refl, sym, ap, ◌∙◌, subst, arith, length-append, AllByRecursion, filter, pow-suc, cases_eq, eq-eqb, ne_eqb, false≢true, drop_at, length-drop, Layer, Stream, is_active, active_layers, mask_of, EndsActive, IsBareUnlessActive, IsReadable}
use Rattle.rtp_vla.specs.AllocationReading.{mask_bits, marks_of, marked, active_in, active_count, idle_layer, dealt, dealt_streams}
use Rattle.rtp_vla.proofs.AllocationReadingLemmas.{zero_or_more, mask_bits-zero, mask_bits-above}

abbrev pub AllActive : List Layer → Type 0
AllActive layers = AllByRecursion (λ layer. is_active layer ≡ true) layers

pub AllActive-drop : (n : ℕ) (layers : List Layer) → AllActive layers → AllActive (drop n layers)
AllActive-drop zero layers all = all
AllActive-drop (suc n) [] all = tt
AllActive-drop (suc n) (layer ∷ layers) all = AllActive-drop n layers all.1

pub AllActive-append : (xs ys : List Layer) → AllActive xs → AllActive ys → AllActive (xs ++ ys)
AllActive-append [] ys all more = more
AllActive-append (x ∷ xs) ys all more = (all.0, AllActive-append xs ys all.1 more)

filter_layer : (layer : Layer) (layers : List Layer) (b : Bool) → is_active layer ≡ b → AllActive layers → AllActive (cond b (layer ∷ layers) layers)
filter_layer layer layers true is all = (is, all)
filter_layer layer layers false is all = all

AllActive-filter : (stream : Stream) → AllActive (filter is_active stream)
AllActive-filter [] = tt
AllActive-filter (layer ∷ stream) = filter_layer layer (filter is_active stream) (is_active layer) refl (AllActive-filter stream)

pub AllActive-active_layers : (streams : List Stream) → AllActive (active_layers streams)
AllActive-active_layers [] = tt
AllActive-active_layers (stream ∷ streams) = AllActive-append (filter is_active stream) (active_layers streams) (AllActive-filter stream) (AllActive-active_layers streams)

-- ---- The mask of what is dealt

low_bit : (mask : ℕ) → cond (eqb (mask % 2) 1) 1 0 + 2 * (mask / 2) ≡ mask
low_bit mask = ⊎_elim (λ odd. rw (eq-eqb (mask % 2) 1 odd) (omega arith)) (λ even. rw (ne_eqb (mask % 2) 1 even) (omega arith)) (cases_eq (mask % 2) 1)

mask_dealt_one : (b : Bool) (marks : List Bool) (layers : List Layer) (high : ℕ)
    → ((others : List Layer) → AllActive others → marked marks ≤ length others → mask_of (dealt marks others) ≡ high)
    → AllActive layers → marked (b ∷ marks) ≤ length layers → mask_of (dealt (b ∷ marks) layers) ≡ cond b 1 0 + 2 * high
mask_dealt_one false marks layers high rest all enough = ap (λ (n : ℕ). 0 + 2 * n) (rest layers all enough)
mask_dealt_one true marks [] high rest all enough = absurd (omega arith)
mask_dealt_one true marks (layer ∷ layers) high rest all enough = rw all.0 (ap (λ (n : ℕ). 1 + 2 * n) (rest layers all.1 (omega arith)))

mask_of-dealt : (room mask : ℕ) (layers : List Layer) → mask < 2 ^ room → AllActive layers → marked (mask_bits room mask) ≤ length layers → mask_of (dealt (mask_bits room mask) layers) ≡ mask
mask_of-dealt zero mask layers below all enough = omega arith
mask_of-dealt (suc room) mask layers below all enough =
    ⊎_elim
    (λ none. let is : mask ≡ 0 = none in ap (λ (m : ℕ). mask_of (dealt (mask_bits (suc room) m) layers)) is ∙ sym is)
    (λ some.
    ap (λ (marks : List Bool). mask_of (dealt marks layers)) (mask_bits-above room mask some)
    ∙ mask_dealt_one (eqb (mask % 2) 1) (mask_bits room (mask / 2)) layers (mask / 2)
    (λ others active many. mask_of-dealt room (mask / 2) others (omega (arith, pow-suc 2 room)) active many)
    all (subst (λ (marks : List Bool). marked marks ≤ length layers) (mask_bits-above room mask some) enough)
    ∙ low_bit mask)
    (zero_or_more mask)

-- ---- The active layers of what is dealt

filter-dealt : (marks : List Bool) (layers : List Layer) → AllActive layers → marked marks ≤ length layers → filter is_active (dealt marks layers) ≡ take (marked marks) layers
filter-dealt [] layers all enough = refl
filter-dealt (false ∷ marks) layers all enough = filter-dealt marks layers all enough
filter-dealt (true ∷ marks) [] all enough = absurd (omega arith)
filter-dealt (true ∷ marks) (layer ∷ layers) all enough = rw all.0 (ap (λ (xs : List Layer). layer ∷ xs) (filter-dealt marks layers all.1 (omega arith)))

-- ---- What is dealt can be read

bare-dealt : (marks : List Bool) (layers : List Layer) → AllActive layers → AllByRecursion IsBareUnlessActive (dealt marks layers)
bare-dealt [] layers all = tt
bare-dealt (false ∷ marks) layers all = (λ _. refl, bare-dealt marks layers all)
bare-dealt (true ∷ marks) [] all = tt
bare-dealt (true ∷ marks) (layer ∷ layers) all = (λ idle. absurd (false≢true (sym idle ∙ all.0)), bare-dealt marks layers all.1)

dealt_some : (b : Bool) (marks : List Bool) (layers : List Layer) → marked (b ∷ marks) ≤ length layers → dealt (b ∷ marks) layers ≢ []
dealt_some false marks layers enough none = cc
dealt_some true marks [] enough none = absurd (omega arith)
dealt_some true marks (layer ∷ layers) enough none = cc

dealt_none : (room mask : ℕ) (layers : List Layer) → mask < 2 ^ room → marked (mask_bits room mask) ≤ length layers → dealt (mask_bits room mask) layers ≡ [] → mask ≡ 0
dealt_none zero mask layers below enough none = omega arith
dealt_none (suc room) mask layers below enough none =
    ⊎_elim
    (λ is. is)
    (λ some. absurd (dealt_some (eqb (mask % 2) 1) (mask_bits room (mask / 2)) layers
    (subst (λ (marks : List Bool). marked marks ≤ length layers) (mask_bits-above room mask some) enough)
    (subst (λ (marks : List Bool). dealt marks layers ≡ []) (mask_bits-above room mask some) none)))
    (zero_or_more mask)

EndsActive-cons : (layer : Layer) (stream : Stream) → EndsActive stream → (stream ≡ [] → is_active layer ≡ true) → EndsActive (layer ∷ stream)
EndsActive-cons layer [] ends last = last refl
EndsActive-cons layer (next ∷ stream) ends last = ends

ends_one : (b : Bool) (marks : List Bool) (layers : List Layer)
    → ((others : List Layer) → AllActive others → marked marks ≤ length others → EndsActive (dealt marks others))
    → ((others : List Layer) → marked marks ≤ length others → dealt marks others ≡ [] → b ≡ true)
    → AllActive layers → marked (b ∷ marks) ≤ length layers → EndsActive (dealt (b ∷ marks) layers)
ends_one false marks layers rest last all enough =
    EndsActive-cons idle_layer (dealt marks layers) (rest layers all enough) (λ none. absurd (false≢true (last layers enough none)))
ends_one true marks [] rest last all enough = tt
ends_one true marks (layer ∷ layers) rest last all enough =
    EndsActive-cons layer (dealt marks layers) (rest layers all.1 (omega arith)) (λ none. all.0)

ends-dealt : (room mask : ℕ) (layers : List Layer) → mask < 2 ^ room → AllActive layers → marked (mask_bits room mask) ≤ length layers → EndsActive (dealt (mask_bits room mask) layers)
ends-dealt zero mask layers below all enough = tt
ends-dealt (suc room) mask layers below all enough =
    ⊎_elim
    (λ none. subst (λ (m : ℕ). EndsActive (dealt (mask_bits (suc room) m) layers)) (sym none) tt)
    (λ some. subst (λ (marks : List Bool). EndsActive (dealt marks layers)) (sym (mask_bits-above room mask some))
    (ends_one (eqb (mask % 2) 1) (mask_bits room (mask / 2)) layers
    (λ others active many. ends-dealt room (mask / 2) others (omega (arith, pow-suc 2 room)) active many)
    (λ others many none. eq-eqb (mask % 2) 1 (omega (arith, dealt_none room (mask / 2) others (omega (arith, pow-suc 2 room)) many none)))
    all (subst (λ (marks : List Bool). marked marks ≤ length layers) (mask_bits-above room mask some) enough)))
    (zero_or_more mask)

-- ---- All streams

stream_facts : (mask : ℕ) (layers : List Layer) → mask ≤ 15 → AllActive layers → active_in mask ≤ length layers
    → (mask_of (dealt (marks_of mask) layers) ≡ mask) × IsReadable (dealt (marks_of mask) layers)
unfolding marks_of
stream_facts mask layers few all enough =
    let is = mask_of-dealt 4 mask layers (omega arith) all enough in
    (is, record { mask_fits = omega (arith, is); ends_active = ends-dealt 4 mask layers (omega arith) all enough; bare = bare-dealt (mask_bits 4 mask) layers all })

pub masks-dealt_streams : (masks : List ℕ) (layers : List Layer) → AllByRecursion (λ mask. mask ≤ 15) masks → AllActive layers → active_count masks ≤ length layers
    → (map mask_of (dealt_streams masks layers) ≡ masks) × AllByRecursion IsReadable (dealt_streams masks layers)
masks-dealt_streams [] layers fit all enough = (refl, tt)
masks-dealt_streams (mask ∷ masks) layers fit all enough =
    let first = stream_facts mask layers fit.0 all (omega arith) in
    let rest = masks-dealt_streams masks (drop (active_in mask) layers) fit.1 (AllActive-drop (active_in mask) layers all) (omega (arith, length-drop (active_in mask) layers)) in
    ((λ i. first.0 i ∷ rest.0 i), (first.1, rest.1))

take-nil : (n : ℕ) → take {A = Layer} n [] ≡ []
take-nil zero = refl
take-nil (suc n) = refl

take-add : (m n : ℕ) (xs : List Layer) → take m xs ++ take n (drop m xs) ≡ take (m + n) xs
take-add zero n xs = ap (λ (k : ℕ). take k xs) (omega arith)
take-add (suc m) n [] = take-nil n ∙ sym (take-nil (suc m + n))
take-add (suc m) n (x ∷ xs) =
    let one : suc m + n ≡ suc (m + n) = omega arith in
    ap (λ (ys : List Layer). x ∷ ys) (take-add m n xs) ∙ ap (λ (k : ℕ). take k (x ∷ xs)) (sym one)

pub active-dealt_streams : (masks : List ℕ) (layers : List Layer) → AllActive layers → active_count masks ≤ length layers
    → active_layers (dealt_streams masks layers) ≡ take (active_count masks) layers
active-dealt_streams [] layers all enough = refl
active-dealt_streams (mask ∷ masks) layers all enough =
    let rest = active-dealt_streams masks (drop (active_in mask) layers) (AllActive-drop (active_in mask) layers all) (omega (arith, length-drop (active_in mask) layers)) in
    (λ i. filter-dealt (marks_of mask) layers all (omega arith) i ++ rest i) ∙ take-add (active_in mask) (active_count masks) layers

pub length-dealt_streams : (masks : List ℕ) (layers : List Layer) → length (dealt_streams masks layers) ≡ length masks
length-dealt_streams [] layers = refl
length-dealt_streams (mask ∷ masks) layers = ap suc (length-dealt_streams masks (drop (active_in mask) layers))

-- ---- Streams that can be read are dealt by their masks

mask_pos : (layer : Layer) (stream : Stream) → EndsActive (layer ∷ stream) → 0 < mask_of (layer ∷ stream)
mask_pos layer [] ends = rw ends (omega arith)
mask_pos layer (next ∷ stream) ends = omega (arith, mask_pos next stream ends)

no_rates : (rates : List ℕ) → (elim rates as (λ _. Bool) [ [] ↦ false | rate ∷ others ↦ true ]) ≡ false → rates ≡ []
no_rates [] idle = refl
no_rates (rate ∷ rates) idle = cc

bare_is_idle : (layer : Layer) → is_active layer ≡ false → layer.resolution_and_framerate ≡ None → layer ≡ idle_layer
bare_is_idle layer idle none = λ i. record { temporal_layers = no_rates layer.temporal_layers idle i; resolution_and_framerate = none i }

dealt_back_one : (layer : Layer) (stream : Stream) (more : List Layer) (marks : List Bool) (b : Bool) → is_active layer ≡ b → (b ≡ false → layer.resolution_and_framerate ≡ None)
    → dealt marks (filter is_active stream ++ more) ≡ stream → dealt (b ∷ marks) (cond b (layer ∷ filter is_active stream) (filter is_active stream) ++ more) ≡ layer ∷ stream
dealt_back_one layer stream more marks true is bare rest = ap (λ (xs : List Layer). layer ∷ xs) rest
dealt_back_one layer stream more marks false is bare rest = λ i. sym (bare_is_idle layer is (bare refl)) i ∷ rest i

EndsActive-tail : (layer : Layer) (stream : Stream) → EndsActive (layer ∷ stream) → EndsActive stream
EndsActive-tail layer [] ends = tt
EndsActive-tail layer (next ∷ stream) ends = ends

parity : (b : Bool) (n : ℕ) → eqb ((cond b 1 0 + 2 * n) % 2) 1 ≡ b
parity true n = eq-eqb _ 1 (omega arith)
parity false n = ne_eqb _ 1 (λ odd. absurd (omega arith))

half : (b : Bool) (n : ℕ) → (cond b 1 0 + 2 * n) / 2 ≡ n
half true n = omega arith
half false n = omega arith

-- the marks of a stream's mask are its own
bits-stream : (room : ℕ) (layer : Layer) (stream : Stream) → EndsActive (layer ∷ stream) → mask_bits (suc room) (mask_of (layer ∷ stream)) ≡ is_active layer ∷ mask_bits room (mask_of stream)
bits-stream room layer stream ends =
    mask_bits-above room (mask_of (layer ∷ stream)) (mask_pos layer stream ends)
    ∙ (λ i. parity (is_active layer) (mask_of stream) i ∷ mask_bits room (half (is_active layer) (mask_of stream) i))

dealt_back : (room : ℕ) (stream : Stream) (more : List Layer) → mask_of stream < 2 ^ room → EndsActive stream → AllByRecursion IsBareUnlessActive stream
    → dealt (mask_bits room (mask_of stream)) (filter is_active stream ++ more) ≡ stream
dealt_back room [] more below ends bare = ap (λ (marks : List Bool). dealt marks more) (mask_bits-zero room)
dealt_back zero (layer ∷ stream) more below ends bare = absurd (omega (arith, mask_pos layer stream ends))
dealt_back (suc room) (layer ∷ stream) more below ends bare =
    let small : mask_of stream < 2 ^ room = omega (arith, pow-suc 2 room) in
    ap (λ (marks : List Bool). dealt marks (filter is_active (layer ∷ stream) ++ more)) (bits-stream room layer stream ends)
    ∙ dealt_back_one layer stream more (mask_bits room (mask_of stream)) (is_active layer) refl bare.0
    (dealt_back room stream more small (EndsActive-tail layer stream ends) bare.1)

marked_one : (b : Bool) (marks : List Bool) (layer : Layer) (layers : List Layer) → marked marks ≡ length layers → marked (b ∷ marks) ≡ length (cond b (layer ∷ layers) layers)
marked_one true marks layer layers is = ap suc is
marked_one false marks layer layers is = is

marked_back : (room : ℕ) (stream : Stream) → mask_of stream < 2 ^ room → EndsActive stream → marked (mask_bits room (mask_of stream)) ≡ length (filter is_active stream)
marked_back room [] below ends = ap marked (mask_bits-zero room)
marked_back zero (layer ∷ stream) below ends = absurd (omega (arith, mask_pos layer stream ends))
marked_back (suc room) (layer ∷ stream) below ends =
    let small : mask_of stream < 2 ^ room = omega (arith, pow-suc 2 room) in
    ap marked (bits-stream room layer stream ends)
    ∙ marked_one (is_active layer) (mask_bits room (mask_of stream)) layer (filter is_active stream) (marked_back room stream small (EndsActive-tail layer stream ends))

readable_back : (stream : Stream) (more : List Layer) → IsReadable stream
    → (dealt (marks_of (mask_of stream)) (filter is_active stream ++ more) ≡ stream) × (active_in (mask_of stream) ≡ length (filter is_active stream))
unfolding marks_of
readable_back stream more readable =
    let small : mask_of stream < 2 ^ 4 = omega (arith, readable.mask_fits) in
    (dealt_back 4 stream more small readable.ends_active readable.bare, marked_back 4 stream small readable.ends_active)

pub dealt_streams-back : (streams : List Stream) → AllByRecursion IsReadable streams
    → (dealt_streams (map mask_of streams) (active_layers streams) ≡ streams) × (active_count (map mask_of streams) ≡ length (active_layers streams))
dealt_streams-back [] all = (refl, refl)
dealt_streams-back (stream ∷ streams) all =
    let first = readable_back stream (active_layers streams) all.0 in
    let rest = dealt_streams-back streams all.1 in
    let left : drop (active_in (mask_of stream)) (filter is_active stream ++ active_layers streams) ≡ active_layers streams =
    drop_at (filter is_active stream) (active_layers streams) (active_in (mask_of stream)) (sym first.1) in (
      (λ i. first.0 i ∷ dealt_streams (map mask_of streams) (left i)) ∙ ap (λ (ss : List Stream). stream ∷ ss) rest.0,
      omega (arith, first.1, rest.1, length-append (filter is_active stream) (active_layers streams)),
    )
