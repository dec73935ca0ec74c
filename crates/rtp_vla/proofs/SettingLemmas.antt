-- Layers that are put after the others of the last stream.
use Rattle.rtp_vla.proofs.Common.{◌≡◌, ℕ, ◌+◌, ◌-◌, ◌<◌, ◌≤◌, drop, get_or, List, [], ◌∷◌, ◌++◌, length, refl, ap, ◌∙◌, sym, subst, arith, length-append, Layer, Stream, Allocation, append_assoc, drop_more, layer_room, and_stream, marks_of, active_in, dealt, dealt_streams}

pub layer_room-last : (before : List Stream) (stream : Stream) → layer_room (before ++ stream ∷ []) ≡ 4 - length stream
layer_room-last [] stream = refl
layer_room-last (first ∷ []) stream = refl
layer_room-last (first ∷ next ∷ before) stream = layer_room-last (next ∷ before) stream

-- the last stream, and those before it
ending : (streams : List Stream) → 1 ≤ layer_room streams → (before : List Stream) × (stream : Stream) × (streams ≡ before ++ stream ∷ [])
ending [] some = absurd (omega arith)
ending (stream ∷ []) some = ([], stream, refl)
ending (first ∷ next ∷ streams) some = let rest = ending (next ∷ streams) some in (first ∷ rest.0, rest.1, ap (λ (xs : List Stream). first ∷ xs) rest.2)

-- what was put after the others of the last stream, wherever that stands
abbrev pub PutsLast : List Stream → Layer → List Stream → Type 0
PutsLast old layer new = (before : List Stream) (stream : Stream) → old ≡ before ++ stream ∷ [] → new ≡ before ++ (stream ++ layer ∷ []) ∷ []

pub room_put : (old new : List Stream) (layer : Layer) → 1 ≤ layer_room old → PutsLast old layer new → layer_room new + 1 ≡ layer_room old
room_put old new layer some puts =
    let end = ending old some in
    omega (
      arith,
      some,
      ap layer_room end.2 ∙ layer_room-last end.0 end.1,
      ap layer_room (puts end.0 end.1 end.2) ∙ layer_room-last end.0 (end.1 ++ layer ∷ []),
      length-append end.1 (layer ∷ []),
    )

pub length_put : (old new : List Stream) (layer : Layer) → 1 ≤ layer_room old → PutsLast old layer new → length new ≡ length old
length_put old new layer some puts =
    let end = ending old some in
    omega (
      arith,
      ap length end.2,
      ap length (puts end.0 end.1 end.2),
      length-append end.0 (end.1 ∷ []),
      length-append end.0 ((end.1 ++ layer ∷ []) ∷ []),
    )

-- ---- A stream more

-- the streams so far, with the stream of the next mask, and those of the masks after it are all of them
pub streams_more : (done : List Stream) (masks : List ℕ) (i : ℕ) (left next : List Layer) (all : List Stream) → i < length masks → next ≡ drop (active_in (get_or masks i 0)) left
    → done ++ dealt_streams (drop i masks) left ≡ all → (done ++ dealt (marks_of (get_or masks i 0)) left ∷ []) ++ dealt_streams (drop (i + 1) masks) next ≡ all
streams_more done masks i left next all within is so_far =
    append_assoc done (dealt (marks_of (get_or masks i 0)) left ∷ []) (dealt_streams (drop (i + 1) masks) next)
    ∙ ap (λ (ls : List Layer). done ++ dealt (marks_of (get_or masks i 0)) left ∷ dealt_streams (drop (i + 1) masks) ls) is
    ∙ ap (λ (ms : List ℕ). done ++ dealt_streams ms left) (sym (drop_more masks i 0 within)) ∙ so_far

pub shown_more : (Shows : Allocation → Type 0) (a : Allocation) (done : List Stream) (stream : Stream)
    → Shows (and_stream (record a { simulcast_streams = a.simulcast_streams ++ done }) stream) → Shows (record a { simulcast_streams = a.simulcast_streams ++ (done ++ stream ∷ []) })
shown_more Shows a done stream shown =
    subst (λ (ss : List Stream). Shows (record a { simulcast_streams = ss })) (append_assoc a.simulcast_streams done (stream ∷ [])) shown
