-- The first line of a text, and the lines after it.
use Rattle.rtp_listing.proofs.Common.{◌≡◌, ℕ, ◌+◌, ◌<◌, Bool, false, eqb, List, [], ◌∷◌, ◌++◌, length, take, drop, get_or, refl, sym, ap, ◌∙◌, arith, slice_split, All, lines, lines_of_parts, strip_carriage_return, ne_eqb, take-append-drop, drop_more, get_or-take, length-take-le, All-from_get_or}
use Rattle.std.proofs.lemmas.List.Splits.{slice_split_none, slice_split_at, length-slice_split}

abbrev is_feed : ℕ → Bool
is_feed byte = eqb byte 10

-- a line before a line feed, and what follows that
lines_of_parts-cons : (x : List ℕ) (parts : List (List ℕ)) → 0 < length parts → lines_of_parts (x ∷ parts) ≡ strip_carriage_return x ∷ lines_of_parts parts
lines_of_parts-cons x [] some = absurd (omega arith)
lines_of_parts-cons x (y ∷ more) some = refl

pub lines-feed : (text : List ℕ) (end : ℕ) → end < length text → get_or text end 0 ≡ 10 → ((k : ℕ) → k < end → get_or text k 0 ≡ 10 → ⊥)
    → lines text ≡ strip_carriage_return (take end text) ∷ lines (drop (end + 1) text)
lines-feed text end within feed none =
    let rest = drop (end + 1) text in
    let parts = slice_split is_feed rest in
    let cut : text ≡ take end text ++ 10 ∷ rest =
    sym (take-append-drop end text) ∙ ap (λ (xs : List ℕ). take end text ++ xs) (drop_more text end 0 within ∙ ap (λ (b : ℕ). b ∷ rest) feed) in
    let front : All (λ b. is_feed b ≡ false) (take end text) =
    All-from_get_or (λ b. is_feed b ≡ false) (take end text) 0 (λ i below.
    let here : i < end = omega (arith, below, length-take-le end text (omega arith)) in
    ne_eqb _ 10 (λ e. none i here (sym (get_or-take end text i 0 here) ∙ e))) in
    let split : slice_split is_feed text ≡ take end text ∷ parts =
    ap (slice_split is_feed) cut ∙ slice_split_at is_feed (take end text) 10 rest front refl in
    ap lines_of_parts split ∙ lines_of_parts-cons (take end text) parts (omega (arith, length-slice_split is_feed rest))

pub lines-last : (text : List ℕ) → 0 < length text → ((k : ℕ) → k < length text → get_or text k 0 ≡ 10 → ⊥) → lines text ≡ text ∷ []
lines-last text some none =
    let whole : slice_split is_feed text ≡ text ∷ [] =
    slice_split_none is_feed text (All-from_get_or (λ b. is_feed b ≡ false) text 0 (λ i below. ne_eqb _ 10 (none i below))) in
    ap lines_of_parts whole ∙ rw (ne_eqb (length text) 0 (λ e. absurd (omega arith))) refl
