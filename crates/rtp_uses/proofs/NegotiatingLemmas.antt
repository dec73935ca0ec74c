-- The map of some lines, and of one line more.
use Rattle.std.proofs.Common.{◌≡◌, ℕ, ◌+◌, ◌<◌, List, [], ◌∷◌, ◌++◌, length, map, take, get_or, Bor, refl, sym, ap, ◌∙◌, subst, inl, inr, arith}
use Rattle.std.specs.Prelude.{◌≢◌, ◌⊎◌}
use Rattle.std.proofs.lemmas.Bool.{cases_lt}
use Rattle.std.proofs.lemmas.List.{get_or_append_left, get_or_at, get_or-map, length-map, length_push, take_more}
use Rattle.rtp_ext.specs.ExtensionMap.{Slots, IsId, IsEmpty, entry_at}
use Rattle.rtp_uses.specs.Negotiating.{IsKnownUri, TakesLine, IsMappedTo, line_at, AreKnown, AreNegotiated}

-- a number is an id of the map, or isn't
id_or_not : (id : ℕ) → IsId id ⊎ (IsId id → ⊥)
id_or_not id = elim (cases_lt 0 id) [
  | inl some ↦ elim (cases_lt 255 id) [
    | inl above ↦ inr (λ is. let low = is.1 in omega arith)
    | inr within ↦ inl (omega arith, within)
  ]
  | inr zero ↦ inr (λ is. let high = is.0 in omega arith)
]

-- the other ids stay as they were
others_stay : (old new : Slots) (id : ℕ) (uri : List ℕ) → (IsId id → TakesLine old new id uri) → ((IsId id → ⊥) → new ≡ old)
    → (k : ℕ) → k ≢ id → entry_at new k ≡ entry_at old k
others_stay old new id uri taken outside k other = elim (id_or_not id) [
  | inl is ↦ (taken is).sets.others k other
  | inr not ↦ ap (λ (map : Slots). entry_at map k) (outside not)
]

pub AreNegotiated-more : (lines : List (ℕ × List ℕ)) (line : ℕ × List ℕ) (old new : Slots) → AreNegotiated lines old → (IsId line.0 → TakesLine old new line.0 line.1)
    → ((IsId line.0 → ⊥) → new ≡ old) → AreNegotiated (lines ++ line ∷ []) new
AreNegotiated-more lines line old new are taken outside =
    let all = lines ++ line ∷ [] in
    let many = length_push lines line in
    let here : line_at all (length lines) ≡ line = get_or_at lines line [] (0, []) (length lines) refl in
    let stay = others_stay old new line.0 line.1 taken outside in
    let same = λ (i : ℕ) (below : i < length lines). get_or_append_left lines (line ∷ []) (0, []) i below in
    record {
      last = λ i below is later. elim (cases_lt i (length lines)) [
        | inl before ↦
            let e : line_at all i ≡ line_at lines i = same i before in
            let was = are.last i before (subst (λ (x : ℕ × List ℕ). IsId x.0) e is)
            (λ j above within equal. later j above (omega (arith, many)) (ap (λ (x : ℕ × List ℕ). x.0) (same j within) ∙ equal ∙ sym (ap (λ (x : ℕ × List ℕ). x.0) e))) in
            let other : (line_at lines i).0 ≢ line.0 =
            λ equal. later (length lines) before (omega (arith, many)) (ap (λ (x : ℕ × List ℕ). x.0) here ∙ sym equal ∙ sym (ap (λ (x : ℕ × List ℕ). x.0) e)) in
            subst (λ (x : ℕ × List ℕ). IsMappedTo new x.0 x.1) (sym e)
            (record { extension = was.extension; named = was.named; mapped = stay (line_at lines i).0 other ∙ was.mapped })
        | inr new_one ↦
            let at : length lines ≡ i = omega (arith, many) in
            let e : line_at all i ≡ line = get_or_at lines line [] (0, []) i at in
            let takes = taken (subst (λ (x : ℕ × List ℕ). IsId x.0) e is) in
            subst (λ (x : ℕ × List ℕ). IsMappedTo new x.0 x.1) (sym e)
            (record { extension = takes.extension; named = takes.named; mapped = takes.sets.this })
      ];
      others = λ id absent.
          stay id (λ equal. absent (length lines) (omega (arith, many)) (ap (λ (x : ℕ × List ℕ). x.0) here ∙ sym equal))
          ∙ are.others id (λ i below equal. absent i (omega (arith, many)) (ap (λ (x : ℕ × List ℕ). x.0) (same i below) ∙ equal));
    }

-- the line at the next place of a list of lines
pub AreNegotiated-at : (lines : List (ℕ × Bor (List ℕ))) (default : ℕ × Bor (List ℕ)) (i : ℕ) (old new : Slots) → i < length lines
    → AreNegotiated (take i (map (λ line. (line.0, line.1.now)) lines)) old
    → (IsId (get_or lines i default).0 → TakesLine old new (get_or lines i default).0 (get_or lines i default).1.now)
    → ((IsId (get_or lines i default).0 → ⊥) → new ≡ old) → AreNegotiated (take (i + 1) (map (λ line. (line.0, line.1.now)) lines)) new
AreNegotiated-at lines default i old new below are taken outside =
    let line_of : ℕ × Bor (List ℕ) → ℕ × List ℕ = λ line. (line.0, line.1.now) in
    let all : List (ℕ × List ℕ) = map line_of lines in
    let here : take (i + 1) all ≡ take i all ++ line_of (get_or lines i default) ∷ [] =
    take_more all i (0, []) (omega (arith, length-map lines line_of))
    ∙ ap (λ (line : ℕ × List ℕ). take i all ++ line ∷ []) (get_or-map line_of lines i default (0, []) below) in
    subst (λ (ls : List (ℕ × List ℕ)). AreNegotiated ls new) (sym here) (AreNegotiated-more (take i all) (line_of (get_or lines i default)) old new are taken outside)

-- the URI of one of them is known where all are
pub IsKnownUri-at : (lines : List (ℕ × Bor (List ℕ))) (default : ℕ × Bor (List ℕ)) (i : ℕ) → i < length lines
    → AreKnown (map (λ line. (line.0, line.1.now)) lines) → IsKnownUri (get_or lines i default).1.now
IsKnownUri-at lines default i below known =
    let line_of : ℕ × Bor (List ℕ) → ℕ × List ℕ = λ line. (line.0, line.1.now) in
    subst (λ (line : ℕ × List ℕ). IsKnownUri line.1) (get_or-map line_of lines i default (0, []) below)
    (known i (omega (arith, length-map lines line_of)))
