-- Bytes that are changed between two offsets, while all before and after them stay.
use Rattle.rtp_wire.proofs.Common.{◌≡◌, ℕ, ◌+◌, ◌-◌, ◌<◌, ◌≤◌, List, [], ◌∷◌, ◌++◌, length, take, drop, refl, sym, ap, ◌∙◌, arith, subst, Option, None, Some, append_assoc, length-append, length-drop, length-take-le, take_at, drop_at, add-zero, slice_index, slice_range, IfSome, drop-drop, take-take, take-append-le, get_or-take, get_or-drop, take-put_mid_below, drop-put_mid, put_mid, length-overwritten, Fields, ChangesOnly, LieBetween}
use Rattle.rtp_base.specs.Overwriting.{overwritten}
use Rattle.rtp_wire.proofs.BlockLemmas.{slice_range-take}

-- bytes after those that were put
pub drop-overwritten : (buf xs : List ℕ) (at k : ℕ) → at + length xs ≤ k → at + length xs ≤ length buf → drop k (overwritten buf at xs) ≡ drop k buf
unfolding overwritten
drop-overwritten buf xs at k past fits =
    let end = at + length xs in
    let front = take at buf ++ xs in
    let len : length front ≡ end = omega (arith, length-append (take at buf) xs, length-take-le at buf (omega arith)) in
    let more : k ≡ end + (k - end) = omega arith in
    ap (λ (n : ℕ). drop n (take at buf ++ (xs ++ drop end buf))) more
    ∙ sym (drop-drop (k - end) end (take at buf ++ (xs ++ drop end buf)))
    ∙ ap (drop (k - end)) (ap (drop end) (sym (append_assoc (take at buf) xs (drop end buf))) ∙ drop_at front (drop end buf) end len)
    ∙ drop-drop (k - end) end buf
    ∙ ap (λ (n : ℕ). drop n buf) (sym more)

-- bytes before them
pub take-overwritten : (buf xs : List ℕ) (at k : ℕ) → k ≤ at → at ≤ length buf → take k (overwritten buf at xs) ≡ take k buf
unfolding overwritten
take-overwritten buf xs at k before fits =
    take-append-le k (take at buf) (xs ++ drop (at + length xs) buf) (omega (arith, length-take-le at buf fits)) ∙ take-take k at buf before

index-drop : (xs : List ℕ) (i : ℕ) → slice_index xs i ≡ slice_index (drop i xs) 0
index-drop xs i = ap (slice_index xs) (sym (add-zero i)) ∙ sym (get_or-drop i xs 0 0)

-- the bytes that were put
pub drop-put : (buf xs : List ℕ) (at : ℕ) → at ≤ length buf → drop at (overwritten buf at xs) ≡ xs ++ drop (at + length xs) buf
unfolding overwritten
drop-put buf xs at fits = drop_at (take at buf) (xs ++ drop (at + length xs) buf) at (length-take-le at buf fits)

pub index-put : (buf : List ℕ) (at x : ℕ) → at ≤ length buf → slice_index (overwritten buf at (x ∷ [])) at ≡ x
index-put buf at x fits = index-drop (overwritten buf at (x ∷ [])) at ∙ ap (λ (ys : List ℕ). slice_index ys 0) (drop-put buf (x ∷ []) at fits)

pub range-put : (buf xs : List ℕ) (at end : ℕ) → end ≡ at + length xs → at ≤ length buf → slice_range (overwritten buf at xs) at end ≡ xs
range-put buf xs at end end-is fits =
    ap (take (end - at)) (drop-put buf xs at fits) ∙ take_at xs (drop (at + length xs) buf) (end - at) (omega arith)

pub ChangesOnly-nothing : (start end : ℕ) (bytes : List ℕ) → ChangesOnly start end bytes bytes
ChangesOnly-nothing start end bytes = record { length_is = refl; before_is = refl; after_is = refl }

pub ChangesOnly-put : (buf xs : List ℕ) (start end at : ℕ) → start ≤ at → at + length xs ≤ end → end ≤ length buf → ChangesOnly start end buf (overwritten buf at xs)
ChangesOnly-put buf xs start end at after within fits = record {
  length_is = length-overwritten buf xs at (omega arith);
  before_is = take-overwritten buf xs at start after (omega arith);
  after_is = drop-overwritten buf xs at end within (omega arith);
}

pub ChangesOnly-part : (xs part : List ℕ) (start end : ℕ) → start ≤ end → end ≤ length xs → length part ≡ end - start → ChangesOnly start end xs (put_mid start (end - start) xs part)
ChangesOnly-part xs part start end le within len = record {
  length_is = omega (arith, length-append (take start xs) (part ++ drop (end - start) (drop start xs)), length-append part (drop (end - start) (drop start xs)), length-take-le start xs (omega arith), length-drop (end - start) (drop start xs), length-drop start xs);
  before_is = take-put_mid_below start (end - start) xs part start (omega arith) (omega arith);
  after_is = drop-put_mid start (end - start) xs part end (omega arith) (omega arith) len;
}

module _ (start end : ℕ) (old new : List ℕ) (is : ChangesOnly start end old new) where
  pub index_before : (i : ℕ) → i < start → slice_index new i ≡ slice_index old i
  index_before i before = sym (get_or-take start new i 0 before) ∙ ap (λ (ys : List ℕ). slice_index ys i) is.before_is ∙ get_or-take start old i 0 before

  pub take_before : (k : ℕ) → k ≤ start → take k new ≡ take k old
  take_before k before = sym (take-take k start new before) ∙ ap (take k) is.before_is ∙ take-take k start old before

  pub range_before : (a b : ℕ) → a ≤ b → b ≤ start → slice_range new a b ≡ slice_range old a b
  range_before a b le before = sym (slice_range-take new a b start le before) ∙ ap (λ (ys : List ℕ). slice_range ys a b) is.before_is ∙ slice_range-take old a b start le before

  pub drop_after : (k : ℕ) → end ≤ k → drop k new ≡ drop k old
  drop_after k past =
      let more : k ≡ end + (k - end) = omega arith in
      ap (λ (n : ℕ). drop n new) more ∙ sym (drop-drop (k - end) end new) ∙ ap (drop (k - end)) is.after_is ∙ drop-drop (k - end) end old
      ∙ ap (λ (n : ℕ). drop n old) (sym more)

  pub range_after : (a b : ℕ) → end ≤ a → slice_range new a b ≡ slice_range old a b
  range_after a b past = ap (take (b - a)) (drop_after a past)

-- a change between two offsets, and one that lies within them
pub ChangesOnly-then : (start end s e : ℕ) (first middle last : List ℕ) → ChangesOnly start end first middle → (start ≤ s) × (e ≤ end) → ChangesOnly s e middle last → ChangesOnly start end first last
ChangesOnly-then start end s e first middle last before within after = record {
  length_is = after.length_is ∙ before.length_is;
  before_is = take_before s e middle last after start within.0 ∙ before.before_is;
  after_is = drop_after s e middle last after end within.1 ∙ before.after_is;
}

-- one that was asked for, by what is said of where it lies
pub ChangesOnly-given : {T : Type 0} (asked : Option T) (value : T) (start end s e : ℕ) (first middle last : List ℕ) → asked ≡ Some value → ChangesOnly start end first middle
    → IfSome asked (λ _. (start ≤ s) × (e ≤ end)) → ChangesOnly s e middle last → ChangesOnly start end first last
ChangesOnly-given asked value start end s e first middle last is before within after =
    ChangesOnly-then start end s e first middle last before (subst (λ (given : Option _). IfSome given (λ _. (start ≤ s) × (e ≤ end))) is within) after

-- what holds anyway
pub if_some : {X : Type 0} (o : Option X) (P : Type 0) → P → IfSome o (λ _. P)
if_some None P holds = tt
if_some (Some x) P holds = holds

-- the fields lie in the fixed part, after its first byte
pub in_fixed_part : (fields : Fields) → LieBetween fields 1 12
in_fixed_part fields = record {
  marker_lies = if_some fields.marker _ (omega arith, omega arith);
  payload_type_lies = if_some fields.payload_type _ (omega arith, omega arith);
  sequence_number_lies = if_some fields.sequence_number _ (omega arith, omega arith);
  timestamp_lies = if_some fields.timestamp _ (omega arith, omega arith);
  ssrc_lies = if_some fields.ssrc _ (omega arith, omega arith);
}
