-- Rows of layer allocations, and the values once the last of a row was read in place of all.
use Rattle.rtp_ext.proofs.Common.{◌≡◌, ◌≢◌, ◌≤◌, ◌<◌, arith, drop, length-append, cases_lt, nil_from_length, ℕ, inl, inr, ◌↔◌, Bool, false, not, IsTrue, List, ◌∷◌, ◌++◌, length, Option, Some, None, Result, Ok, Err, IsOk, IfOk, All, append-nil, ap, refl, sym, ◌∙◌, subst, [], option_map, option_eq, sameb, false≢true, the_type, AllocError, All-append, All-cons, All-push, All-nil, append_assoc, Extension, VideoLayersAllocation, KnownKind, extension_of_kind, ExtensionValues, Reads, SameFields, IsWellFormed, ReadsInto, Reads-same, SameFields-refl, SameFields-trans, SameFields-others, same_or_not, one_kind, Element, Slots, extension_at, Carries, AreFields, last, none, ReadElements, ReadUntilRefused, IsAllocation, IsLastAllocation, last_is, none_is, EndsRow, EndsBefore, IsPastRow, IsReadTo, IsReadPastRow}
use Rattle.rtp_values.specs.declared.known_kind.KnownKind.TheVariants as known
use Rattle.rtp_ext.proofs.ValuesLaws.{ReadElements-none}

-- ---- what an id is mapped to

-- an element whose id is mapped to a kind, and to the layer allocation
pub mapped-to : (exts : Slots) (id : ℕ) {found : Option KnownKind} (kind : KnownKind) → option_map extension_of_kind found ≡ extension_at exts id → found ≡ Some kind
    → extension_at exts id ≡ Some (extension_of_kind kind)
mapped-to exts id kind at is = sym at ∙ ap (option_map extension_of_kind) is

pub mapped-to-layers : (exts : Slots) (id : ℕ) {found : Option KnownKind} {kind same : KnownKind} → option_map extension_of_kind found ≡ extension_at exts id → found ≡ Some kind
    → kind ≡ same → extension_of_kind same ≡ VideoLayersAllocation → extension_at exts id ≡ Some VideoLayersAllocation
mapped-to-layers exts id {kind} at is kind_is layers =
    mapped-to exts id kind at is ∙ ap (λ k. Some (extension_of_kind k)) kind_is ∙ ap (λ extension. Some extension) layers

-- a test whether the kind is that of the allocation
pub kind-tested : (found : Option KnownKind) {test : Bool} → test ≡ option_eq (sameb the_type) found (Some known.VideoLayersAllocation)
    → (IsTrue test ↔ (option_map extension_of_kind found ≡ Some VideoLayersAllocation))
kind-tested None is = (λ yes. absurd (false≢true (sym is ∙ yes)), λ some. absurd cc)
kind-tested (Some known.VideoLayersAllocation) is = (λ yes. refl, λ some. is)
kind-tested (Some _) is = (λ yes. absurd (false≢true (sym is ∙ yes)), λ some. absurd cc)

pub kind-untested : (found : Option KnownKind) {test : Bool} → test ≡ not (option_eq (sameb the_type) found (Some known.VideoLayersAllocation)) → test ≡ false
    → option_map extension_of_kind found ≡ Some VideoLayersAllocation
kind-untested None is false_is = absurd (false≢true (sym false_is ∙ is))
kind-untested (Some known.VideoLayersAllocation) is false_is = refl
kind-untested (Some _) is false_is = absurd (false≢true (sym false_is ∙ is))

-- ---- which data count

IsLastAllocation-passed : {exts : Slots} {done : List Element} (element : Element) {first bytes : List ℕ}
    → (Carries exts VideoLayersAllocation element → ⊥) → IsLastAllocation exts done first bytes
    → IsLastAllocation exts (done ++ element ∷ []) first bytes
IsLastAllocation-passed {exts} element not_carried (last_is before after found is carries later bytes_are) =
    last_is before (after ++ element ∷ []) found
    (ap (λ es. es ++ element ∷ []) is ∙ append_assoc before (found ∷ after) (element ∷ []))
    carries (All-push (λ e. Carries exts VideoLayersAllocation e → ⊥) after element later not_carried) bytes_are
IsLastAllocation-passed {exts} {done} element not_carried (none_is never bytes_are) =
    none_is (All-push (λ e. Carries exts VideoLayersAllocation e → ⊥) done element never not_carried) bytes_are

IsLastAllocation-taken : (exts : Slots) (done : List Element) (element : Element) (first : List ℕ)
    → Carries exts VideoLayersAllocation element → IsLastAllocation exts (done ++ element ∷ []) first element.1
IsLastAllocation-taken exts done element first carries =
    last_is done [] element refl carries (All-nil (λ e. Carries exts VideoLayersAllocation e → ⊥)) refl

-- ---- how a row grows

-- the element after those that were passed is passed too
one_less : (elements done left : List Element) (element : Element) → elements ≡ done ++ element ∷ left → elements ≡ (done ++ element ∷ []) ++ left
one_less elements done left element is = is ∙ sym (append_assoc done (element ∷ []) left)

-- one more element carries nothing
pub EndsRow-passed : {exts : Slots} {first : List ℕ} {elements : List Element} (left : List Element) (element : Element) {bytes : List ℕ}
    → ((kind : Extension) → Carries exts kind element → ⊥) → EndsRow exts first elements (element ∷ left) bytes
    → EndsRow exts first elements left bytes
EndsRow-passed {exts} {elements} left element nothing was = record {
  row = was.row ++ element ∷ [];
  elements_are = one_less elements was.row left element was.elements_are;
  no_other = λ kind differs. All-push (λ e. Carries exts kind e → ⊥) was.row element (was.no_other kind differs) (nothing kind);
  last = IsLastAllocation-passed element (nothing VideoLayersAllocation) was.last;
  memory = was.memory;
}

-- one more element carries an allocation
pub EndsRow-taken : {exts : Slots} {first : List ℕ} {elements : List Element} (left : List Element) (element : Element) {bytes : List ℕ}
    → 2 ≤ length first → Carries exts VideoLayersAllocation element → EndsRow exts first elements (element ∷ left) bytes
    → EndsRow exts first elements left element.1
EndsRow-taken {exts} {first} {elements} left element long carries was = record {
  row = was.row ++ element ∷ [];
  elements_are = one_less elements was.row left element was.elements_are;
  no_other = λ kind differs. All-push (λ e. Carries exts kind e → ⊥) was.row element (was.no_other kind differs)
      (λ other. differs (one_kind (sym other.0 ∙ carries.0)));
  last = IsLastAllocation-taken exts was.row element first carries;
  memory = λ bytes_long. long;
}

-- what is left begins with these elements
pub EndsRow-left : {exts : Slots} {first : List ℕ} {elements left these : List Element} {bytes : List ℕ} → left ≡ these
    → EndsRow exts first elements left bytes → EndsRow exts first elements these bytes
EndsRow-left {exts} {first} {elements} {bytes} same was = subst (λ es. EndsRow exts first elements es bytes) same was

-- ---- what is read

-- what elements and those behind them make of the fields of a kind
AreFields-joined : {exts : Slots} {xs ys : List Element} {kind : Extension} {u v w : ExtensionValues}
    → AreFields exts xs kind u v → AreFields exts ys kind v w → AreFields exts (xs ++ ys) kind u w
AreFields-joined {xs} fields (last before after x is mapped reads later) =
    last (xs ++ before) after x (ap (λ es. xs ++ es) is ∙ sym (append_assoc xs before (x ∷ after))) mapped reads later
AreFields-joined {exts} {ys} {kind} {v} {w} (last before after x is mapped reads later) (none never same) =
    last before (after ++ ys) x (ap (λ es. es ++ ys) is ∙ append_assoc before (x ∷ after) ys) mapped (Reads-same kind x.1 v w reads same)
    (All-append (λ e. Carries exts kind e → ⊥) after ys later never)
AreFields-joined {exts} {xs} {ys} {kind} {u} {v} {w} (none before same_before) (none never same) =
    none (All-append (λ e. Carries exts kind e → ⊥) xs ys before never) (SameFields-trans kind u v w same_before same)

ReadElements-joined : {V : Type 0} (Shows : V → ExtensionValues → Type 0) (exts : Slots) (xs ys : List Element) (old between new : V)
    → ReadElements Shows exts xs old between → ReadElements Shows exts ys between new → ReadElements Shows exts (xs ++ ys) old new
ReadElements-joined Shows exts xs ys old between new first second before shows =
    let so_far = first before shows in
    let next = second so_far.0 so_far.1 in
    (next.0, next.1, λ kind. AreFields-joined (so_far.2 kind) (next.2 kind))

-- the data that count in a row were read: that reads the element of the first data and the row
pub ReadElements-row : {V : Type 0} (Shows : V → ExtensionValues → Type 0) {exts : Slots} (element : Element) {row : List Element} {bytes : List ℕ}
    (old new : V) (result : Result (Option (Unit {0})) AllocError) → extension_at exts element.0 ≡ Some VideoLayersAllocation
    → ((kind : Extension) → kind ≢ VideoLayersAllocation → All (λ e. Carries exts kind e → ⊥) row)
    → IsLastAllocation exts row element.1 bytes → IsOk result
    → (result ≡ Ok (Some (record {})) → ReadsInto Shows VideoLayersAllocation bytes old new)
    → (IsWellFormed VideoLayersAllocation bytes → IfOk result (λ answer. answer ≡ Some (record {})))
    → (result ≢ Ok (Some (record {})) → new ≡ old) → ReadElements Shows exts (element ∷ row) old new
ReadElements-row Shows {exts} element {row} {bytes} old new result mapped no_other is ok found only unchanged before shows =
    let all = by_answer result refl in (
      all.0,
      all.1,
      λ kind. elim (same_or_not kind VideoLayersAllocation) [
        | inl same ↦ subst (λ k. AreFields exts (element ∷ row) k before all.0) (sym same) all.2
        | inr differs ↦ none (All-cons (λ e. Carries exts kind e → ⊥) element row
            (λ carries. differs (one_kind (sym carries.0 ∙ mapped))) (no_other kind differs)) (all.3 kind differs)
      ],
    )
  where
    -- the allocation, and that all else stays
    Answer : Type 0
    Answer = (after : ExtensionValues) × Shows new after × AreFields exts (element ∷ row) VideoLayersAllocation before after
        × ((kind : Extension) → kind ≢ VideoLayersAllocation → SameFields kind before after)

    malformed : result ≡ Ok None → IsWellFormed VideoLayersAllocation bytes → ⊥
    malformed was well_formed = let contradiction = subst (λ r. IfOk r (λ answer. answer ≡ Some (record {}))) was (only well_formed) in cc

    read_fields : (after : ExtensionValues) → Reads VideoLayersAllocation bytes after → IsLastAllocation exts row element.1 bytes
        → AreFields exts (element ∷ row) VideoLayersAllocation before after
    read_fields after reads (last_is front back x parts carries never bytes_are) =
        last (element ∷ front) back x (ap (λ es. element ∷ es) parts) carries.0
        (subst (λ bs. Reads VideoLayersAllocation bs after) bytes_are reads) never
    read_fields after reads (none_is never bytes_are) =
        last [] row element refl mapped (subst (λ bs. Reads VideoLayersAllocation bs after) bytes_are reads) never

    same_fields : result ≡ Ok None → IsLastAllocation exts row element.1 bytes → AreFields exts (element ∷ row) VideoLayersAllocation before before
    same_fields was (last_is front back x parts carries never bytes_are) =
        absurd (malformed was (subst (IsWellFormed VideoLayersAllocation) (sym bytes_are) carries.1))
    same_fields was (none_is never bytes_are) =
        none (All-cons (λ e. Carries exts VideoLayersAllocation e → ⊥) element row
        (λ carries. malformed was (subst (IsWellFormed VideoLayersAllocation) (sym bytes_are) carries.1)) never)
        (SameFields-refl VideoLayersAllocation before)

    by_answer : (answer : Result (Option (Unit {0})) AllocError) → result ≡ answer → Answer
    by_answer (Err e) was = let contradiction = subst IsOk was ok in cc
    by_answer (Ok (Some read)) was =
        let next = found was before shows in (
          next.0,
          next.1,
          read_fields next.0 next.2 is,
          λ kind differs. subst (SameFields kind before) (sym next.3) (SameFields-others VideoLayersAllocation kind before next.0 differs),
        )
    by_answer (Ok None) was = (
      before,
      subst (λ v. Shows v before) (sym (unchanged (λ same. let both = sym was ∙ same in cc))) shows,
      same_fields was is,
      λ kind differs. SameFields-refl kind before,
    )

-- ---- how far reading has come

pub IsReadTo-start : {V : Type 0} (Shows : V → ExtensionValues → Type 0) (exts : Slots) (elements : List Element) (old : V)
    → IsReadTo Shows exts elements elements old old
IsReadTo-start Shows exts elements old = record {
  done = [];
  elements_are = refl;
  values_are = ReadElements-none Shows exts old;
}

-- these elements are read too
pub IsReadTo-more : {V : Type 0} (Shows : V → ExtensionValues → Type 0) (exts : Slots) (elements left next these : List Element) (old between new : V)
    → left ≡ these ++ next → ReadElements Shows exts these between new → IsReadTo Shows exts elements left old between
    → IsReadTo Shows exts elements next old new
IsReadTo-more Shows exts elements left next these old between new is reads was = record {
  done = was.done ++ these;
  elements_are = was.elements_are ∙ ap (λ es. was.done ++ es) is ∙ sym (append_assoc was.done these next);
  values_are = ReadElements-joined Shows exts was.done these old between new was.values_are reads;
}

-- no element is left
pub IsReadTo-end : {V : Type 0} (Shows : V → ExtensionValues → Type 0) {exts : Slots} {elements left : List Element} {old new : V}
    → left ≡ [] → IsReadTo Shows exts elements left old new → ReadElements Shows exts elements old new
IsReadTo-end Shows {exts} {old} {new} ended was = subst (λ es. ReadElements Shows exts es old new)
    (sym (was.elements_are ∙ ap (λ es. was.done ++ es) ended ∙ append-nil was.done)) was.values_are

-- ---- where memory is taken: once for a row

-- the last of the elements is the last of those behind the first ones
last-behind : (done others earlier : List Element) (first previous : Element) → done ++ first ∷ others ≡ earlier ++ previous ∷ []
    → (between : List Element) × (first ∷ others ≡ between ++ previous ∷ [])
last-behind [] others earlier first previous is = (earlier, is)
last-behind (x ∷ done) others [] first previous is =
    absurd (omega (arith, ap length is, length-append done (first ∷ others)))
last-behind (x ∷ done) others (y ∷ earlier) first previous is =
    last-behind done others earlier first previous (ap (drop 1) is)

-- the last of one element is that element
only-last : (earlier : List Element) (element previous : Element) → element ∷ [] ≡ earlier ++ previous ∷ [] → previous ≡ element
only-last [] element previous is = cc
only-last (x ∷ earlier) element previous is = absurd (omega (arith, ap length is, length-append earlier (previous ∷ [])))

-- nothing was passed
IsPastRow-start : (exts : Slots) (left : List Element) → IsPastRow exts [] left
IsPastRow-start exts left earlier previous is allocation = absurd (omega (arith, ap length is, length-append earlier (previous ∷ [])))

-- an element that takes no memory was passed
pub IsPastRow-other : (exts : Slots) (left : List Element) (element : Element) → (IsAllocation exts element → ⊥) → IsPastRow exts (element ∷ []) left
IsPastRow-other exts left element not_one earlier previous is allocation =
    absurd (not_one (subst (IsAllocation exts) (only-last earlier element previous is) allocation))

-- a row was passed, which its first element alone makes where that takes no memory
pub IsPastRow-row : (exts : Slots) {elements : List Element} (row left : List Element) (element : Element) → elements ≡ row ++ left
    → (2 ≤ length element.1 → EndsBefore exts left) → (length element.1 < 2 → left ≡ elements) → IsPastRow exts (element ∷ row) left
IsPastRow-row exts row left element parts whole short = elim (cases_lt (length element.1) 2) [
  | inl few ↦
      let alone : row ≡ [] = nil_from_length row (omega (arith, ap length parts, ap length (short few), length-append row left)) in
      subst (λ es. IsPastRow exts (element ∷ es) left) (sym alone) (IsPastRow-other exts left element (λ allocation. omega (arith, few, allocation.1.1)))
  | inr many ↦ λ earlier previous is allocation. whole (omega (arith, many))
]

pub IsReadPastRow-start : {V : Type 0} (Shows : V → ExtensionValues → Type 0) (exts : Slots) (elements : List Element) (old : V)
    → IsReadPastRow Shows exts elements elements old old
unfolding IsReadTo-start
IsReadPastRow-start Shows exts elements old = record {
  is_read = IsReadTo-start Shows exts elements old;
  past_row = IsPastRow-start exts elements;
}

-- these elements are passed too
pub IsReadPastRow-more : {V : Type 0} (Shows : V → ExtensionValues → Type 0) {exts : Slots} {elements left : List Element} (next others : List Element) (first : Element) {old between : V} (new : V)
    → left ≡ (first ∷ others) ++ next → ReadElements Shows exts (first ∷ others) between new → IsPastRow exts (first ∷ others) next
    → IsReadPastRow Shows exts elements left old between → IsReadPastRow Shows exts elements next old new
unfolding IsReadTo-more
IsReadPastRow-more Shows {exts} {elements} {left} next others first {old} {between} new is reads past was = record {
  is_read = IsReadTo-more Shows exts elements left next (first ∷ others) old between new is reads was.is_read;
  past_row = λ earlier previous last_is allocation.
      let behind = last-behind was.is_read.done others earlier first previous last_is in
      past behind.0 previous behind.1 allocation;
}

-- memory was refused to an allocation
pub IsReadPastRow-refused : {V : Type 0} (Shows : V → ExtensionValues → Type 0) {exts : Slots} {elements left : List Element} (next : List Element) (element : Element) {old between new : V}
    → left ≡ element ∷ next → extension_at exts element.0 ≡ Some VideoLayersAllocation → 2 ≤ length element.1 → new ≡ between
    → IsReadPastRow Shows exts elements left old between → ReadUntilRefused Shows exts elements old new
IsReadPastRow-refused Shows {exts} next element {old} is mapped long unchanged was = record {
  at = record {
    before = was.is_read.done;
    element = element;
    after = next;
    elements_are = was.is_read.elements_are ∙ ap (λ es. was.is_read.done ++ es) is;
    is_allocation = (mapped, (refl, long));
    begins_row = λ earlier previous last_is allocation. was.past_row earlier previous last_is allocation element next is mapped;
  };
  values_are = subst (λ v. ReadElements Shows exts was.is_read.done old v) (sym unchanged) was.is_read.values_are;
}
