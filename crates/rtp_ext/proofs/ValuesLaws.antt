-- The values of a block: they are the only ones, and how one more element changes them.
use Rattle.rtp_ext.proofs.Common.{◌≡◌, ◌≢◌, inl, inr, List, [], ◌∷◌, ◌++◌, Option, Some, None, Result, Ok, Err, IsOk, IfOk, All, ap, refl, sym, ◌∙◌, subst, AllocError, All-push, All-nil, All-head, All-tail, All-same, append_assoc, Extension, ExtensionValues, Element, Slots, extension_at, Reads, SameFields, IsWellFormed, ReadsInto, Reads-one, Reads-same, SameFields-joined, SameFields-refl, SameFields-trans, SameFields-others, same_values, same_or_not, one_kind, Carries, AreFields, last, none, AreValues, ReadElements, IsStopped, ReadUntilRefused}

-- before any element the values are the old ones
pub AreValues-none : (exts : Slots) (old : ExtensionValues) → AreValues exts [] old old
AreValues-none exts old kind = none (All-nil (λ element. Carries exts kind element → ⊥)) (SameFields-refl kind old)

-- one more element, which doesn't carry the kind
pub AreFields-passed : (exts : Slots) (done : List Element) (element : Element) (kind : Extension) (old between new : ExtensionValues)
    → (Carries exts kind element → ⊥) → SameFields kind between new → AreFields exts done kind old between
    → AreFields exts (done ++ element ∷ []) kind old new
AreFields-passed exts done element kind old between new not_carried same (last before after found is mapped reads later) =
    last before (after ++ element ∷ []) found
    (ap (λ elements. elements ++ element ∷ []) is ∙ append_assoc before (found ∷ after) (element ∷ []))
    mapped (Reads-same kind found.1 between new reads same)
    (All-push (λ e. Carries exts kind e → ⊥) after element later not_carried)
AreFields-passed exts done element kind old between new not_carried same (none not_before same_before) =
    none (All-push (λ e. Carries exts kind e → ⊥) done element not_before not_carried)
    (SameFields-trans kind old between new same_before same)

pub AreValues-passed : (exts : Slots) (done : List Element) (element : Element) (old new : ExtensionValues)
    → ((kind : Extension) → Carries exts kind element → ⊥) → AreValues exts done old new
    → AreValues exts (done ++ element ∷ []) old new
AreValues-passed exts done element old new not_carried values kind =
    AreFields-passed exts done element kind old new new (not_carried kind) (SameFields-refl kind new) (values kind)

-- one more element, whose data are well-formed for its kind
pub AreValues-read : (exts : Slots) (done : List Element) (element : Element) (kind : Extension) (old between new : ExtensionValues)
    → extension_at exts element.0 ≡ Some kind → Reads kind element.1 new
    → ((other : Extension) → other ≢ kind → SameFields other between new) → AreValues exts done old between
    → AreValues exts (done ++ element ∷ []) old new
AreValues-read exts done element kind old between new mapped reads others values any = elim (same_or_not any kind) [
  | inl same ↦ subst (λ k. AreFields exts (done ++ element ∷ []) k old new) (sym same)
      (last done [] element refl mapped reads (All-nil (λ later. Carries exts kind later → ⊥)))
  | inr other ↦ AreFields-passed exts done element any old between new
      (λ carries. other (one_kind (sym carries.0 ∙ mapped))) (others any other) (values any)
]

-- no element that carries the kind is among these
not_among : {X : Type 0} (P : X → Type 0) (before after : List X) (x : X) → All (λ y. P y → ⊥) (before ++ x ∷ after) → P x → ⊥
not_among P [] after x all is = All-head (λ y. P y → ⊥) x after all is
not_among P (y ∷ before) after x all is = not_among P before after x (All-tail (λ z. P z → ⊥) y (before ++ x ∷ after) all) is

-- the last for which it holds is one
last_one : {X : Type 0} (P : X → Type 0) (before after others rest : List X) (x y : X) → before ++ x ∷ after ≡ others ++ y ∷ rest
    → P x → P y → All (λ z. P z → ⊥) after → All (λ z. P z → ⊥) rest → x ≡ y
last_one P [] after [] rest x y same x_is y_is none_after none_rest = cc
last_one P [] after (z ∷ others) rest x y same x_is y_is none_after none_rest =
    let tail : others ++ y ∷ rest ≡ after = cc in
    absurd (not_among P others rest y (All-same (λ w. P w → ⊥) (others ++ y ∷ rest) after tail none_after) y_is)
last_one P (z ∷ before) after [] rest x y same x_is y_is none_after none_rest =
    let tail : before ++ x ∷ after ≡ rest = cc in
    absurd (not_among P before after x (All-same (λ w. P w → ⊥) (before ++ x ∷ after) rest tail none_rest) x_is)
last_one P (z ∷ before) after (w ∷ others) rest x y same x_is y_is none_after none_rest =
    let tail : before ++ x ∷ after ≡ others ++ y ∷ rest = cc in
    last_one P before after others rest x y tail x_is y_is none_after none_rest

-- an element that carries the kind contradicts that none does
carried : (exts : Slots) (elements before after : List Element) (element : Element) (kind : Extension) (v : ExtensionValues)
    → elements ≡ before ++ element ∷ after → extension_at exts element.0 ≡ Some kind → Reads kind element.1 v
    → All (λ e. Carries exts kind e → ⊥) elements → ⊥
carried exts elements before after element kind v is mapped reads not_carried =
    not_among (Carries exts kind) before after element
    (All-same (λ e. Carries exts kind e → ⊥) (before ++ element ∷ after) elements (sym is) not_carried) (mapped, (v, reads))

pub AreFields-one : {exts : Slots} {elements : List Element} {kind : Extension} {old v w : ExtensionValues}
    → AreFields exts elements kind old v → AreFields exts elements kind old w → SameFields kind v w
AreFields-one {exts} {kind} {v} {w} (last before after x is mapped reads later) (last others rest y also y_mapped y_reads y_later) =
    let same = last_one (Carries exts kind) before after others rest x y (sym is ∙ also) (mapped, (v, reads)) (y_mapped, (w, y_reads))
    later y_later in
    Reads-one kind x.1 v w reads (subst (λ e. Reads kind e.1 w) (sym same) y_reads)
AreFields-one {exts} {elements} {kind} {v} (last before after x is mapped reads later) (none not_carried same) =
    absurd (carried exts elements before after x kind v is mapped reads not_carried)
AreFields-one {exts} {elements} {kind} {w} (none not_carried same) (last before after x is mapped reads later) =
    absurd (carried exts elements before after x kind w is mapped reads not_carried)
AreFields-one {kind} {old} {v} {w} (none not_carried same) (none also w_same) = SameFields-joined kind old v w same w_same

-- the values of a block are the only ones
pub one_values : (exts : Slots) (elements : List Element) (old v w : ExtensionValues) → AreValues exts elements old v → AreValues exts elements old w → v ≡ w
one_values exts elements old v w v_values w_values = same_values v w (λ kind. AreFields-one (v_values kind) (w_values kind))

-- ---- What shows values

-- before any element it shows what it showed
pub ReadElements-none : {V : Type 0} (Shows : V → ExtensionValues → Type 0) (exts : Slots) (old : V) → ReadElements Shows exts [] old old
ReadElements-none Shows exts old before shows = (before, shows, AreValues-none exts before)

-- one more element, which carries no kind
pub ReadElements-passed : {V : Type 0} (Shows : V → ExtensionValues → Type 0) (exts : Slots) (done : List Element) (element : Element) (old new : V)
    → ((kind : Extension) → Carries exts kind element → ⊥) → ReadElements Shows exts done old new
    → ReadElements Shows exts (done ++ element ∷ []) old new
ReadElements-passed Shows exts done element old new not_carried values before shows =
    let now = values before shows in
    (now.0, now.1, AreValues-passed exts done element before now.0 not_carried now.2)

-- one more element is read, well-formed or not, by a reader that says which
pub ReadElements-parsed : {V : Type 0} (Shows : V → ExtensionValues → Type 0) (exts : Slots) (done : List Element) (element : Element) (kind : Extension)
    (old between new : V) (result : Result (Option (Unit {0})) AllocError) → extension_at exts element.0 ≡ Some kind → IsOk result
    → (result ≡ Ok (Some (record {})) → ReadsInto Shows kind element.1 between new)
    → (IsWellFormed kind element.1 → IfOk result (λ answer. answer ≡ Some (record {}))) → (result ≢ Ok (Some (record {})) → new ≡ between)
    → ReadElements Shows exts done old between → ReadElements Shows exts (done ++ element ∷ []) old new
ReadElements-parsed Shows exts done element kind old between new (Err e) mapped ok found only unchanged values before shows = cc
ReadElements-parsed Shows exts done element kind old between new (Ok (Some read)) mapped ok found only unchanged values before shows =
    let now = values before shows in
    let next = found refl now.0 now.1 in (
      next.0,
      next.1,
      AreValues-read exts done element kind before now.0 next.0 mapped next.2
          (λ any differs. subst (SameFields any now.0) (sym next.3) (SameFields-others kind any now.0 next.0 differs)) now.2,
    )
ReadElements-parsed Shows exts done element kind old between new (Ok None) mapped ok found only unchanged values before shows =
    subst (λ v. ReadElements Shows exts (done ++ element ∷ []) old v) (sym (unchanged (λ same. cc)))
    (ReadElements-passed Shows exts done element old between not_carried values) before shows
  where
    not_carried : (any : Extension) → Carries exts any element → ⊥
    not_carried any carries =
        let same : any ≡ kind = one_kind (sym carries.0 ∙ mapped) in
        let well_formed = subst (λ k. IsWellFormed k element.1) same carries.1 in
        let contradiction = only well_formed in
        cc

-- values that show themselves are those that the elements make of them
pub ReadElements-itself : (exts : Slots) (elements : List Element) (old new : ExtensionValues)
    → ReadElements (λ values shown. values ≡ shown) exts elements old new → AreValues exts elements old new
ReadElements-itself exts elements old new into =
    let read = into old refl in
    subst (λ v. AreValues exts elements old v) (sym read.1) read.2

pub ReadUntilRefused-itself : (exts : Slots) (elements : List Element) (old new : ExtensionValues)
    → ReadUntilRefused (λ values shown. values ≡ shown) exts elements old new → IsStopped exts elements old new
ReadUntilRefused-itself exts elements old new stopped = record {
  at = stopped.at;
  values_are = ReadElements-itself exts stopped.at.before old new stopped.values_are;
}
