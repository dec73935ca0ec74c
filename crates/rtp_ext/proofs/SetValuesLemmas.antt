-- What a body says once the last element of an id has other data: what it said, except for the fields of the kind of that id.
use Rattle.rtp_ext.proofs.Common.{◌≡◌, ℕ, inl, inr, List, [], ◌∷◌, ◌++◌, Some, All, get_or, ap, refl, sym, ◌∙◌, subst, All-cons, All-head, All-tail, All-same, Extension, ExtensionValues, no_values, Reads, with_fields, SameFields, IsWellFormed, Reads-same, SameFields-trans, SameFields-sym, SameFields-others, SameFields-taken, same_values, same_or_not, one_kind, Element, HasNone, Slots, extension_at, IsOnlyId, Carries, AreFields, last, none, AreValues}
use Rattle.rtp_ext.proofs.ValuesLaws.{AreFields-one}

-- it holds of none still where one for which it doesn't hold takes the place of another
none_still : {X : Type 0} (P : X → Type 0) (before after : List X) (x y : X) → (P y → ⊥) → All (λ z. P z → ⊥) (before ++ x ∷ after)
    → All (λ z. P z → ⊥) (before ++ y ∷ after)
none_still P [] after x y not never = All-cons (λ z. P z → ⊥) y after not (All-tail (λ z. P z → ⊥) x after never)
none_still P (z ∷ before) after x y not never =
    All-cons (λ w. P w → ⊥) z (before ++ y ∷ after) (All-head (λ w. P w → ⊥) z (before ++ x ∷ after) never)
    (none_still P before after x y not (All-tail (λ w. P w → ⊥) z (before ++ x ∷ after) never))

-- and the last of which it holds is still the last
last_still : {X : Type 0} (P : X → Type 0) (before after others rest : List X) (x y e : X) → before ++ x ∷ after ≡ others ++ e ∷ rest
    → (P x → ⊥) → (P y → ⊥) → P e → All (λ z. P z → ⊥) rest
    → (front : List X) × (back : List X) × (before ++ y ∷ after ≡ front ++ e ∷ back) × All (λ z. P z → ⊥) back
last_still P [] after [] rest x y e same not_x not_y is never = let first : e ≡ x = cc in absurd (not_x (subst P first is))
last_still P [] after (w ∷ others) rest x y e same not_x not_y is never =
    let left : after ≡ others ++ e ∷ rest = cc in (y ∷ others, rest, ap (λ zs. y ∷ zs) left, never)
last_still P (z ∷ before) after [] rest x y e same not_x not_y is never =
    let first : z ≡ e = cc in
    let left : before ++ x ∷ after ≡ rest = cc in (
      [],
      before ++ y ∷ after,
      ap (λ w. w ∷ (before ++ y ∷ after)) first,
      none_still P before after x y not_y (All-same (λ w. P w → ⊥) (before ++ x ∷ after) rest left never),
    )
last_still P (z ∷ before) after (w ∷ others) rest x y e same not_x not_y is never =
    let first : z ≡ w = cc in
    let left : before ++ x ∷ after ≡ others ++ e ∷ rest = cc in
    let found = last_still P before after others rest x y e left not_x not_y is never in
    (w ∷ found.0, found.1, ap (λ v. v ∷ (before ++ y ∷ after)) first ∙ ap (λ zs. w ∷ zs) found.2, found.3)

-- the fields of a kind that neither of the two elements carries
AreFields-still : {exts : Slots} (before after : List Element) (x y : Element) {kind : Extension} {old new : ExtensionValues}
    → (Carries exts kind x → ⊥) → (Carries exts kind y → ⊥) → AreFields exts (before ++ x ∷ after) kind old new
    → AreFields exts (before ++ y ∷ after) kind old new
AreFields-still {exts} before after x y {kind} not_x not_y (none never same) = none (none_still (Carries exts kind) before after x y not_y never) same
AreFields-still {exts} before after x y {kind} {new} not_x not_y (last others rest e is mapped reads later) =
    let found = last_still (Carries exts kind) before after others rest x y e is not_x not_y (mapped, (new, reads)) later in
    last found.0 found.1 e found.2 mapped reads found.3

-- the fields of every other kind are as before
pub other_fields : (exts : Slots) (id : ℕ) (kind : Extension) (before after : List Element) (was bytes : List ℕ) (old new : ExtensionValues)
    → extension_at exts id ≡ Some kind → AreValues exts (before ++ (id, was) ∷ after) no_values old
    → AreValues exts (before ++ (id, bytes) ∷ after) no_values new → new ≡ with_fields kind old new
other_fields exts id kind before after was bytes old new mapped old_are new_are = same_values new (with_fields kind old new) each
  where
    not_carried : (any : Extension) (bytes : List ℕ) → (any ≡ kind → ⊥) → Carries exts any (id, bytes) → ⊥
    not_carried any bytes other carries = other (one_kind (sym carries.0 ∙ mapped))

    each : (any : Extension) → SameFields any new (with_fields kind old new)
    each any = elim (same_or_not any kind) [
      | inl same ↦ subst (λ k. SameFields any new (with_fields k old new)) same (SameFields-taken any old new)
      | inr other ↦ SameFields-trans any new old (with_fields kind old new)
          (SameFields-sym any old new (AreFields-one
          (AreFields-still before after (id, was) (id, bytes) (not_carried any was other) (not_carried any bytes other) (old_are any))
          (new_are any)))
          (SameFields-others kind any old new other)
    ]

-- those of the kind are what the data say
pub said_fields : {exts : Slots} {id : ℕ} {kind : Extension} (before after : List Element) (bytes : List ℕ) (new : ExtensionValues)
    → IsOnlyId exts kind id → HasNone after id → IsWellFormed kind bytes
    → AreValues exts (before ++ (id, bytes) ∷ after) no_values new → Reads kind bytes new
said_fields {exts} {id} {kind} before after bytes new only others says are =
    let never : All (λ e. Carries exts kind e → ⊥) after = λ k d here carries. others k d here (only.only (get_or after k d).0 carries.0) in
    Reads-same kind bytes says.0 new says.1
    (AreFields-one (last before after (id, bytes) refl only.mapped says.1 never) (are kind))
