-- Items in places.
use Rattle.std.proofs.Common.{◌≡◌, ℕ, zero, suc, ◌-◌, ◌<◌, ◌≤◌, List, [], ◌∷◌, ◌++◌, length, replicate, get_or, set, refl, ap, sym, subst, arith}
use Rattle.rtp_c.specs.LayersView.{AreInPlaces}

-- the place after the last item has the view of nothing
pub AreInPlaces-after : {A B : Type 0} (IsViewOf : A → B → Type 0) (nothing : A) (items : List A) (views : List B) (unused : B) → length items < length views
    → AreInPlaces IsViewOf nothing items views → IsViewOf nothing (get_or views (length items) unused)
AreInPlaces-after IsViewOf nothing [] [] unused room are = absurd (omega arith)
AreInPlaces-after IsViewOf nothing [] (view ∷ views) unused room are = are.0
AreInPlaces-after IsViewOf nothing (item ∷ items) [] unused room are = absurd (omega arith)
AreInPlaces-after IsViewOf nothing (item ∷ items) (view ∷ views) unused room are = AreInPlaces-after IsViewOf nothing items views unused (omega arith) are.1

-- the view of an item more is put there
pub AreInPlaces-more : {A B : Type 0} (IsViewOf : A → B → Type 0) (nothing : A) (items : List A) (views : List B) (item : A) (view : B) → length items < length views
    → IsViewOf item view → AreInPlaces IsViewOf nothing items views → AreInPlaces IsViewOf nothing (items ++ item ∷ []) (set views (length items) view)
AreInPlaces-more IsViewOf nothing [] [] item view room is are = absurd (omega arith)
AreInPlaces-more IsViewOf nothing [] (first ∷ views) item view room is are = (is, are.1)
AreInPlaces-more IsViewOf nothing (i ∷ items) [] item view room is are = absurd (omega arith)
AreInPlaces-more IsViewOf nothing (i ∷ items) (first ∷ views) item view room is are = (are.0, AreInPlaces-more IsViewOf nothing items views item view (omega arith) is are.1)

-- the last item's place has its view
pub AreInPlaces-last : {A B : Type 0} (IsViewOf : A → B → Type 0) (nothing : A) (before : List A) (item : A) (views : List B) (unused : B)
    → AreInPlaces IsViewOf nothing (before ++ item ∷ []) views → IsViewOf item (get_or views (length before) unused)
AreInPlaces-last IsViewOf nothing [] item [] unused are = absurd are
AreInPlaces-last IsViewOf nothing [] item (view ∷ views) unused are = are.0
AreInPlaces-last IsViewOf nothing (i ∷ before) item [] unused are = absurd are
AreInPlaces-last IsViewOf nothing (i ∷ before) item (view ∷ views) unused are = AreInPlaces-last IsViewOf nothing before item views unused are.1

-- the view of another item is put in its place
pub AreInPlaces-changed : {A B : Type 0} (IsViewOf : A → B → Type 0) (nothing : A) (before : List A) (old new : A) (views : List B) (view : B)
    → IsViewOf new view → AreInPlaces IsViewOf nothing (before ++ old ∷ []) views → AreInPlaces IsViewOf nothing (before ++ new ∷ []) (set views (length before) view)
AreInPlaces-changed IsViewOf nothing [] old new [] view is are = absurd are
AreInPlaces-changed IsViewOf nothing [] old new (first ∷ views) view is are = (is, are.1)
AreInPlaces-changed IsViewOf nothing (i ∷ before) old new [] view is are = absurd are
AreInPlaces-changed IsViewOf nothing (i ∷ before) old new (first ∷ views) view is are = (are.0, AreInPlaces-changed IsViewOf nothing before old new views view is are.1)

-- numbers before zeros stand in their places
zeros : (places : ℕ) → AreInPlaces (λ (number t : ℕ). t ≡ number) 0 [] (replicate places 0)
zeros zero = tt
zeros (suc places) = (refl, zeros places)

whole : (places : ℕ) → places ≡ places - 0
whole places = omega arith

pub AreInPlaces-padded : (places : ℕ) (numbers told : List ℕ) → length numbers ≤ places → told ≡ numbers ++ replicate (places - length numbers) 0
    → AreInPlaces (λ (number t : ℕ). t ≡ number) 0 numbers told
AreInPlaces-padded places [] told few is =
    subst (λ (ts : List ℕ). AreInPlaces (λ (number t : ℕ). t ≡ number) 0 [] ts) (sym is)
    (subst (λ (n : ℕ). AreInPlaces (λ (number t : ℕ). t ≡ number) 0 [] (replicate n 0)) (whole places) (zeros places))
AreInPlaces-padded zero (number ∷ numbers) told few is = absurd (omega arith)
AreInPlaces-padded (suc places) (number ∷ numbers) told few is =
    let left : suc places - suc (length numbers) ≡ places - length numbers = omega arith in
    subst (λ (ts : List ℕ). AreInPlaces (λ (n t : ℕ). t ≡ n) 0 (number ∷ numbers) ts) (sym is)
    (refl, AreInPlaces-padded places numbers (numbers ++ replicate (suc places - suc (length numbers)) 0) (omega arith) (ap (λ (n : ℕ). numbers ++ replicate n 0) left))
