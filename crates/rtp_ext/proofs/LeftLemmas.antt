-- Elements found one after another in what is left of a body.
use Rattle.rtp_ext.proofs.Common.{◌≡◌, ℕ, ◌+◌, ◌-◌, ◌≤◌, List, ◌++◌, length, take, drop, replicate, append_assoc, length-append, take-append-drop, arith, refl, sym, ap, ◌∙◌, subst, drop_at, ExtensionsForm, Place, element_bytes, BeginsWithElement, BeginsWithNoElement, element_header, IsNextPlace, IsLeft}
use Rattle.rtp_ext.proofs.PlaceLemmas.{length-begins, IsNextPlace-begins}

-- nothing is passed over yet
pub none_passed : (body : List ℕ) → 0 ≡ length body - length body
none_passed body = omega arith

pub IsLeft-all : (body : List ℕ) → IsLeft body body
IsLeft-all body = record { few = omega arith; left_is = ap (λ (n : ℕ). drop n body) (none_passed body) }

module _ (form : ExtensionsForm) (body left : List ℕ) (id : ℕ) (bytes after : List ℕ) (was : IsLeft body left) (begins : BeginsWithElement form left (id, bytes) after) where
  left_within : length body - length left ≤ length body
  left_within = omega arith

  total : length body - length left + begins.padding + length (element_header form id (length bytes)) + length bytes + length after ≡ length body
  total = length-begins body (length body - length left) id bytes left_within was.left_is begins

  pub IsLeft-next : IsLeft body after
  IsLeft-next =
      let front : List ℕ = replicate begins.padding 0 ++ element_bytes form (id, bytes) in
      let passed : List ℕ = take (length body - length left) body in
      let whole : left ≡ front ++ after = begins.bytes_are ∙ sym (append_assoc (replicate begins.padding 0) (element_bytes form (id, bytes)) after) in
      let split : body ≡ (passed ++ front) ++ after =
      sym (take-append-drop (length body - length left) body) ∙ (ap (λ b. passed ++ b) (sym was.left_is ∙ whole) ∙ sym (append_assoc passed front after)) in
      record {
        few = omega (arith, total);
        left_is = sym (ap (drop (length body - length after)) split
            ∙ drop_at (passed ++ front) after (length body - length after) (omega (arith, ap length split, length-append (passed ++ front) after)));
      }

  -- by the place that was made of it
  pub next_left : (place : Place) → place.id ≡ id → place.start + length (element_header form id (length bytes)) ≡ place.data_start
      → place.data_start + length bytes ≡ place.end → place.end + length after ≡ length body → IsNextPlace form body (length body - length left) place
  next_left place = IsNextPlace-begins body (length body - length left) id bytes left_within was.left_is begins place

  -- by the place that it has
  pub place_left : Place
  place_left = record {
    id = id;
    start = length body - length after - length bytes - length (element_header form id (length bytes));
    data_start = length body - length after - length bytes;
    end = length body - length after;
  }

  pub next_other : IsNextPlace form body (length body - length left) place_left
  unfolding place_left
  next_other = next_left place_left refl (omega (arith, total)) (omega (arith, total)) (omega (arith, total))

  pub end_other : place_left.end ≡ length body - length after
  unfolding place_left
  end_other = refl

  pub id_other : place_left.id ≡ id
  unfolding place_left
  id_other = refl

  pub len_other : place_left.end - place_left.start ≡ length (element_header form id (length bytes)) + length bytes
  unfolding place_left
  len_other = omega (arith, total)

  pub fits_all : length body - length left + (length (element_header form id (length bytes)) + length bytes) + length after ≤ length body
  fits_all = omega (arith, total)

-- where no element is left
pub none_left : (form : ExtensionsForm) (body left : List ℕ) → IsLeft body left → BeginsWithNoElement form left → BeginsWithNoElement form (drop (length body - length left) body)
none_left form body left was none = subst (BeginsWithNoElement form) was.left_is none
