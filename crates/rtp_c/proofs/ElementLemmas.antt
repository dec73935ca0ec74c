-- Where an element lies in the body of a block.
use Rattle.rtp_c.proofs.Common.{◌≡◌, ℕ, ◌+◌, ◌-◌, ◌<◌, ◌≤◌, List, [], ◌∷◌, ◌++◌, length, set, take_more_set, take, drop, replicate, refl, sym, ap, ◌∙◌, subst, append_assoc, length-append, length-take-le, drop_at, arith, take-append-drop, length-replicate, ExtensionsForm, IsElement, element_bytes, AreElements, IsNextPlace, IsLastPlace, ElementView, slice_at}
use Rattle.rtp_ext.specs.declared.place.Place.{Place}
use Rattle.rtp_ext.specs.ElementWriting.{element_header}
use Rattle.rtp_c.specs.ElementView.{IsNextElement, IsLastElement, AreNextElements, end_after}
use Rattle.rtp_c.proofs.InTurnLemmas.{AreLeft, AreLeft-next}
use Rattle.rtp_c.proofs.PacketLemmas.{middle}
use Rattle.rtp_ext.proofs.PlaceLemmas.{element_bytes-split}

-- the place as C is told of it
abbrev pub view_of : Place → ElementView
view_of place = record { data_at = place.data_start; data_len = place.end - place.data_start; end = place.end; id = place.id }

pub IsNextElement-place : (form : ExtensionsForm) (body : List ℕ) (at : ℕ) (place : Place) → at ≤ length body → IsNextPlace form body at place → IsNextElement form body at (view_of place)
IsNextElement-place form body at place within is =
    let head = element_header form place.id (length is.bytes) in
    let zeros = replicate is.padding 0 in
    let front = take at body ++ (zeros ++ head) in
    let in_order : body ≡ front ++ (is.bytes ++ is.after) =
    sym (take-append-drop at body)
    ∙ ap (λ (xs : List ℕ). take at body ++ xs) (is.left_is ∙ ap (λ (xs : List ℕ). zeros ++ (xs ++ is.after)) (element_bytes-split form place.id is.bytes)
    ∙ ap (λ (xs : List ℕ). zeros ++ xs) (append_assoc head is.bytes is.after) ∙ sym (append_assoc zeros head (is.bytes ++ is.after)))
    ∙ sym (append_assoc (take at body) (zeros ++ head) (is.bytes ++ is.after)) in
    let front_len : length front ≡ place.data_start =
    omega (
      arith,
      length-append (take at body) (zeros ++ head),
      length-append zeros head,
      length-take-le at body within,
      length-replicate {A = ℕ} is.padding 0,
      is.start_is,
      is.data_is,
    ) in
    let found : slice_at body place.data_start (place.end - place.data_start) ≡ is.bytes =
    middle body front is.bytes is.after place.data_start (place.end - place.data_start) in_order front_len (omega (arith, is.end_is)) in
    let after : drop place.end body ≡ is.after =
    ap (drop place.end) (in_order ∙ sym (append_assoc front is.bytes is.after))
    ∙ drop_at (front ++ is.bytes) is.after place.end (length-append front is.bytes ∙ omega (arith, front_len, is.end_is)) in
    record {
      padding = is.padding;
      is_element = subst (λ (xs : List ℕ). IsElement form (place.id, xs)) (sym found) is.is_element;
      left_is =
          is.left_is
          ∙ ap (λ (xs : List ℕ). zeros ++ (element_bytes form (place.id, xs) ++ is.after)) (sym found)
          ∙ ap (λ (xs : List ℕ). zeros ++ (element_bytes form (place.id, slice_at body place.data_start (place.end - place.data_start)) ++ xs)) (sym after);
      end_is = omega (arith, is.end_is);
    }

pub IsLastElement-place : (form : ExtensionsForm) (body : List ℕ) (id : ℕ) (place : Place) → IsLastPlace (AreElements form) id body place
    → IsLastElement form body id (record (view_of place) { id = id })
IsLastElement-place form body id place is =
    let found : slice_at body place.data_start (place.end - place.data_start) ≡ is.was =
    middle body is.front is.was is.rest place.data_start (place.end - place.data_start) is.bytes_are (sym is.data_is) (omega (arith, is.end_is)) in
    record {
      before = is.before;
      after = is.after;
      id_is = refl;
      are_elements = subst (λ (xs : List ℕ). AreElements form body (is.before ++ (id, xs) ∷ is.after)) (sym found)
          (subst (λ (xs : List ℕ). AreElements form xs (is.before ++ (id, is.was) ∷ is.after)) (sym is.bytes_are) (is.set is.was refl));
      last = is.last;
      end_is = omega (arith, is.end_is);
    }

pub end_after-push : (at : ℕ) (views : List ElementView) (last : ElementView) → end_after at (views ++ last ∷ []) ≡ last.end
end_after-push at [] last = refl
end_after-push at (view ∷ views) last = end_after-push view.end views last

module _ (form : ExtensionsForm) (body : List ℕ) where
  pub AreNextElements-push : (at : ℕ) (views : List ElementView) (last : ElementView) → AreNextElements form body at views → IsNextElement form body (end_after at views) last
      → AreNextElements form body at (views ++ last ∷ [])
  AreNextElements-push at [] last are is = (is, tt)
  AreNextElements-push at (view ∷ views) last are is = (are.0, AreNextElements-push view.end views last are.1 is)

  -- before this index there are the next elements, up to this place, and from it on what was there
  pub record AreNextTo (at : ℕ) (olds news : List ElementView) (index from : ℕ) : Type 0 where
    pub are_next : AreNextElements form body at (take index news)
    pub left : AreLeft olds news index
    pub from_is : from ≡ end_after at (take index news)

  pub AreNextTo-next : (at : ℕ) (olds news : List ElementView) (index from : ℕ) (new : ElementView) → AreNextTo at olds news index from → index < length news
      → IsNextElement form body from new → AreNextTo at olds (set news index new) (index + 1) new.end
  AreNextTo-next at olds news index from new so_far within is =
      let more : take (index + 1) (set news index new) ≡ take index news ++ new ∷ [] = take_more_set news index new within in
      record {
        are_next = subst (AreNextElements form body at) (sym more)
            (AreNextElements-push at (take index news) new so_far.are_next (subst (λ (n : ℕ). IsNextElement form body n new) so_far.from_is is));
        left = AreLeft-next olds news index new so_far.left;
        from_is = sym (ap (end_after at) more ∙ end_after-push at (take index news) new);
      }
