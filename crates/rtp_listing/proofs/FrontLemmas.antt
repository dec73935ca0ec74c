-- The map lines at the front, and the map that they make.
use Rattle.rtp_listing.proofs.Common.{◌≡◌, ℕ, ◌+◌, List, [], ◌∷◌, ◌++◌, refl, sym, ap, ◌∙◌, subst, arith, append_assoc, Bool, true, false, ◌==◌, Option, Some, if◌then◌else◌, find, lines, reverse-append, length_push, eqb-true, eqb-false, Slots, entry_at, unlocked, IsEmpty, Sets, IsMapLine, Item, AreMapLines, IsEntryOf, AreMapped, last_for, IsFront, length, ◌<◌}
use Rattle.rtp_values.specs.declared.kind.Extension.{Extension}
use Rattle.rtp_values.specs.Kind.{IsNamedBy}

-- one more item is the last for its id, and changes nothing for others
mapped_more : (old new : Slots) (items : List Item) (id k : ℕ) (uri : List ℕ) (extension : Extension) → IsNamedBy uri extension → Sets old new id (unlocked extension)
    → IsEntryOf (last_for k items) (entry_at old k) → (here : Bool) → (id == k) ≡ here
    → IsEntryOf (if here then Some (id, uri) else last_for k items) (entry_at new k)
mapped_more old new items id k uri extension named sets before true same =
    (extension, named, ap (entry_at new) (sym (eqb-true id k same)) ∙ sets.this)
mapped_more old new items id k uri extension named sets before false other =
    subst (IsEntryOf (last_for k items)) (sym (sets.others k (λ e. eqb-false id k other (sym e)))) before

last_for-push : (items : List Item) (item : Item) (k : ℕ) → last_for k (items ++ item ∷ []) ≡ (if item.0 == k then Some item else last_for k items)
last_for-push items item k = ap (find (λ (x : Item). x.0 == k)) (reverse-append items (item ∷ []))

AreMapped-more : (old new : Slots) (items : List Item) (id : ℕ) (uri : List ℕ) (extension : Extension) → IsNamedBy uri extension → Sets old new id (unlocked extension)
    → AreMapped items old → AreMapped (items ++ (id, uri) ∷ []) new
AreMapped-more old new items id uri extension named sets before k =
    subst (λ (item : Option Item). IsEntryOf item (entry_at new k)) (sym (last_for-push items (id, uri) k))
    (mapped_more old new items id k uri extension named sets (before k) (id == k) refl)

-- one more map line and its item
AreMapLines-push : (maps : List (List ℕ)) (items : List Item) (line : List ℕ) (item : Item) → AreMapLines maps items → IsMapLine line item.0 item.1
    → AreMapLines (maps ++ line ∷ []) (items ++ item ∷ [])
AreMapLines-push [] [] line item so_far more = (more, tt)
AreMapLines-push [] (i ∷ items) line item so_far more = absurd so_far
AreMapLines-push (l ∷ maps) [] line item so_far more = absurd so_far
AreMapLines-push (l ∷ maps) (i ∷ items) line item so_far more = (so_far.0, AreMapLines-push maps items line item so_far.1 more)

pub IsFront-none : (text : List ℕ) (exts : Slots) → IsEmpty exts → IsFront text exts 0 text
IsFront-none text exts empty = record {
  maps = [];
  items = [];
  in_order = refl;
  are_maps = tt;
  exts_are = empty;
  count_is = refl;
  fits = omega arith;
}

pub IsFront-more : (text rest line after uri : List ℕ) (old new : Slots) (count id : ℕ) (extension : Extension) → IsFront text old count rest → lines rest ≡ line ∷ lines after
    → length after < length rest → IsMapLine line id uri → IsNamedBy uri extension → Sets old new id (unlocked extension) → IsFront text new (count + 1) after
IsFront-more text rest line after uri old new count id extension front first shorter is_map named sets = record {
  maps = front.maps ++ line ∷ [];
  items = front.items ++ (id, uri) ∷ [];
  in_order = front.in_order ∙ ap (λ (ls : List (List ℕ)). front.maps ++ ls) first ∙ sym (append_assoc front.maps (line ∷ []) (lines after));
  are_maps = AreMapLines-push front.maps front.items line (id, uri) front.are_maps is_map;
  exts_are = AreMapped-more old new front.items id uri extension named sets front.exts_are;
  count_is = omega (arith, front.count_is, length_push front.maps line);
  fits = let fits = front.fits in omega arith;
}
