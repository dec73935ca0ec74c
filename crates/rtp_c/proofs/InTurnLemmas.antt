-- Lists whose elements are changed in turn, from the first one on.
use Rattle.rtp_c.proofs.Common.{◌≡◌, ℕ, ◌+◌, ◌-◌, ◌<◌, ◌≤◌, List, [], ◌∷◌, ◌++◌, length, take, drop, get_or, set, refl, sym, ap, ◌∙◌, subst, add-zero, arith, AllZip, take_more, take_more_set, drop-set-lt, drop-drop, get_or-drop, length-drop, AllZip-push, StoredReceiver}
use Rattle.std.proofs.Common.{zero, suc, take_all}
use Rattle.std.specs.List.{All}
use Rattle.std.proofs.ResultArms.{subst_both}
use Rattle.rtp_c.specs.declared.arrivals.Arrival.{Arrival}
use Rattle.rtp_c.specs.Arrivals.{IsReceived, AreReceived}
use Rattle.rtp_route.specs.declared.slots.Slot.{Slot}
use Rattle.rtp_c.specs.declared.routed_headers.RoutedHeader.{RoutedHeader}
use Rattle.rtp_c.specs.RoutedHeaders.{IsHeaderWritten, AreHeadersWritten, AreApart, EndsWithin}

-- from this index on the elements are as they were
abbrev pub AreLeft : {X : Type 0} → List X → List X → ℕ → Type 0
AreLeft olds news index = drop index news ≡ drop index olds

pub AreLeft-next : {X : Type 0} (olds news : List X) (index : ℕ) (new : X) → AreLeft olds news index → AreLeft olds (set news index new) (index + 1)
AreLeft-next olds news index new left =
    drop-set-lt (index + 1) news index new (omega arith) ∙ sym (drop-drop 1 index news) ∙ ap (λ xs. drop 1 xs) left ∙ drop-drop 1 index olds

first_left : {X : Type 0} (xs : List X) (index : ℕ) (d : X) → get_or (drop index xs) 0 d ≡ get_or xs index d
first_left xs index d = get_or-drop index xs 0 d ∙ ap (λ i. get_or xs i d) (add-zero index)

-- the element at the index is as it was
AreLeft-at : {X : Type 0} (olds news : List X) (index : ℕ) (d : X) → AreLeft olds news index → get_or news index d ≡ get_or olds index d
AreLeft-at olds news index d left = sym (first_left news index d) ∙ ap (λ xs. get_or xs 0 d) left ∙ first_left olds index d

AreLeft-within : {X : Type 0} (olds news : List X) (index : ℕ) → AreLeft olds news index → index < length news → index < length olds
AreLeft-within olds news index left within =
    let same : length news - index ≡ length olds - index = sym (length-drop index news) ∙ ap length left ∙ length-drop index olds in omega (arith, same)

AreLeft-past : {X : Type 0} (olds news : List X) (index : ℕ) → AreLeft olds news index → length news ≤ index → length olds ≤ index
AreLeft-past olds news index left past =
    let same : length news - index ≡ length olds - index = sym (length-drop index news) ∙ ap length left ∙ length-drop index olds in omega (arith, same)

-- ---- a relation of each element alone

-- before this index the elements are related to those that were there, and from it on they are these
pub record AreReadTo {X : Type 0} (R : X → X → Type 0) (olds news : List X) (index : ℕ) : Type 0 where
  pub read : AllZip R (take index olds) (take index news)
  pub left : AreLeft olds news index

pub AreReadTo-next : {X : Type 0} (R : X → X → Type 0) (olds news : List X) (index : ℕ) (d new : X) → AreReadTo R olds news index → index < length news
    → R (get_or news index d) new → AreReadTo R olds (set news index new) (index + 1)
AreReadTo-next R olds news index d new so_far within is =
    record {
      read = subst_both (AllZip R) (sym (take_more olds index d (AreLeft-within olds news index so_far.left within))) (sym (take_more_set news index new within))
          (AllZip-push R (take index olds) (take index news) (get_or olds index d) new so_far.read (subst (λ x. R x new) (AreLeft-at olds news index d so_far.left) is));
      left = AreLeft-next olds news index new so_far.left;
    }

-- ---- receivers, which are changed with each arrival

AreReceived-push : (receivers : List StoredReceiver) (olds news : List Arrival) (between : List StoredReceiver) (old new : Arrival) (after : List StoredReceiver)
    → AreReceived receivers olds news between → IsReceived between old new after → AreReceived receivers (olds ++ old ∷ []) (news ++ new ∷ []) after
AreReceived-push receivers [] [] between old new after so_far is = (after, subst (λ r. IsReceived r old new after) so_far is, refl)
AreReceived-push receivers [] (n ∷ ns) between old new after so_far is = absurd so_far
AreReceived-push receivers (o ∷ os) [] between old new after so_far is = absurd so_far
AreReceived-push receivers (o ∷ os) (n ∷ ns) between old new after so_far is = (so_far.0, so_far.1, AreReceived-push so_far.0 os ns between old new after so_far.2 is)

-- before this index the receivers took the sequence numbers or refused them, and the arrivals from it on are as they were
pub record AreReceivedTo (receivers : List StoredReceiver) (olds news : List Arrival) (after : List StoredReceiver) (index : ℕ) : Type 0 where
  pub received : AreReceived receivers (take index olds) (take index news) after
  pub left : AreLeft olds news index

pub AreReceivedTo-next : (receivers : List StoredReceiver) (olds news : List Arrival) (between : List StoredReceiver) (index : ℕ) (d new : Arrival) (after : List StoredReceiver)
    → AreReceivedTo receivers olds news between index → index < length news → IsReceived between (get_or news index d) new after
    → AreReceivedTo receivers olds (set news index new) after (index + 1)
AreReceivedTo-next receivers olds news between index d new after so_far within is =
    record {
      received = subst_both (λ os ns. AreReceived receivers os ns after) (sym (take_more olds index d (AreLeft-within olds news index so_far.left within)))
          (sym (take_more_set news index new within))
          (AreReceived-push receivers (take index olds) (take index news) between (get_or olds index d) new after so_far.received
          (subst (λ old. IsReceived between old new after) (AreLeft-at olds news index d so_far.left) is));
      left = AreLeft-next olds news index new so_far.left;
    }

-- ---- headers, each written into the buffer as the one before it left that, behind it

-- where the last of these ends, of which the first begins at this place
abbrev pub end_of : ℕ → List RoutedHeader → ℕ
end_of at [] = at
end_of at (receiver ∷ receivers) = end_of (at + receiver.len) receivers

end_of-push : (at : ℕ) (receivers : List RoutedHeader) (last : RoutedHeader) → end_of at (receivers ++ last ∷ []) ≡ end_of at receivers + last.len
end_of-push at [] last = refl
end_of-push at (receiver ∷ receivers) last = end_of-push (at + receiver.len) receivers last

end_of-behind : (at : ℕ) (receivers : List RoutedHeader) → at ≤ end_of at receivers
end_of-behind at [] = omega arith
end_of-behind at (receiver ∷ receivers) = omega (arith, end_of-behind (at + receiver.len) receivers)

module _ (header : List ℕ) (slots : List Slot) (bytes : List ℕ) where
  AreHeadersWritten-push : (at : ℕ) (olds news : List RoutedHeader) (buf between : List ℕ) (old new : RoutedHeader) (after : List ℕ)
      → AreHeadersWritten header slots bytes at olds news buf between → IsHeaderWritten header slots bytes (end_of at news) old new between after
      → AreHeadersWritten header slots bytes at (olds ++ old ∷ []) (news ++ new ∷ []) buf after
  AreHeadersWritten-push at [] [] buf between old new after so_far is = (after, subst (λ b. IsHeaderWritten header slots bytes at old new b after) so_far is, refl)
  AreHeadersWritten-push at [] (n ∷ ns) buf between old new after so_far is = absurd so_far
  AreHeadersWritten-push at (o ∷ os) [] buf between old new after so_far is = absurd so_far
  AreHeadersWritten-push at (o ∷ os) (n ∷ ns) buf between old new after so_far is =
      (so_far.0, so_far.1, AreHeadersWritten-push (at + n.len) os ns so_far.0 between old new after so_far.2 is)

  -- none begins before the place of the first
  all-behind : (at : ℕ) (olds news : List RoutedHeader) (buf after : List ℕ) → AreHeadersWritten header slots bytes at olds news buf after → All (λ (r : RoutedHeader). at ≤ r.at) news
  all-behind at olds [] buf after are k d there = absurd (omega (arith, there))
  all-behind at [] (n ∷ ns) buf after are k d there = absurd are
  all-behind at (o ∷ os) (n ∷ ns) buf after are zero d there = let place : n.at ≡ at = ap (λ (r : RoutedHeader). r.at) are.1.given_is in omega (arith, place)
  all-behind at (o ∷ os) (n ∷ ns) buf after are (suc k) d there = omega (arith, all-behind (at + n.len) os ns are.0 after are.2 k d (omega (arith, there)))

  -- no two overlap
  pub are-apart : (at : ℕ) (olds news : List RoutedHeader) (buf after : List ℕ) → AreHeadersWritten header slots bytes at olds news buf after → AreApart news
  are-apart at olds [] buf after are = tt
  are-apart at [] (n ∷ ns) buf after are = absurd are
  are-apart at (o ∷ os) (n ∷ ns) buf after are =
      let place : n.at ≡ at = ap (λ (r : RoutedHeader). r.at) are.1.given_is in (
        λ k d there. omega (arith, place, all-behind (at + n.len) os ns are.0 after are.2 k d there),
        are-apart (at + n.len) os ns are.0 after are.2,
      )

  -- each ends where the last one does, or before
  pub end-within : (at : ℕ) (olds news : List RoutedHeader) (buf after : List ℕ) (size : ℕ) → AreHeadersWritten header slots bytes at olds news buf after → end_of at news ≤ size → All (EndsWithin size) news
  end-within at olds [] buf after size are last k d there = absurd (omega (arith, there))
  end-within at [] (n ∷ ns) buf after size are last k d there = absurd are
  end-within at (o ∷ os) (n ∷ ns) buf after size are last zero d there =
      let place : n.at ≡ at = ap (λ (r : RoutedHeader). r.at) are.1.given_is in omega (arith, place, last, end_of-behind (at + n.len) ns)
  end-within at (o ∷ os) (n ∷ ns) buf after size are last (suc k) d there = end-within (at + n.len) os ns are.0 after size are.2 last k d (omega (arith, there))

  -- before this index the headers are written, up to this place, and the receivers from it on are as they were
  pub record AreHeadersWrittenTo (olds news : List RoutedHeader) (buf after : List ℕ) (index at : ℕ) : Type 0 where
    pub written : AreHeadersWritten header slots bytes 0 (take index olds) (take index news) buf after
    pub left : AreLeft olds news index
    pub place_is : at ≡ end_of 0 (take index news)
    pub within : at ≤ length after

  pub AreHeadersWrittenTo-next : (olds news : List RoutedHeader) (buf between : List ℕ) (index at next : ℕ) (d new : RoutedHeader) (after : List ℕ)
      → AreHeadersWrittenTo olds news buf between index at → index < length news → IsHeaderWritten header slots bytes at (get_or news index d) new between after → next ≡ at + new.len → next ≤ length after
      → AreHeadersWrittenTo olds (set news index new) buf after (index + 1) next
  AreHeadersWrittenTo-next olds news buf between index at next d new after so_far within is next_is room =
      record {
        written = subst_both (λ os ns. AreHeadersWritten header slots bytes 0 os ns buf after) (sym (take_more olds index d (AreLeft-within olds news index so_far.left within)))
            (sym (take_more_set news index new within))
            (AreHeadersWritten-push 0 (take index olds) (take index news) buf between (get_or olds index d) new after so_far.written
            (subst_both (λ place old. IsHeaderWritten header slots bytes place old new between after) so_far.place_is (AreLeft-at olds news index d so_far.left) is));
        left = AreLeft-next olds news index new so_far.left;
        place_is = next_is ∙ ap (λ (n : ℕ). n + new.len) so_far.place_is ∙ sym (end_of-push 0 (take index news) new) ∙ sym (ap (end_of 0) (take_more_set news index new within));
        within = room;
      }

  pub AreHeadersWrittenTo-end : (olds news : List RoutedHeader) (buf after : List ℕ) (index at : ℕ) → AreHeadersWrittenTo olds news buf after index at → length news ≤ index
      → AreHeadersWritten header slots bytes 0 olds news buf after × (end_of 0 news ≤ length after)
  AreHeadersWrittenTo-end olds news buf after index at all past =
      let news_are : take index news ≡ news = take_all index news past in
      let olds_are : take index olds ≡ olds = take_all index olds (AreLeft-past olds news index all.left past) in (
        subst_both (λ os ns. AreHeadersWritten header slots bytes 0 os ns buf after) olds_are news_are all.written,
        (let last : end_of 0 (take index news) ≡ end_of 0 news = ap (end_of 0) news_are in omega (arith, last, all.place_is, all.within)),
      )
