-- The places of a template as C keeps them.
use Rattle.rtp_c.proofs.Common.{ℤ, w32, to_z, of_z, FitsSigned, to_z-of_z, inl, inr, get_or_past, cases_lt}
use Rattle.std.proofs.Common.{replicate, get_or-set_other, ◌≢◌, Option, Some, ◌≡◌, ℕ, zero, suc, ◌+◌, ◌<◌, ◌≤◌, slice_get, length-take, List, [], ◌∷◌, ◌++◌, length, take, get_or, set, refl, sym, ap, subst, ◌∙◌, arith}
use Rattle.std.proofs.lemmas.List.{take_more, take_more_set, get_or-take, get_or-replicate, length-replicate}
use Rattle.std.proofs.lemmas.Option.{slice_get-get_or}
use Rattle.rtp_route.specs.declared.slots.Slot.{Slot}
use Rattle.rtp_ext.specs.declared.form.ExtensionsForm.{ExtensionsForm}
use Rattle.rtp_ext.specs.Elements.{Element}
use Rattle.rtp_ext.specs.NewIds.{new_id}
use Rattle.rtp_route.specs.declared.not_routed.NotRouted.{NotRouted}
use Rattle.rtp_route.specs.declared.not_routed.NotRouted.TheVariants.{ManyElements, RepeatedId, LongId, NotPut}
use Rattle.rtp_route.specs.Calls as calls
use Rattle.rtp_route.specs.GroupHeader.{IsGroupHeader}
use Rattle.rtp_route.specs.NotRouted.{KeepsFromTemplate}
use Rattle.rtp_wire.specs.declared.packet.rtp_packet.RtpPacket.{RtpPacket}
use Rattle.rtp_wire.specs.Packet.{PacketParts, header_len_of}
use Rattle.rtp_wire.specs.PartsOf.{parts_of, datagram_of}
use Rattle.rtp_c.specs.RoutedStatus.{not_routed_status}
use Rattle.rtp_c.specs.Status.{ok}
use Rattle.rtp_c.specs.StoredTemplate.{slots_at, AreZeros}
use Rattle.rtp_c.proofs.PutLemmas.{put_status≢ok}

pub slots_at-length : (starts lens : List ℕ) → length starts ≡ length lens → length (slots_at starts lens) ≡ length starts
slots_at-length [] lens same = refl
slots_at-length (start ∷ starts) [] same = absurd (omega (arith, same))
slots_at-length (start ∷ starts) (len ∷ lens) same = omega (arith, slots_at-length starts lens (omega (arith, same)))

pub slots_at-set : (starts lens : List ℕ) (index start len : ℕ) → length starts ≡ length lens
    → slots_at (set starts index start) (set lens index len) ≡ set (slots_at starts lens) index (record { start = start; len = len })
slots_at-set [] [] index start len same = refl
slots_at-set [] (l ∷ lens) index start len same = absurd (omega (arith, same))
slots_at-set (s ∷ starts) [] index start len same = absurd (omega (arith, same))
slots_at-set (s ∷ starts) (l ∷ lens) zero start len same = refl
slots_at-set (s ∷ starts) (l ∷ lens) (suc index) start len same =
    ap (λ (slots : List Slot). record { start = s; len = l } ∷ slots) (slots_at-set starts lens index start len (omega (arith, same)))

pub slots_at-get : (starts lens : List ℕ) (index : ℕ) (d : Slot) → length starts ≡ length lens → index < length starts
    → get_or (slots_at starts lens) index d ≡ record { start = get_or starts index 0; len = get_or lens index 0 }
slots_at-get [] lens index d same within = absurd (omega (arith, within))
slots_at-get (s ∷ starts) [] index d same within = absurd (omega (arith, same))
slots_at-get (s ∷ starts) (l ∷ lens) zero d same within = refl
slots_at-get (s ∷ starts) (l ∷ lens) (suc index) d same within = slots_at-get starts lens index d (omega (arith, same)) (omega (arith, within))

-- as many places as are stored, and each where it is
pub count-of : (starts lens : List ℕ) (count : ℕ) → length starts ≡ length lens → count ≤ length starts → length (take count (slots_at starts lens)) ≡ count
count-of starts lens count same few = omega (arith, length-take count (slots_at starts lens), slots_at-length starts lens same, few)

pub place-at : (starts lens : List ℕ) (count index : ℕ) → length starts ≡ length lens → count ≤ length starts → index < count
    → slice_get (take count (slots_at starts lens)) index ≡ Some (record { start = get_or starts index 0; len = get_or lens index 0 })
place-at starts lens count index same few there =
    let d : Slot = record { start = 0; len = 0 } in
    slice_get-get_or (take count (slots_at starts lens)) index d (omega (arith, count-of starts lens count same few, there))
    ∙ ap Some (get_or-take count (slots_at starts lens) index d there ∙ slots_at-get starts lens index d same (omega (arith, few, there)))

-- one place more is stored
pub stored-more : (slots : List Slot) (starts lens : List ℕ) (index : ℕ) (d : Slot) → length starts ≡ length lens → index < length starts → index < length slots
    → take index (slots_at starts lens) ≡ take index slots
    → take (index + 1) (slots_at (set starts index (get_or slots index d).start) (set lens index (get_or slots index d).len)) ≡ take (index + 1) slots
stored-more slots starts lens index d same within there so_far =
    ap (take (index + 1)) (slots_at-set starts lens index (get_or slots index d).start (get_or slots index d).len same)
    ∙ take_more_set (slots_at starts lens) index (get_or slots index d) (omega (arith, within, slots_at-length starts lens same))
    ∙ ap (λ (ss : List Slot). ss ++ get_or slots index d ∷ []) so_far
    ∙ sym (take_more slots index d there)

-- ---- zeros behind the last place

abbrev pub zeros : ℕ → List ℕ
zeros n = replicate n 0

pub zeros-alone : (n k : ℕ) → get_or (zeros n) k 0 ≡ 0
zeros-alone n k = elim (cases_lt k n) [
  | inl here ↦ get_or-replicate {A = ℕ} n k 0 0 here
  | inr past ↦ get_or_past (zeros n) k 0 (let long : length (zeros n) ≡ n = length-replicate {A = ℕ} n 0 in omega (arith, long, past))
]

pub zeros-behind : (xs : List ℕ) (index x : ℕ) → AreZeros xs index → AreZeros (set xs index x) (index + 1)
zeros-behind xs index x zeros k past = let other : k ≢ index = omega arith in get_or-set_other xs index k x 0 other ∙ zeros k (omega (arith, past))

-- ---- what is made for a group

pub group-of : (old was : List ℕ) (ids were : List (Option ℕ)) (news given : List Element) (form allowed : Option ExtensionsForm) (len n : ℕ) (buf : List ℕ) (slots places : List Slot)
    → was ≡ old → were ≡ ids → given ≡ news → allowed ≡ form → n ≡ len → places ≡ slots
    → IsGroupHeader was (new_id were) given allowed (take n buf) places → IsGroupHeader old (new_id ids) news form (take len buf) slots
group-of old was ids were news given form allowed len n buf slots places old_is ids_are news_are form_is len_is slots_are is =
    subst (λ (b : List ℕ). IsGroupHeader b (new_id ids) news form (take len buf) slots) old_is
    (subst (λ (t : List (Option ℕ)). IsGroupHeader was (new_id t) news form (take len buf) slots) ids_are
    (subst (λ (es : List Element). IsGroupHeader was (new_id were) es form (take len buf) slots) news_are
    (subst (λ (f : Option ExtensionsForm). IsGroupHeader was (new_id were) given f (take len buf) slots) form_is
    (subst (λ (k : ℕ). IsGroupHeader was (new_id were) given allowed (take k buf) slots) len_is
    (subst (λ (ss : List Slot). IsGroupHeader was (new_id were) given allowed (take n buf) ss) slots_are is)))))

-- the status of a cause, which isn't that of success
pub not_routed-is : (result : ℤ) (cause : NotRouted) → FitsSigned w32 result → result ≡ not_routed_status cause → to_z w32 (of_z w32 result) ≡ not_routed_status cause
not_routed-is result cause fits is = to_z-of_z w32 result fits ∙ is

pub not_routed≢ok : (result : ℤ) (cause : NotRouted) → FitsSigned w32 result → result ≡ not_routed_status cause → to_z w32 (of_z w32 result) ≡ ok → ⊥
not_routed≢ok result cause fits is is_ok = never cause (sym (not_routed-is result cause fits is) ∙ is_ok)
  where
    never : (cause : NotRouted) → not_routed_status cause ≡ ok → ⊥
    never ManyElements same = cc
    never RepeatedId same = cc
    never LongId same = cc
    never (NotPut cause) same = put_status≢ok cause same

-- what keeps a packet's header from a group
pub kept-of : (old was : List ℕ) (ids were : List (Option ℕ)) (news given : List Element) (form allowed : Option ExtensionsForm) (room : ℕ) (cause : NotRouted)
    → was ≡ old → were ≡ ids → given ≡ news → allowed ≡ form → KeepsFromTemplate was (new_id were) given allowed room cause → KeepsFromTemplate old (new_id ids) news form room cause
kept-of old was ids were news given form allowed room cause old_is ids_are news_are form_is kept =
    subst (λ (b : List ℕ). KeepsFromTemplate b (new_id ids) news form room cause) old_is
    (subst (λ (t : List (Option ℕ)). KeepsFromTemplate was (new_id t) news form room cause) ids_are
    (subst (λ (es : List Element). KeepsFromTemplate was (new_id were) es form room cause) news_are
    (subst (λ (f : Option ExtensionsForm). KeepsFromTemplate was (new_id were) given f room cause) form_is kept)))

pub header-of : (packet : RtpPacket) (bytes : List ℕ) (parts : PacketParts) → datagram_of packet ≡ bytes → parts_of packet ≡ parts → calls.header_in packet ≡ take (header_len_of parts) bytes
header-of packet bytes parts bytes_are parts_are =
    ap (λ (p : PacketParts). take (header_len_of p) (datagram_of packet)) parts_are ∙ ap (take (header_len_of parts)) bytes_are
