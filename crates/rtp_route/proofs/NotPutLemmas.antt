-- Elements of which each is put, and the one that isn't.
use Rattle.std.proofs.Common.{◌≡◌, ℕ, ◌<◌, ◌≤◌, ◌⊎◌, inl, inr, List, [], ◌∷◌, ◌++◌, length, take, Option, Result, Ok, Err, IsErr, IfOk, IfErr, ◌↔◌, refl, sym, ap, subst, ◌∙◌, arith}
use Rattle.std.proofs.lemmas.Bool.{false≢true}
use Rattle.rtp_ext.specs.declared.form.ExtensionsForm.{ExtensionsForm}
use Rattle.rtp_ext.specs.Elements.{Element}
use Rattle.rtp_ext.specs.ElementsInPlace.{HasNone}
use Rattle.rtp_wire.specs.declared.packet.fields.Fields.{Fields}
use Rattle.rtp_wire.specs.declared.packet.not_put.NotPut.{NotPut}
use Rattle.rtp_wire.specs.declared.packet.not_put.NotPut.TheVariants.{CutPacket, ZeroId, LongData, NotAPacket, OtherForm, LongId, OneByteOnly, LongBlock, NoRoom}
use Rattle.rtp_wire.specs.Packet.{PacketParts, IsPacket}
use Rattle.rtp_wire.specs.PutIntoPacket.{PutsElement, IsGrowth, AppliesToPacket, AppliesToPut, IsFirstNotPut}
use Rattle.rtp_route.specs.declared.not_routed.NotRouted.{NotRouted}
use Rattle.rtp_route.specs.declared.not_routed.NotRouted.TheVariants.{ManyElements, RepeatedId, LongId as NotRouted-LongId, NotPut as NotRouted-NotPut}
use Rattle.rtp_route.specs.Calls.{ArePut, IsSetAndRenumbered, no_fields}
use Rattle.rtp_route.specs.NotPutAmong.{AppliesInRoom, ArePutInRoom, IsNotPutAmong, HasSameElements}
use Rattle.rtp_route.specs.NotRouted.{KeepsFromNewIds, KeepsFromRouting, AreForTemplate, KeepsFromTemplate}
use Rattle.rtp_route.proofs.SameElementsLemmas.{applies-other, put_all-other}
use Rattle.rtp_route.proofs.StartLemmas.{start-other}

-- what applies hangs on the packet and the room alone
pub applies-same : (one_buf other_buf : List ℕ) (one_len other_len : ℕ) (element : Element) (allowed : Option ExtensionsForm) (cause : NotPut) → take one_len one_buf ≡ take other_len other_buf
    → length one_buf ≡ length other_buf → one_len ≤ length one_buf → AppliesToPut one_buf one_len element allowed cause → AppliesToPut other_buf other_len element allowed cause
applies-same one_buf other_buf one_len other_len element allowed CutPacket same room within fact = absurd (omega (arith, within, fact))
applies-same one_buf other_buf one_len other_len element allowed ZeroId same room within fact = fact
applies-same one_buf other_buf one_len other_len element allowed LongData same room within fact = fact
applies-same one_buf other_buf one_len other_len element allowed (NotAPacket cause) same room within fact = subst (λ (b : List ℕ). AppliesToPacket b element allowed (NotAPacket cause)) same fact
applies-same one_buf other_buf one_len other_len element allowed OtherForm same room within fact = subst (λ (b : List ℕ). AppliesToPacket b element allowed OtherForm) same fact
applies-same one_buf other_buf one_len other_len element allowed LongId same room within fact = fact
applies-same one_buf other_buf one_len other_len element allowed OneByteOnly same room within fact = subst (λ (b : List ℕ). AppliesToPacket b element allowed OneByteOnly) same fact
applies-same one_buf other_buf one_len other_len element allowed LongBlock same room within fact = subst (λ (b : List ℕ). AppliesToPacket b element allowed LongBlock) same fact
applies-same one_buf other_buf one_len other_len element allowed (NoRoom needed) same room within fact =
    subst (λ (b : List ℕ). (growth : IsGrowth b element allowed) × (needed ≡ growth.len) × (length other_buf < needed)) same
    (subst (λ (k : ℕ). (growth : IsGrowth (take one_len one_buf) element allowed) × (needed ≡ growth.len) × (k < needed)) room fact)

-- in this buffer
pub applies-here : (buf : List ℕ) (len room : ℕ) (element : Element) (allowed : Option ExtensionsForm) (cause : NotPut) → length buf ≡ room → AppliesInRoom room (take len buf) element allowed cause
    → AppliesToPut buf len element allowed cause
applies-here buf len room element allowed cause long is =
    applies-same is.0 buf is.1 len element allowed cause is.4 (is.2 ∙ sym long) (subst (λ (k : ℕ). is.1 ≤ k) (sym is.2) is.3) is.5

pub first-here : (buf : List ℕ) (len room : ℕ) (element : Element) (allowed : Option ExtensionsForm) (cause : NotPut) → length buf ≡ room → len ≤ room
    → IsFirstNotPut (AppliesToPut buf len element allowed) cause → IsFirstNotPut (AppliesInRoom room (take len buf) element allowed) cause
first-here buf len room element allowed cause long within is = record {
  applies = (buf, len, long, within, refl, is.applies);
  none_before = λ earlier lower fact. is.none_before earlier lower (applies-here buf len room element allowed earlier long fact);
}

pub ArePutInRoom-puts : (news : List Element) (allowed : Option ExtensionsForm) (room : ℕ) (old new : List ℕ) → ArePutInRoom room old news allowed new → ArePut old news allowed new
ArePutInRoom-puts [] allowed room old new are = are
ArePutInRoom-puts (first ∷ news) allowed room old new are = (are.0, are.1, are.2, ArePutInRoom-puts news allowed room (take are.1 are.0) new are.4)

pub ArePutInRoom-more : (news : List Element) (new : Element) (allowed : Option ExtensionsForm) (room : ℕ) (old middle buf : List ℕ) (len : ℕ) → ArePutInRoom room old news allowed middle
    → PutsElement middle new allowed buf len → ((cause : NotPut) → AppliesInRoom room middle new allowed cause → ⊥) → ArePutInRoom room old (news ++ new ∷ []) allowed (take len buf)
ArePutInRoom-more [] new allowed room old middle buf len are puts none =
    (buf, len, subst (λ (m : List ℕ). PutsElement m new allowed buf len) are puts, subst (λ (m : List ℕ). (cause : NotPut) → AppliesInRoom room m new allowed cause → ⊥) are none, refl)
ArePutInRoom-more (first ∷ news) new allowed room old middle buf len are puts none =
    (are.0, are.1, are.2, are.3, ArePutInRoom-more news new allowed room (take are.1 are.0) middle buf len are.4 puts none)

-- what they are put into is a packet, and it still is one
pub ArePut-packet : (news : List Element) (allowed : Option ExtensionsForm) (old new : List ℕ) (parts : PacketParts) → IsPacket old parts → ArePut old news allowed new
    → (now : PacketParts) × IsPacket new now
ArePut-packet [] allowed old new parts is are = (parts, subst (λ (b : List ℕ). IsPacket b parts) (sym are) is)
ArePut-packet (first ∷ news) allowed old new parts is are = ArePut-packet news allowed (take are.1 are.0) new _ are.2.is_packet are.3

-- one of the elements of a list, and of one that has another behind it
split-last : (before : List Element) (element : Element) (after xs : List Element) (x : Element) → xs ++ x ∷ [] ≡ before ++ element ∷ after
    → ((before ≡ xs) × (element ≡ x)) ⊎ ((rest : List Element) × (xs ≡ before ++ element ∷ rest))
split-last [] element after [] x same = let here : element ≡ x = cc in inl (refl, here)
split-last [] element after (y ∷ ys) x same = let here : y ≡ element = cc in inr (ys, ap (λ (e : Element). e ∷ ys) here)
split-last (b ∷ []) element after [] x same = absurd cc
split-last (b ∷ c ∷ before) element after [] x same = absurd cc
split-last (b ∷ before) element after (y ∷ ys) x same =
    let here : y ≡ b = cc in
    let rest : ys ++ x ∷ [] ≡ before ++ element ∷ after = cc in
    behind here (split-last before element after ys x rest)
  where
    behind : y ≡ b → ((before ≡ ys) × (element ≡ x)) ⊎ ((more : List Element) × (ys ≡ before ++ element ∷ more))
        → ((b ∷ before ≡ y ∷ ys) × (element ≡ x)) ⊎ ((more : List Element) × (y ∷ ys ≡ b ∷ before ++ element ∷ more))
    behind here (inl is) = inl (ap (λ (es : List Element). b ∷ es) is.0 ∙ ap (λ (e : Element). e ∷ ys) (sym here), is.1)
    behind here (inr is) = inr (is.0, ap (λ (e : Element). e ∷ ys) here ∙ ap (λ (es : List Element). b ∷ es) is.1)

-- where none was refused, and the next isn't
pub none-refused : (start now : List ℕ) (news : List Element) (new : Element) (allowed : Option ExtensionsForm) (buf : List ℕ) (len room : ℕ) (cause : NotPut) → HasSameElements start now
    → ArePut now news allowed (take len buf) → length buf ≡ room → ((other : NotPut) → IsNotPutAmong start news allowed room other → ⊥)
    → ((other : NotPut) → AppliesToPut buf len new allowed other → ⊥) → IsNotPutAmong start (news ++ new ∷ []) allowed room cause → ⊥
none-refused start now news new allowed buf len room cause same are long none put is = by_place (split-last is.before is.element is.after news new is.in_order)
  where
    by_place : ((is.before ≡ news) × (is.element ≡ new)) ⊎ ((rest : List Element) × (news ≡ is.before ++ is.element ∷ rest)) → ⊥
    by_place (inl last) =
        let fact : AppliesInRoom room is.packet new allowed cause = subst (λ (e : Element). AppliesInRoom room is.packet e allowed cause) last.1 is.cause_is.applies in
        let there : ArePut start news allowed is.packet = subst (λ (es : List Element). ArePut start es allowed is.packet) last.0 (ArePutInRoom-puts is.before allowed room start is.packet is.are_put) in
        put cause (applies-other fact.0 buf fact.1 len new allowed cause
        (subst (λ (b : List ℕ). HasSameElements b (take len buf)) (sym fact.4) (put_all-other news allowed start now is.packet (take len buf) same there are)) (fact.2 ∙ sym long)
        (subst (λ (k : ℕ). fact.1 ≤ k) (sym fact.2) fact.3) fact.5)
    by_place (inr earlier) = none cause (record {
      before = is.before;
      element = is.element;
      after = earlier.0;
      in_order = earlier.1;
      packet = is.packet;
      are_put = is.are_put;
      cause_is = is.cause_is;
    })

-- these are put in such a buffer, and none of them is refused
pub record ArePutTo (allowed : Option ExtensionsForm) (elements : List Element) (room : ℕ) (start buf : List ℕ) (len : ℕ) : Type 0 where
  pub are_put : ArePutInRoom room start elements allowed (take len buf)
  pub no_zero : HasNone elements 0
  pub none_refused : (packet : List ℕ) (cause : NotPut) → HasSameElements packet start → IsNotPutAmong packet elements allowed room cause → ⊥
  pub within : len ≤ length buf
  pub same_length : length buf ≡ room

-- of no elements none is refused
pub no_elements : (old : List ℕ) (allowed : Option ExtensionsForm) (room : ℕ) (cause : NotPut) → IsNotPutAmong old [] allowed room cause → ⊥
no_elements old allowed room cause is = by_first is.before is.in_order
  where
    by_first : (before : List Element) → [] ≡ before ++ is.element ∷ is.after → ⊥
    by_first [] same = cc
    by_first (first ∷ before) same = cc

-- ---- the whole

-- nothing keeps from routing what wasn't refused
pub none-kept : (old : List ℕ) (fields : Fields) (ids : ℕ → Option ℕ) (news : List Element) (allowed : Option ExtensionsForm) (room : ℕ) (start : List ℕ) → length old ≤ room
    → IsSetAndRenumbered old fields ids allowed start → ((cause : NotRouted) → KeepsFromNewIds old ids allowed room cause → ⊥)
    → ((packet : List ℕ) (cause : NotPut) → HasSameElements packet start → IsNotPutAmong packet news allowed room cause → ⊥)
    → (cause : NotRouted) → KeepsFromRouting old fields ids news allowed room cause → ⊥
none-kept old fields ids news allowed room start within is carried put ManyElements kept = kept
none-kept old fields ids news allowed room start within is carried put RepeatedId kept = kept
none-kept old fields ids news allowed room start within is carried put NotRouted-LongId kept = carried NotRouted-LongId kept.1
none-kept old fields ids news allowed room start within is carried put (NotRouted-NotPut cause) (inl none) = omega (arith, within, none.1)
none-kept old fields ids news allowed room start within is carried put (NotRouted-NotPut cause) (inr (inl kept)) = carried (NotRouted-NotPut cause) kept.1
none-kept old fields ids news allowed room start within is carried put (NotRouted-NotPut cause) (inr (inr kept)) =
    put kept.0 cause (start-other old fields ids allowed kept.0 start kept.2 is) kept.3

-- what keeps from the new ids keeps from routing
pub ids-kept : (old : List ℕ) (fields : Fields) (ids : ℕ → Option ℕ) (news : List Element) (allowed : Option ExtensionsForm) (room : ℕ) → length old ≤ room → (cause : NotRouted)
    → KeepsFromNewIds old ids allowed room cause → KeepsFromRouting old fields ids news allowed room cause
ids-kept old fields ids news allowed room within ManyElements kept = kept
ids-kept old fields ids news allowed room within RepeatedId kept = kept
ids-kept old fields ids news allowed room within NotRouted-LongId kept = (within, kept)
ids-kept old fields ids news allowed room within (NotRouted-NotPut cause) kept = inr (inl (within, kept))

-- the same of a template, of elements that are few enough and have ids of their own
pub kept-template : (old : List ℕ) (ids : ℕ → Option ℕ) (news : List Element) (allowed : Option ExtensionsForm) (room : ℕ) → AreForTemplate news → (cause : NotRouted)
    → KeepsFromRouting old no_fields ids news allowed room cause → KeepsFromTemplate old ids news allowed room cause
kept-template old ids news allowed room for ManyElements kept = absurd kept
kept-template old ids news allowed room for RepeatedId kept = absurd kept
kept-template old ids news allowed room for NotRouted-LongId kept = (for, kept)
kept-template old ids news allowed room for (NotRouted-NotPut cause) kept = (for, kept)

none-kept_template : (old : List ℕ) (ids : ℕ → Option ℕ) (news : List Element) (allowed : Option ExtensionsForm) (room : ℕ) → AreForTemplate news
    → ((cause : NotRouted) → KeepsFromRouting old no_fields ids news allowed room cause → ⊥) → (cause : NotRouted) → KeepsFromTemplate old ids news allowed room cause → ⊥
none-kept_template old ids news allowed room for none ManyElements kept = omega (arith, kept, for.0)
none-kept_template old ids news allowed room for none RepeatedId kept = kept.1 for.1
none-kept_template old ids news allowed room for none NotRouted-LongId kept = none NotRouted-LongId kept.1
none-kept_template old ids news allowed room for none (NotRouted-NotPut cause) kept = none (NotRouted-NotPut cause) kept.1

-- where a cause applies to what is refused, and none to what isn't, it is refused exactly where one applies
pub refused-exactly : {A E : Type 0} (result : Result A E) (P : E → Type 0) → IfErr result P → IfOk result (λ _. (e : E) → P e → ⊥) → IsErr result ↔ ((e : E) × P e)
refused-exactly (Ok a) P kept none = (λ wrong. absurd (false≢true wrong), λ fact. absurd (none fact.0 fact.1))
refused-exactly (Err e) P kept none = (λ _. (e, kept), λ _. refl)

pub refused-template : {A : Type 0} (result : Result A NotRouted) (old : List ℕ) (ids : ℕ → Option ℕ) (news : List Element) (allowed : Option ExtensionsForm) (room : ℕ) → AreForTemplate news
    → IfErr result (KeepsFromRouting old no_fields ids news allowed room) → IfOk result (λ _. (cause : NotRouted) → KeepsFromRouting old no_fields ids news allowed room cause → ⊥)
    → IsErr result ↔ ((cause : NotRouted) × KeepsFromTemplate old ids news allowed room cause)
refused-template (Ok a) old ids news allowed room for kept none = (λ wrong. absurd (false≢true wrong), λ fact. absurd (none-kept_template old ids news allowed room for none fact.0 fact.1))
refused-template (Err e) old ids news allowed room for kept none = (λ _. (e, kept-template old ids news allowed room for e kept), λ _. refl)
