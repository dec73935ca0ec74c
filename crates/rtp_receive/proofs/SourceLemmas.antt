-- Runs of packets of many sources: what one packet more changes, and each source by itself.
use Rattle.std.proofs.Common.{◌≡◌, ◌≢◌, ℕ, Bool, true, false, if◌then◌else◌, eqb, List, [], ◌∷◌, ◌++◌, length, refl, sym, ap, ◌∙◌, subst, arith}
use Rattle.std.specs.Prelude.{Option, Some, None}
use Rattle.std.specs.List.{AllZip}
use Rattle.std.proofs.lemmas.Bool.{eq-eqb, eqb-true, false≢true}
use Rattle.rtp_base.specs.Window.{Numbers, window_size}
use Rattle.rtp_receive.specs.StreamState.{ReceiverState}
use Rattle.rtp_receive.specs.declared.receiver.Verdict.{Verdict}
use Rattle.rtp_receive.specs.Receiver.{Holds, taken_after}
use Rattle.rtp_receive.specs.Receivers.{ReceiverStates, receiver_of, state_of}
use Rattle.rtp_receive.specs.Verdicts.{PacketId, taken_by, IsVerdict, IsRun}
use Rattle.rtp_receive.specs.Sources.{is_from, at_source, taken_of, numbers_beside, AreRuns}
use Rattle.rtp_receive.specs.EachSource.{HoldsEach, taken_after_each}
use Rattle.rtp_receive.proofs.VerdictLemmas.{Holds-same, IsRunBy-more, IsRun-more, taken_by-push}
use Rattle.rtp_receive.proofs.ReceiversLemmas.{same_state}

-- ---- one place more

-- a list with one element more, or without it
abbrev at_more : {A : Type 0} → Bool → List A → A → List A
at_more true xs x = xs ++ x ∷ []
at_more false xs x = xs

last_kept : {A : Type 0} (here : Bool) (x : A) → (if here then x ∷ [] else []) ≡ at_more here [] x
last_kept true x = refl
last_kept false x = refl

more_kept : {A : Type 0} (first here : Bool) (y x : A) (old new : List A) → new ≡ at_more here old x → (if first then y ∷ new else new) ≡ at_more here (if first then y ∷ old else old) x
more_kept true true y x old new is = ap (λ zs. y ∷ zs) is
more_kept true false y x old new is = ap (λ zs. y ∷ zs) is
more_kept false here y x old new is = is

-- what is at the places of a source, with one place more
at_source-push : {A : Type 0} (source : ℕ) (packet_ids : List (Option PacketId)) (xs : List A) (packet_id : Option PacketId) (x : A) → length xs ≡ length packet_ids
    → at_source source (packet_ids ++ packet_id ∷ []) (xs ++ x ∷ []) ≡ at_more (is_from source packet_id) (at_source source packet_ids xs) x
at_source-push source [] [] packet_id x many = last_kept (is_from source packet_id) x
at_source-push source [] (y ∷ xs) packet_id x many = absurd (omega (arith, many))
at_source-push source (r ∷ packet_ids) [] packet_id x many = absurd (omega (arith, many))
at_source-push source (r ∷ packet_ids) (y ∷ xs) packet_id x many =
    more_kept (is_from source r) (is_from source packet_id) y x (at_source source packet_ids xs) (at_source source (packet_ids ++ packet_id ∷ []) (xs ++ x ∷ []))
    (at_source-push source packet_ids xs packet_id x (omega (arith, many)))

-- ---- the receivers after one packet id more

held_at : (count : ℕ) (before after : ReceiverStates) (taken : ℕ → Numbers) (packet_id : PacketId) (verdict : Verdict) (source : ℕ) (here : Bool) → eqb source packet_id.source ≡ here → HoldsEach before count taken
    → after.rollover_count ≡ before.rollover_count → Holds (state_of after packet_id.source) count (taken_after (taken packet_id.source) verdict) → ((other : ℕ) → other ≢ packet_id.source → receiver_of after other ≡ receiver_of before other)
    → Holds (state_of after source) count (if here then taken_after (taken source) verdict else taken source)
held_at count before after taken packet_id verdict source true is holds stays held others =
    subst (λ s. Holds (state_of after s) count (taken_after (taken s) verdict)) (sym (eqb-true source packet_id.source is)) held
held_at count before after taken packet_id verdict source false is holds stays held others =
    subst (λ (state : ReceiverState). Holds state count (taken source))
    (sym (same_state before after source stays (others source (λ same. false≢true (sym is ∙ eq-eqb source packet_id.source same))))) (holds source)

-- what one source's receiver takes is all that changes
pub HoldsEach-after : (count : ℕ) (before after : ReceiverStates) (taken : ℕ → Numbers) (packet_id : PacketId) (verdict : Verdict) → HoldsEach before count taken
    → after.rollover_count ≡ before.rollover_count → Holds (state_of after packet_id.source) count (taken_after (taken packet_id.source) verdict) → ((other : ℕ) → other ≢ packet_id.source → receiver_of after other ≡ receiver_of before other)
    → HoldsEach after count (taken_after_each taken (Some packet_id) verdict)
HoldsEach-after count before after taken packet_id verdict holds stays held others =
    λ source. held_at count before after taken packet_id verdict source (eqb source packet_id.source) refl holds stays held others

-- ---- the run so far

-- the verdicts on the packet ids so far, all together and for each source alone, and what the receivers then hold
pub record SoFarEach (packet_ids : List (Option PacketId)) (verdicts : List Verdict) (receivers : ReceiverStates) : Type 0 where
  pub runs : AreRuns packet_ids verdicts
  pub alone : (source : ℕ) → IsRun 0 (at_source source packet_ids packet_ids) (at_source source packet_ids verdicts)
  pub holds : HoldsEach receivers 0 (taken_of packet_ids verdicts)

pub SoFarEach-none : (receivers : ReceiverStates) → receivers ≡ record { rollover_count = 0; by_source = [] } → SoFarEach [] [] receivers
SoFarEach-none receivers empty =
    subst (λ (rs : ReceiverStates). SoFarEach [] [] rs) (sym empty) (record {
      runs = record { as_many = refl; each = λ i below. absurd (omega arith) };
      alone = λ source. record { as_many = refl; each = λ i below. absurd (omega arith) };
      holds = λ source. (refl, λ n. refl);
    })

-- the verdict on a packet id, by the numbers of its source
beside : (source : ℕ) (taken : ℕ → Numbers) (packet_id : Option PacketId) (verdict : Verdict) → is_from source packet_id ≡ true → IsVerdict 0 (numbers_beside taken packet_id) packet_id verdict
    → IsVerdict 0 (taken source) packet_id verdict
beside source taken None verdict is judged = absurd (false≢true is)
beside source taken (Some packet_id) verdict is judged = subst (λ s. IsVerdict 0 (taken s) (Some packet_id) verdict) (sym (eqb-true source packet_id.source is)) judged

alone_more : (here : Bool) (packet_ids : List (Option PacketId)) (verdicts : List Verdict) (packet_id : Option PacketId) (verdict : Verdict) → IsRun 0 packet_ids verdicts
    → (here ≡ true → IsVerdict 0 (taken_by verdicts) packet_id verdict) → IsRun 0 (at_more here packet_ids packet_id) (at_more here verdicts verdict)
alone_more true packet_ids verdicts packet_id verdict run is = IsRun-more window_size 0 packet_ids verdicts packet_id verdict run (is refl)
alone_more false packet_ids verdicts packet_id verdict run is = run

taken_more : (here : Bool) (verdicts : List Verdict) (verdict : Verdict) (n : ℕ)
    → taken_by (at_more here verdicts verdict) n ≡ (if here then taken_after (taken_by verdicts) verdict else taken_by verdicts) n
taken_more true verdicts verdict n = taken_by-push verdicts verdict n
taken_more false verdicts verdict n = refl

pub SoFarEach-more : (packet_ids : List (Option PacketId)) (packet_id : Option PacketId) (verdicts : List Verdict) (verdict : Verdict) (before after : ReceiverStates) → SoFarEach packet_ids verdicts before
    → IsVerdict 0 (numbers_beside (taken_of packet_ids verdicts) packet_id) packet_id verdict → HoldsEach after 0 (taken_after_each (taken_of packet_ids verdicts) packet_id verdict)
    → SoFarEach (packet_ids ++ packet_id ∷ []) (verdicts ++ verdict ∷ []) after
SoFarEach-more packet_ids packet_id verdicts verdict before after so_far is holds =
    let pushed : (source : ℕ) → at_source source (packet_ids ++ packet_id ∷ []) (verdicts ++ verdict ∷ []) ≡ at_more (is_from source packet_id) (at_source source packet_ids verdicts) verdict =
    λ source. at_source-push source packet_ids verdicts packet_id verdict so_far.runs.as_many in
    record {
      runs = IsRunBy-more window_size 0 (λ r rs vs. numbers_beside (taken_of rs vs) r) packet_ids verdicts packet_id verdict so_far.runs is;
      alone = λ source.
          subst (λ (rs : List (Option PacketId)). IsRun 0 rs (at_source source (packet_ids ++ packet_id ∷ []) (verdicts ++ verdict ∷ []))) (sym (at_source-push source packet_ids packet_ids packet_id packet_id refl))
          (subst (λ (vs : List Verdict). IsRun 0 (at_more (is_from source packet_id) (at_source source packet_ids packet_ids) packet_id) vs) (sym (pushed source))
          (alone_more (is_from source packet_id) (at_source source packet_ids packet_ids) (at_source source packet_ids verdicts) packet_id verdict (so_far.alone source)
          (λ here. beside source (taken_of packet_ids verdicts) packet_id verdict here is)));
      holds = λ source. Holds-same (state_of after source) 0 (taken_after_each (taken_of packet_ids verdicts) packet_id verdict source) (taken_of (packet_ids ++ packet_id ∷ []) (verdicts ++ verdict ∷ []) source)
          (λ n. ap (λ (vs : List Verdict). taken_by vs n) (pushed source) ∙ taken_more (is_from source packet_id) (at_source source packet_ids verdicts) verdict n) (holds source);
    }

-- ---- each source by itself

zip_kept : {A B : Type 0} (R : A → B → Type 0) (here : Bool) (x : A) (y : B) (xs : List A) (ys : List B) → R x y → AllZip R xs ys
    → AllZip R (if here then x ∷ xs else xs) (if here then y ∷ ys else ys)
zip_kept R true x y xs ys one all = (one, all)
zip_kept R false x y xs ys one all = all

-- what relates two lists relates what they have at the places of a source
pub AllZip-at_source : {A B : Type 0} (R : A → B → Type 0) (source : ℕ) (packet_ids : List (Option PacketId)) (xs : List A) (ys : List B) → AllZip R xs ys
    → AllZip R (at_source source packet_ids xs) (at_source source packet_ids ys)
AllZip-at_source R source [] xs ys all = tt
AllZip-at_source R source (r ∷ packet_ids) [] [] all = tt
AllZip-at_source R source (r ∷ packet_ids) [] (y ∷ ys) all = absurd all
AllZip-at_source R source (r ∷ packet_ids) (x ∷ xs) [] all = absurd all
AllZip-at_source R source (r ∷ packet_ids) (x ∷ xs) (y ∷ ys) all =
    zip_kept R (is_from source r) x y (at_source source packet_ids xs) (at_source source packet_ids ys) all.0 (AllZip-at_source R source packet_ids xs ys all.1)
