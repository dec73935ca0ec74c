-- Runs of packets: one verdict more, and that a number is taken once.
use Rattle.std.proofs.Common.{◌≡◌, ℕ, zero, suc, ◌+◌, ◌<◌, Bool, true, false, ◌||◌, eqb, List, [], ◌∷◌, ◌++◌, length, take, get_or, refl, sym, ap, ◌∙◌, subst, inl, inr, arith, length-take-le}
use Rattle.std.specs.Prelude.{Option, Some, None}
use Rattle.std.proofs.lemmas.Bool.{eq-eqb, cases_lt, false≢true, or_left, or_right}
use Rattle.std.proofs.lemmas.List.{take-append-le, take_at, get_or_append_left, get_or_at, length_push, get_or-take}
use Rattle.rtp_base.specs.Window.{Numbers, window_size}
use Rattle.rtp_receive.specs.StreamState.{ReceiverState}
use Rattle.rtp_receive.specs.declared.receiver.ReceiverState.TheVariants.{Start, Window}
use Rattle.rtp_receive.specs.declared.receiver.Verdict.{Verdict}
use Rattle.rtp_receive.specs.declared.receiver.Verdict.TheVariants.{Unreadable, Taken, Refused}
use Rattle.rtp_receive.specs.Receiver.{Holds, IsFresh, taken_after}
use Rattle.rtp_receive.specs.Verdicts.{PacketId, taken_by, IsVerdict, IsVerdictOf, IsRunBy, IsRun, IsRunOf, TakesOnce}

-- ---- one verdict more

pub or_assoc : (a b c : Bool) → (a || (b || c)) ≡ ((a || b) || c)
or_assoc true b c = refl
or_assoc false b c = refl

pub or_false : (a : Bool) → (a || false) ≡ a
or_false true = refl
or_false false = refl

pub taken_by-push : (verdicts : List Verdict) (verdict : Verdict) (n : ℕ) → taken_by (verdicts ++ verdict ∷ []) n ≡ taken_after (taken_by verdicts) verdict n
taken_by-push [] (Taken t) n = or_false (eqb n t)
taken_by-push [] Refused n = refl
taken_by-push [] Unreadable n = refl
taken_by-push (Taken s ∷ vs) (Taken t) n = ap (λ (b : Bool). eqb n s || b) (taken_by-push vs (Taken t) n) ∙ or_assoc (eqb n s) (taken_by vs n) (eqb n t)
taken_by-push (Taken s ∷ vs) Refused n = ap (λ (b : Bool). eqb n s || b) (taken_by-push vs Refused n)
taken_by-push (Taken s ∷ vs) Unreadable n = ap (λ (b : Bool). eqb n s || b) (taken_by-push vs Unreadable n)
taken_by-push (Refused ∷ vs) (Taken t) n = taken_by-push vs (Taken t) n
taken_by-push (Refused ∷ vs) Refused n = taken_by-push vs Refused n
taken_by-push (Refused ∷ vs) Unreadable n = taken_by-push vs Unreadable n
taken_by-push (Unreadable ∷ vs) (Taken t) n = taken_by-push vs (Taken t) n
taken_by-push (Unreadable ∷ vs) Refused n = taken_by-push vs Refused n
taken_by-push (Unreadable ∷ vs) Unreadable n = taken_by-push vs Unreadable n

-- a receiver holds a set that is the same number by number
pub Holds-same : (receiver : ReceiverState) (count : ℕ) (a b : Numbers) → ((n : ℕ) → b n ≡ a n) → Holds receiver count a → Holds receiver count b
Holds-same (Start start) count a b same holds = (holds.0, λ n. same n ∙ holds.1 n)
Holds-same (Window window) count a b same keeps = record {
  top = record { member = same window.greatest ∙ keeps.top.member; top = λ n is. keeps.top.top n (sym (same n) ∙ is) };
  recorded = λ n low near. keeps.recorded n low near ∙ sym (same n);
}

-- a verdict, at equal packet ids and verdicts
IsVerdict-same : (size count : ℕ) (before : Option PacketId → List (Option PacketId) → List Verdict → Numbers) (r s : Option PacketId) (rs ss : List (Option PacketId)) (vs ws : List Verdict) (v w : Verdict)
    → r ≡ s → rs ≡ ss → vs ≡ ws → v ≡ w → IsVerdictOf size count (before s ss ws) s w → IsVerdictOf size count (before r rs vs) r v
IsVerdict-same size count before r s rs ss vs ws v w packet_id packet_ids verdicts verdict is =
    subst (λ (x : Option PacketId). IsVerdictOf size count (before x rs vs) x v) (sym packet_id)
    (subst (λ (xs : List (Option PacketId)). IsVerdictOf size count (before s xs vs) s v) (sym packet_ids)
    (subst (λ (xs : List Verdict). IsVerdictOf size count (before s ss xs) s v) (sym verdicts) (subst (IsVerdictOf size count (before s ss ws) s) (sym verdict) is)))

-- a run with one packet id more
pub IsRunBy-more : (size count : ℕ) (before : Option PacketId → List (Option PacketId) → List Verdict → Numbers) (packet_ids : List (Option PacketId)) (verdicts : List Verdict) (packet_id : Option PacketId) (verdict : Verdict)
    → IsRunBy size count before packet_ids verdicts → IsVerdictOf size count (before packet_id packet_ids verdicts) packet_id verdict → IsRunBy size count before (packet_ids ++ packet_id ∷ []) (verdicts ++ verdict ∷ [])
IsRunBy-more size count before packet_ids verdicts packet_id verdict run is =
    let many = length_push packet_ids packet_id in
    record {
      as_many = length_push verdicts verdict ∙ ap (λ (k : ℕ). k + 1) run.as_many ∙ sym many;
      each = λ i below. elim (cases_lt i (length packet_ids)) [
        | inl old ↦
            let within : i < length verdicts = omega (arith, run.as_many) in
            IsVerdict-same size count before _ _ _ _ _ _ _ _ (get_or_append_left packet_ids (packet_id ∷ []) None i old) (take-append-le i packet_ids (packet_id ∷ []) (omega arith))
            (take-append-le i verdicts (verdict ∷ []) (omega arith)) (get_or_append_left verdicts (verdict ∷ []) Unreadable i within) (run.each i old)
        | inr new ↦
            let here : length packet_ids ≡ i = omega (arith, many) in
            let len : length verdicts ≡ i = run.as_many ∙ here in
            IsVerdict-same size count before _ _ _ _ _ _ _ _ (get_or_at packet_ids packet_id [] None i here) (take_at packet_ids (packet_id ∷ []) i here)
            (take_at verdicts (verdict ∷ []) i len) (get_or_at verdicts verdict [] Unreadable i len) is
      ];
    }

pub IsRun-more : (size count : ℕ) (packet_ids : List (Option PacketId)) (verdicts : List Verdict) (packet_id : Option PacketId) (verdict : Verdict) → IsRunOf size count packet_ids verdicts
    → IsVerdictOf size count (taken_by verdicts) packet_id verdict → IsRunOf size count (packet_ids ++ packet_id ∷ []) (verdicts ++ verdict ∷ [])
IsRun-more size count = IsRunBy-more size count (λ packet_id earlier taken. taken_by taken)

-- the verdicts on the packet ids so far, and what the receiver then holds
pub record SoFar (packet_ids : List (Option PacketId)) (verdicts : List Verdict) (receiver : ReceiverState) : Type 0 where
  pub run : IsRun 0 packet_ids verdicts
  pub holds : Holds receiver 0 (taken_by verdicts)

pub SoFar-none : (receiver : ReceiverState) → Holds receiver 0 (taken_by []) → SoFar [] [] receiver
SoFar-none receiver holds = record { run = record { as_many = refl; each = λ i below. absurd (omega arith) }; holds = holds }

pub SoFar-more : (packet_ids : List (Option PacketId)) (verdicts : List Verdict) (before after : ReceiverState) (packet_id : Option PacketId) (verdict : Verdict) → SoFar packet_ids verdicts before
    → IsVerdict 0 (taken_by verdicts) packet_id verdict → Holds after 0 (taken_after (taken_by verdicts) verdict) → SoFar (packet_ids ++ packet_id ∷ []) (verdicts ++ verdict ∷ []) after
SoFar-more packet_ids verdicts before after packet_id verdict so_far is holds = record {
  run = IsRun-more window_size 0 packet_ids verdicts packet_id verdict so_far.run is;
  holds = Holds-same after 0 (taken_after (taken_by verdicts) verdict) (taken_by (verdicts ++ verdict ∷ [])) (taken_by-push verdicts verdict) holds;
}

-- ---- no number is taken twice

taken_by-at : (verdicts : List Verdict) (i n : ℕ) → i < length verdicts → get_or verdicts i Unreadable ≡ Taken n → taken_by verdicts n ≡ true
taken_by-at [] i n below is = absurd (omega arith)
taken_by-at (v ∷ vs) zero n below is = ap (λ (w : Verdict). taken_by (w ∷ vs) n) is ∙ or_left (eqb n n) (taken_by vs n) (eq-eqb n n refl)
taken_by-at (Taken t ∷ vs) (suc i) n below is = or_right (eqb n t) (taken_by vs n) (taken_by-at vs i n (omega arith) is)
taken_by-at (Refused ∷ vs) (suc i) n below is = taken_by-at vs i n (omega arith) is
taken_by-at (Unreadable ∷ vs) (suc i) n below is = taken_by-at vs i n (omega arith) is

-- a number that is taken is not fresh
not_fresh : (taken : Numbers) (number : ℕ) → taken number ≡ true → IsFresh taken number → ⊥
not_fresh taken number is (inl none) = false≢true (sym (none number) ∙ is)
not_fresh taken number is (inr accepted) = elim accepted.above_or_new [
  | inl above ↦ let top = accepted.is_greatest.top number is in absurd (omega arith)
  | inr new ↦ false≢true (sym new.1 ∙ is)
]

taken_once : (count : ℕ) (taken : Numbers) (packet_id : Option PacketId) (number : ℕ) → taken number ≡ true → IsVerdict count taken packet_id (Taken number) → ⊥
taken_once count taken None number is verdict = absurd cc
taken_once count taken (Some packet_id) number is verdict =
    not_fresh taken verdict.0 (subst (λ (n : ℕ). taken n ≡ true) verdict.2.0 is) verdict.2.1

pub TakesOnce-run : (count : ℕ) (packet_ids : List (Option PacketId)) (verdicts : List Verdict) → IsRun count packet_ids verdicts → TakesOnce verdicts
TakesOnce-run count packet_ids verdicts run i j number before within first second =
    let earlier = take j verdicts in
    let here : i < length earlier = omega (arith, length-take-le j verdicts (omega arith)) in
    let is : taken_by earlier number ≡ true = taken_by-at earlier i number here (get_or-take j verdicts i Unreadable before ∙ first) in
    taken_once count (taken_by earlier) (get_or packet_ids j None) number is
    (subst (IsVerdict count (taken_by earlier) (get_or packet_ids j None)) second (run.each j (omega (arith, run.as_many))))
