-- Runs of packets whose sender may start again: the verdicts by what came before, and what follows for whole runs.
use Rattle.std.proofs.Common.{◌≡◌, ℕ, zero, suc, ◌+◌, ◌*◌, ◌%◌, ◌^◌, ◌<◌, ◌≤◌, ◌↔◌, min, false, true, List, [], ◌∷◌, refl, sym, ap, ◌∙◌, subst, inl, inr, arith}
use Rattle.std.specs.Prelude.{Option, Some, None}
use Rattle.std.specs.Option.{is_some}
use Rattle.std.proofs.lemmas.Bool.{cases_Bool, false≢true}
use Rattle.rtp_base.specs.Window.{Numbers}
use Rattle.rtp_receive.specs.Receiver.{IsNothing, IsHighest, HoldsOf, IsFreshOf}
use Rattle.rtp_receive.specs.StreamState.{ReceiverState}
use Rattle.rtp_receive.specs.declared.receiver.ReceiverState.TheVariants.{Start, Window}
use Rattle.rtp_receive.proofs.ReceiverLemmas.{not_nothing}
use Rattle.rtp_receive.proofs.TrueNumberLemmas.{one_highest}
use Rattle.rtp_receive.specs.declared.restarting.RestartingStreamReceiver.{RestartingStreamReceiver}
use Rattle.rtp_receive.specs.declared.restarting_verdict.RestartingVerdict.{RestartingVerdict}
use Rattle.rtp_receive.specs.declared.restarting_verdict.RestartingVerdict.TheVariants.{Taken, Restarted, Refused}
use Rattle.rtp_receive.specs.Restarting.{Bounds, announced, first_number, IsOfStream, IsOutside, leading, leading_after, BeginsAt, IsFirst, Begins, IsPlaced, IsSettled, IsRestartingVerdict, Arrival, epoch_after, taken_in, LeadUp, IsNext, IsRestartingRun, HasNoPair, IsOneEpoch}
use Rattle.rtp_receive.specs.RestartingState.{bounds_of_size, HoldsEpochOf, Leads, Grows, RowLeadsOf, RowGrowsOf, RemembersOf}

-- as many as must lead up to an epoch are few
leading-few : (bounds : Bounds) (highest : Option ℕ) → bounds.min_sequential ≤ 255 → leading bounds highest ≤ 255
leading-few bounds None few = omega arith
leading-few bounds (Some h) few = omega arith

-- the verdict by two ways to say how many packets lead up to it, which agree on few
Begins-same : (bounds : Bounds) (count : ℕ) (taken : Numbers) (one other : ℕ → Type 0) (low : ℕ) (verdict : RestartingVerdict) → bounds.min_sequential ≤ 255
    → ((k : ℕ) → k ≤ 255 → one k → other k) → Begins bounds count taken one low verdict → Begins bounds count taken other low verdict
Begins-same bounds count taken one other low verdict few to begins = record {
  is_first = begins.is_first;
  lead = to (leading bounds begins.is_first.highest) (leading-few bounds begins.is_first.highest few) begins.lead;
}

pub Verdict-same : (bounds : Bounds) (count : ℕ) (taken : Numbers) (one other : ℕ → Type 0) (low : ℕ) (verdict : RestartingVerdict) → bounds.min_sequential ≤ 255
    → ((k : ℕ) → k ≤ 255 → other k ↔ one k) → IsRestartingVerdict bounds count taken one low verdict → IsRestartingVerdict bounds count taken other low verdict
Verdict-same bounds count taken one other low verdict few same is = elim is [
  | inl judged ↦ inl judged
  | inr outside ↦ inr (record {
    outside = outside.outside;
    judged = elim outside.judged [
      | inl begins ↦ inl (Begins-same bounds count taken one other low verdict few (λ k le. (same k le).1) begins)
      | inr refused ↦ inr (refused.0, λ v begins. refused.1 v (Begins-same bounds count taken other one low v few (λ k le. (same k le).0) begins))
    ];
  })
]

-- ---- one packet more

module _ {W : Type 0} (size : ℕ) (old new : RestartingStreamReceiver W) (before : List Arrival) (low : ℕ) (verdict : RestartingVerdict) (remembers : RemembersOf size old before) where
  pub next_verdict : IsRestartingVerdict (bounds_of_size size old) 1 (taken_in before) (RowLeadsOf old low) low verdict
      → IsNext (bounds_of_size size old) before (record { low = low; verdict = verdict })
  next_verdict is = Verdict-same (bounds_of_size size old) 1 (taken_in before) (RowLeadsOf old low) (LeadUp (bounds_of_size size old) before low) low verdict remembers.few (remembers.row low) is

  row_after : RowGrowsOf size old (taken_in before) low verdict new → (later k : ℕ) → k ≤ 255
      → LeadUp (bounds_of_size size old) (record { low = low; verdict = verdict } ∷ before) later k ↔ RowLeadsOf new later k
  row_after grows later zero le = (λ _. inl refl, λ _. tt)
  row_after grows later (suc k) le =
      let grown = grows later k le in
      let held = remembers.row low k (omega arith) in
      (λ lead. grown.1 (lead.0, lead.1, lead.2, held.0 lead.3), λ leads. let parts = grown.0 leads in (parts.0, parts.1, parts.2, held.1 parts.3))

  pub RemembersOf-after : IsRestartingVerdict (bounds_of_size size old) 1 (taken_in before) (RowLeadsOf old low) low verdict
      → HoldsEpochOf size new 1 (epoch_after (taken_in before) verdict) → RowGrowsOf size old (taken_in before) low verdict new → bounds_of_size size new ≡ bounds_of_size size old
      → RemembersOf size new (record { low = low; verdict = verdict } ∷ before)
  RemembersOf-after is holds grows same = record {
    run = subst (λ (b : Bounds). IsRestartingRun b (record { low = low; verdict = verdict } ∷ before)) (sym same) (next_verdict is, remembers.run);
    holds = holds;
    few = subst (λ (b : Bounds). b.min_sequential ≤ 255) (sym same) remembers.few;
    row = λ later k le. subst (λ (b : Bounds). LeadUp b (record { low = low; verdict = verdict } ∷ before) later k ↔ RowLeadsOf new later k) (sym same) (row_after grows later k le);
  }

-- ---- whole runs

first-restarted : (bounds : Bounds) (before : List Arrival) (low number : ℕ) (first : IsFirst 1 (taken_in before) low (Restarted number))
    → LeadUp bounds before low (leading bounds first.highest) → LeadUp bounds before low 1
first-restarted bounds before low number first lead = led first.highest first.verdict_is lead
  where
    led : (highest : Option ℕ) → Restarted number ≡ announced highest (first_number 1 highest low)
        → LeadUp bounds before low (leading bounds highest) → LeadUp bounds before low 1
    led None is lead = absurd (cc)
    led (Some h) is lead = lead

-- a restart has a pair
no_restart : (bounds : Bounds) (before : List Arrival) (low number : ℕ) → IsNext bounds before (record { low = low; verdict = Restarted number })
    → IsOutside bounds (taken_in before) low × LeadUp bounds before low 1
no_restart bounds before low number is = elim is [
  | inl judged ↦ absurd judged.judged
  | inr outside ↦ elim outside.judged [
    | inl begins ↦ (outside.outside, first-restarted bounds before low number begins.is_first begins.lead)
    | inr refused ↦ absurd (let never : Restarted number ≡ Refused = refused.0 in cc)
  ]
]

pub one_epoch : (bounds : Bounds) (arrivals : List Arrival) → IsRestartingRun bounds arrivals → HasNoPair bounds arrivals → IsOneEpoch arrivals
one_epoch bounds [] run none = tt
one_epoch bounds (arrival ∷ before) run none = (
  λ number is. none.0 (no_restart bounds before arrival.low number
      (subst (λ (v : RestartingVerdict). IsNext bounds before (record { low = arrival.low; verdict = v })) is run.0)),
  one_epoch bounds before run.1 none.1,
)

-- a number that may be taken is not taken
not_taken : (size : ℕ) (taken : Numbers) (number : ℕ) → IsFreshOf size taken number → taken number ≡ false
not_taken size taken number fresh = elim fresh [
  | inl none ↦ none number
  | inr accepts ↦ elim accepts.above_or_new [
    | inl above ↦ elim (cases_Bool (taken number)) [ inl member ↦ absurd (let low = accepts.is_greatest.top number member in omega arith) | inr none ↦ none ]
    | inr new ↦ new.1
  ]
]

pub taken_once : (bounds : Bounds) (count : ℕ) (taken : Numbers) (Lead : ℕ → Type 0) (low number : ℕ) → IsRestartingVerdict bounds count taken Lead low (Taken number) → taken number ≡ false
taken_once bounds count taken Lead low number is = elim is [
  | inl judged ↦ rw judged.judged.0 (not_taken bounds.size taken judged.number judged.judged.1)
  | inr outside ↦ elim outside.judged [
    | inl begins ↦ first_taken begins.is_first.highest begins.is_first.is_highest begins.is_first.verdict_is
    | inr refused ↦ absurd (let never : Taken number ≡ Refused = refused.0 in cc)
  ]
]
  where
    first_taken : (highest : Option ℕ) → IsHighest taken highest
        → Taken number ≡ announced highest (first_number count highest low) → taken number ≡ false
    first_taken None none is = none number
    first_taken (Some h) top is = absurd (cc)

-- the first packet of an epoch is not refused
pub first_not_refused : (count : ℕ) (taken : Numbers) (low : ℕ) → IsFirst count taken low Refused → ⊥
first_not_refused count taken low first = never first.highest first.verdict_is
  where
    never : (highest : Option ℕ) → Refused ≡ announced highest (first_number count highest low) → ⊥
    never None is = cc
    never (Some h) is = cc

-- ---- a packet outside of the stream

-- where nothing is taken yet the receiver starts at the count that it was given
pub starts_there : (size : ℕ) (state : ReceiverState) (count found : ℕ) (taken : Numbers) → HoldsOf size state count taken → ((c : ℕ) → state ≡ Start c → found ≡ c)
    → IsNothing taken → count ≡ found
starts_there size (Start start) count found taken holds empty nothing = sym (empty start refl ∙ holds.0)
starts_there size (Window window) count found taken holds empty nothing = absurd (not_nothing taken window.greatest holds.top nothing)

first_there : (count found low : ℕ) (taken : Numbers) (highest : Option ℕ) → IsHighest taken highest → (IsNothing taken → count ≡ found) → first_number found highest low ≡ first_number count highest low
first_there count found low taken None none same = ap (λ c. 65536 * c + low % 65536) (sym (same none))
first_there count found low taken (Some h) top same = refl

module _ (bounds : Bounds) (count found : ℕ) (taken : Numbers) (highest : Option ℕ) (Lead : ℕ → Type 0) (low : ℕ)
    (top : IsHighest taken highest) (same : IsNothing taken → count ≡ found) where
  -- the packet that begins an epoch by its row does so
  pub Begins-from : (number : ℕ) → BeginsAt bounds.min_sequential found highest Lead low number → Begins bounds count taken Lead low (announced highest number)
  Begins-from number begins =
      let is : number ≡ first_number count highest low = begins.number_is ∙ first_there count found low taken highest top same in
      record {
        is_first = record { highest = highest; is_highest = top; fits = subst (λ (n : ℕ). n < 2 ^ 64) is begins.fits; verdict_is = ap (announced highest) is };
        lead = begins.lead;
      }

  -- and no other does
  pub Begins-to : (verdict : RestartingVerdict) → Begins bounds count taken Lead low verdict
      → BeginsAt bounds.min_sequential found highest Lead low (first_number count highest low)
  Begins-to verdict begins =
      let one : begins.is_first.highest ≡ highest = one_highest taken begins.is_first.highest highest begins.is_first.is_highest top in
      record {
        number_is = sym (first_there count found low taken highest top same);
        fits = subst (λ (h : Option ℕ). first_number count h low < 2 ^ 64) one begins.is_first.fits;
        lead = subst (λ (h : Option ℕ). Lead (leading_after bounds.min_sequential h)) one begins.lead;
      }

-- ---- once the window is asked

pub taken_not_refused : (number : ℕ) → Taken number ≡ Refused → ⊥
taken_not_refused number is = cc

-- a packet outside of the stream that is taken is the first of all
IsFirst-fresh : (size count : ℕ) (taken : Numbers) (low number : ℕ) → IsFirst count taken low (Taken number) → IsFreshOf size taken number
IsFirst-fresh size count taken low number first = fresh first.highest first.is_highest first.verdict_is
  where
    fresh : (highest : Option ℕ) → IsHighest taken highest → Taken number ≡ announced highest (first_number count highest low) → IsFreshOf size taken number
    fresh None none is = inl none
    fresh (Some h) top is = absurd (cc)

module _ (bounds : Bounds) (count : ℕ) (taken : Numbers) (Lead : ℕ → Type 0) (low : ℕ) where
  -- what the window refuses is of the stream
  refused_of_stream : (number : ℕ) → (IsFreshOf bounds.size taken number → ⊥) → IsPlaced bounds count taken Lead low (Taken number) → IsOfStream bounds taken low number
  refused_of_stream number refused (inl placed) = let same : number ≡ placed.0 = (let is = placed.1 in cc) in rw same placed.2
  refused_of_stream number refused (inr outside) = elim outside.judged [
    | inl begins ↦ absurd (refused (IsFirst-fresh bounds.size count taken low number begins.is_first))
    | inr never ↦ absurd (let is : Taken number ≡ Refused = never.0 in cc)
  ]

  pub settled-verdict : (placed verdict : RestartingVerdict) → IsPlaced bounds count taken Lead low placed → IsSettled bounds.size taken placed verdict
      → IsRestartingVerdict bounds count taken Lead low verdict
  settled-verdict (Taken number) verdict is (inl taken') = elim is [
    | inl of_stream ↦
        let same : number ≡ of_stream.0 = (let it = of_stream.1 in cc) in
        inl (record { number = number; of_stream = rw same of_stream.2; judged = rw taken'.0 (refl, taken'.1) })
    | inr outside ↦ inr (rw taken'.0 outside)
  ]
  settled-verdict (Taken number) verdict is (inr refused) =
      inl (record { number = number; of_stream = refused_of_stream number refused.1 is; judged = rw refused.0 refused.1 })
  settled-verdict (Restarted number) verdict (inl of_stream) same = absurd (let is = of_stream.1 in cc)
  settled-verdict (Restarted number) verdict (inr outside) same = inr (rw same outside)
  settled-verdict Refused verdict (inl of_stream) same = absurd (let is = of_stream.1 in cc)
  settled-verdict Refused verdict (inr outside) same = inr (rw same outside)

  pub settled-row : (placed verdict : RestartingVerdict) (old_in_row old_next in_row next : ℕ) → IsPlaced bounds count taken Lead low placed
      → IsSettled bounds.size taken placed verdict → Grows bounds taken low placed old_in_row old_next in_row next
      → Grows bounds taken low verdict old_in_row old_next in_row next
  settled-row (Taken number) verdict old_in_row old_next in_row next is (inl same) grows = rw same.0 grows
  settled-row (Taken number) verdict old_in_row old_next in_row next is (inr refused) grows = λ later k few. (
    λ leads. absurd (taken_not_refused number ((grows later k few).0 leads).0),
    λ parts. absurd (parts.1 number (refused_of_stream number refused.1 is)),
  )
  settled-row (Restarted number) verdict old_in_row old_next in_row next is same grows = rw same grows
  settled-row Refused verdict old_in_row old_next in_row next is same grows = rw same grows

-- what is answered to the first packet of all, and to one of a later epoch
pub announced_new : (highest : Option ℕ) (number : ℕ) → is_some highest ≡ false → announced highest number ≡ Taken number
announced_new None number is = refl
announced_new (Some h) number is = absurd (false≢true (sym is))

pub announced_again : (highest : Option ℕ) (number : ℕ) → is_some highest ≡ true → announced highest number ≡ Restarted number
announced_again None number is = absurd (false≢true is)
announced_again (Some h) number is = refl

pub some_not_none : (number : ℕ) → ◌≡◌ {A = Option ℕ} (Some number) None → ⊥
some_not_none number is = cc

pub restarted_not_refused : (number : ℕ) → Restarted number ≡ Refused → ⊥
restarted_not_refused number is = cc

-- one number is in both
pub some_same : (one other : ℕ) → ◌≡◌ {A = Option ℕ} (Some one) (Some other) → one ≡ other
some_same one other is = cc

-- what the row that a refused packet makes longer leads up to
pub row_grown : (len next len' next' before low later k : ℕ) → suc k ≤ 255 → len' ≡ min (before + 1) 255 → next' ≡ (low + 1) % 65536
    → ((j : ℕ) → Leads len next low j ↔ j ≤ before) → Leads len' next' later (suc k) ↔ ((later ≡ (low + 1) % 65536) × Leads len next low k)
row_grown len next len' next' before low later k few grown next-is held = (
  λ leads. elim leads [ inl none ↦ absurd (omega arith) | inr is ↦ (is.1 ∙ next-is, (held k).1 (omega (arith, is.0, grown))) ],
  λ parts. inr (let le = (held k).0 parts.1 in omega (arith, le, grown), parts.0 ∙ sym next-is),
)

-- no packets lead up to one, whatever the bounds
lead_none : (one other : Bounds) (low k : ℕ) → LeadUp one [] low k → LeadUp other [] low k
lead_none one other low zero is = tt
lead_none one other low (suc k) is = is

-- a receiver that no packets came to has other bounds
pub no_packets : {W : Type 0} (size : ℕ) (receiver : RestartingStreamReceiver W) (max_misorder : Option ℕ) → RemembersOf size receiver []
    → RemembersOf size (record receiver { max_misorder = max_misorder }) []
no_packets size receiver max_misorder remembers =
    let new = record receiver { max_misorder = max_misorder } in
    record {
      run = tt;
      holds = remembers.holds;
      few = remembers.few;
      row = λ low k le. (
        λ lead. (remembers.row low k le).0 (lead_none (bounds_of_size size new) (bounds_of_size size receiver) low k lead),
        λ leads. lead_none (bounds_of_size size receiver) (bounds_of_size size new) low k ((remembers.row low k le).1 leads),
      );
    }
