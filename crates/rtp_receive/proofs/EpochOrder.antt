-- The numbers of an epoch are above those of the epochs before it.
use Rattle.std.proofs.Common.{◌≡◌, ℕ, ◌+◌, ◌*◌, ◌/◌, ◌^◌, ◌<◌, ◌≤◌, true, eqb, List, [], ◌∷◌, refl, sym, ◌∙◌, subst, inl, inr, arith}
use Rattle.std.specs.Prelude.{Option, Some, None}
use Rattle.std.proofs.lemmas.Bool.{false≢true, eq-eqb, eqb-true, or_left, or_cases}
use Rattle.rtp_base.specs.Window.{Numbers, IsGreatest, including}
use Rattle.rtp_receive.specs.declared.restarting_verdict.RestartingVerdict.{RestartingVerdict}
use Rattle.rtp_receive.specs.declared.restarting_verdict.RestartingVerdict.TheVariants.{Taken, Restarted, Refused}
use Rattle.rtp_receive.specs.Receiver.{IsNothing, IsHighest, IsFreshOf, IsJudgedOf}
use Rattle.rtp_receive.specs.Widening.{IsNearest}
use Rattle.rtp_receive.specs.Restarting.{Bounds, IsOfStream, announced, first_number, in_stream, IsRestartingRun, Arrival, epoch_after, taken_in}
use Rattle.rtp_receive.proofs.ReceiverLemmas.{not_nothing}
use Rattle.rtp_receive.proofs.TrueNumberLemmas.{one_greatest}
use Rattle.rtp_receive.specs.EpochRun.{earlier_after, taken_earlier, AreRising}

-- the first number of the present epoch lies above a floor, its later ones at most 32,768 below it, and all numbers of the epochs before it further below
record IsOver (earlier taken : Numbers) : Type 0 where
  floor : ℕ
  above : (n : ℕ) → taken n ≡ true → floor ≤ n + 32768
  highest_above : (n : ℕ) → IsGreatest taken n → floor ≤ n
  below : (n : ℕ) → earlier n ≡ true → n + 32768 < floor
  none : IsNothing taken → IsNothing earlier

-- a packet of the stream isn't further behind
near_below : (size highest low number : ℕ) → size ≤ 2 ^ 63 → highest < number + size → IsNearest 16 highest low number → highest ≤ number + 32768
near_below size highest low number small behind nearest = elim nearest.near [ inl near ↦ omega (arith, near) | inr tie ↦ omega (arith, tie.0) ]

-- nor is a number that may be taken
fresh_behind : (size : ℕ) (taken : Numbers) (number highest : ℕ) → IsGreatest taken highest → IsFreshOf size taken number → highest < number + size
fresh_behind size taken number highest top (inl none) = absurd (not_nothing taken highest top none)
fresh_behind size taken number highest top (inr accepts) =
    let same : accepts.greatest ≡ highest = one_greatest taken accepts.greatest highest accepts.is_greatest top in
    elim accepts.above_or_new [ inl above ↦ omega (arith, above, same) | inr new ↦ omega (arith, new.0, same) ]

-- ---- one packet more

with_one : (earlier taken : Numbers) (number highest : ℕ) → IsOver earlier taken → IsGreatest taken highest → highest ≤ number + 32768 → IsOver earlier (including taken number)
with_one earlier taken number highest over top near =
    let low = over.highest_above highest top in
    record {
      floor = over.floor;
      above = λ n is. elim (or_cases (taken n) (eqb n number) is) [ inl old ↦ over.above n old | inr new ↦ (let same = eqb-true n number new in omega arith) ];
      highest_above = λ n greatest. (let reached = greatest.top highest (or_left (taken highest) (eqb highest number) top.member) in omega arith);
      below = over.below;
      none = λ nothing. absurd (false≢true (sym (nothing highest) ∙ or_left (taken highest) (eqb highest number) top.member));
    }

of_stream : (bounds : Bounds) (earlier taken : Numbers) (low number : ℕ) (verdict : RestartingVerdict) → bounds.size ≤ 2 ^ 63 → IsOver earlier taken → IsOfStream bounds taken low number
    → IsJudgedOf bounds.size taken number (in_stream verdict) → IsOver (earlier_after earlier taken verdict) (epoch_after taken verdict)
of_stream bounds earlier taken low number (Taken t) small over is judged =
    with_one earlier taken t is.highest over is.is_highest (
    let behind = fresh_behind bounds.size taken number is.highest is.is_highest judged.1 in
    let near = near_below bounds.size is.highest low number small behind is.nearest in
    omega (arith, judged.0)
    )
of_stream bounds earlier taken low number (Restarted t) small over is judged = absurd judged
of_stream bounds earlier taken low number Refused small over is judged = over

first : (earlier taken : Numbers) (low : ℕ) (highest : Option ℕ) → IsOver earlier taken → IsHighest taken highest
    → IsOver (earlier_after earlier taken (announced highest (first_number 1 highest low))) (epoch_after taken (announced highest (first_number 1 highest low)))
first earlier taken low None over nothing =
    let number : ℕ = first_number 1 None low in
    let only_one : (n : ℕ) → including taken number n ≡ true → n ≡ number =
    λ n is. elim (or_cases (taken n) (eqb n number) is) [ inl old ↦ absurd (false≢true (sym (nothing n) ∙ old)) | inr new ↦ eqb-true n number new ] in
    record {
      floor = 65536;
      above = λ n is. (let same = only_one n is in omega arith);
      highest_above = λ n greatest. (let same = only_one n greatest.member in omega arith);
      below = λ n is. absurd (false≢true (sym (over.none nothing n) ∙ is));
      none = λ empty. over.none nothing;
    }
first earlier taken low (Some highest) over top =
    let number : ℕ = first_number 1 (Some highest) low in
    let low = over.highest_above highest top in
    record {
      floor = 65536 * (highest / 65536 + 2);
      above = λ n is. (let same = eqb-true n number is in omega arith);
      highest_above = λ n greatest. (let same = eqb-true n number greatest.member in omega arith);
      below = λ n is. elim (or_cases (earlier n) (taken n) is) [ inl old ↦ (let far = over.below n old in omega arith) | inr here ↦ (let under = top.top n here in omega arith) ];
      none = λ empty. absurd (false≢true (sym (empty number) ∙ eq-eqb number number refl));
    }

-- ---- all packets

over : (bounds : Bounds) (arrivals : List Arrival) → bounds.size ≤ 2 ^ 63 → IsRestartingRun bounds arrivals → IsOver (taken_earlier arrivals) (taken_in arrivals)
over bounds [] small run = record {
  floor = 0;
  above = λ n is. omega arith;
  highest_above = λ n greatest. omega arith;
  below = λ n is. absurd (false≢true is);
  none = λ nothing n. refl;
}
over bounds (arrival ∷ before) small run =
    let old = over bounds before small run.1 in
    elim run.0 [
      | inl is ↦ of_stream bounds (taken_earlier before) (taken_in before) arrival.low is.number arrival.verdict small old is.of_stream is.judged
      | inr is ↦ elim is.judged [
        | inl begins ↦
            subst (λ (v : RestartingVerdict). IsOver (earlier_after (taken_earlier before) (taken_in before) v) (epoch_after (taken_in before) v)) (sym begins.is_first.verdict_is)
            (first (taken_earlier before) (taken_in before) arrival.low begins.is_first.highest old begins.is_first.is_highest)
        | inr refused ↦ subst (λ (v : RestartingVerdict). IsOver (earlier_after (taken_earlier before) (taken_in before) v) (epoch_after (taken_in before) v)) (sym refused.0) old
      ]
    ]

pub rising : (bounds : Bounds) (arrivals : List Arrival) → bounds.size ≤ 2 ^ 63 → IsRestartingRun bounds arrivals → AreRising arrivals
rising bounds arrivals small run earlier number before here =
    let is = over bounds arrivals small run in
    let far = is.below earlier before in
    let near = is.above number here in
    omega arith
