use Rattle.std.proofs.Common.{arith, ◌≡◌, ◌≤◌, ℕ, List, [], ◌∷◌, length, Some, None, ap, ◌∙◌}
use Rattle.rtp_base.specs.Overwriting.{overwritten}
use Rattle.rtp_base.proofs.OverwritingLemmas.{overwritten-overwritten}
use Rattle.rtp_values.specs.declared.standard.timing.Timing as timing
use Rattle.rtp_values.specs.StandardTiming.{timing_in, timing_after, timing_data, times_data}
use Rattle.rtp_values.proofs.standard.timing.Timing.write_to.Goals as goal

written-None : (t : timing.Timing) (buf new times : List ℕ) → t.flags ≡ None → times ≡ times_data t → new ≡ overwritten buf 0 times
    → new ≡ overwritten buf 0 (timing_data t)
written-None t buf new times is times-are put = rw is (put ∙ ap (overwritten buf 0) times-are)

back-None : (t : timing.Timing) → t.flags ≡ None → timing_after t.flags (times_data t) ≡ t → timing_in (timing_data t) ≡ t
back-None t is back = rw is (rw is at back)

written-Some : (t : timing.Timing) (flags at : ℕ) (buf mid new times : List ℕ) → 13 ≤ length buf → t.flags ≡ Some flags → times ≡ times_data t
    → mid ≡ overwritten buf 0 (flags ∷ []) → at ≡ 1 → new ≡ overwritten mid at times → new ≡ overwritten buf 0 (timing_data t)
written-Some t flags at buf mid new times room is times-are first at-is put =
    let next : new ≡ overwritten (overwritten buf 0 (flags ∷ [])) 1 times = rw (← first, ← at-is) put in
    rw is (next ∙ overwritten-overwritten buf (flags ∷ []) times 0 1 (omega arith) (omega arith) ∙ ap (λ (xs : List ℕ). overwritten buf 0 (flags ∷ xs)) times-are)

back-Some : (t : timing.Timing) (flags : ℕ) → t.flags ≡ Some flags → timing_after t.flags (times_data t) ≡ t → timing_in (timing_data t) ≡ t
back-Some t flags is back = rw is (rw is at back)

pub returns-in-None-clause-written : goal.returns-in-None-clause-written
returns-in-None-clause-written c =
    written-None c.args.self.now c.args.buf.now _ c.times-times.result c.in-None.is c.times-times.ensures.bytes c.put-in-None.ensures.written

pub returns-in-None-clause-back : goal.returns-in-None-clause-back
returns-in-None-clause-back c = back-None c.args.self.now c.in-None.is c.times-times.ensures.back

pub returns-in-Some-clause-written : goal.returns-in-Some-clause-written
returns-in-Some-clause-written c =
    written-Some c.args.self.now c.in-Some.flags _ c.args.buf.now _ _ c.times-times.result c.requires.room c.in-Some.is c.times-times.ensures.bytes
    c.put-at.ensures.written c.put-at.ensures.end c.put.ensures.written

pub returns-in-Some-clause-back : goal.returns-in-Some-clause-back
returns-in-Some-clause-back c = back-Some c.args.self.now _ c.in-Some.is c.times-times.ensures.back
