-- Within one epoch the packets of the stream are judged as those of a sender that never starts again.
use Rattle.std.proofs.Common.{◌≡◌, ℕ, ◌*◌, ◌+◌, ◌/◌, ◌%◌, Bool, ◌||◌, eqb, List, [], ◌∷◌, ◌++◌, map, refl, sym, ap, ◌∙◌, subst, inl, inr, arith}
use Rattle.std.specs.Prelude.{Option, Some, None}
use Rattle.std.proofs.lemmas.List.{map-append}
use Rattle.std.proofs.Math.Path.{fun_ext}
use Rattle.rtp_base.specs.Window.{Numbers}
use Rattle.rtp_receive.specs.declared.receiver.Verdict.{Verdict}
use Rattle.rtp_receive.specs.declared.receiver.Verdict.TheVariants as plain
use Rattle.rtp_receive.specs.declared.restarting_verdict.RestartingVerdict.{RestartingVerdict}
use Rattle.rtp_receive.specs.declared.restarting_verdict.RestartingVerdict.TheVariants.{Taken, Restarted, Refused}
use Rattle.rtp_receive.specs.Receiver.{IsHighest, IsJudgedOf, taken_after}
use Rattle.rtp_receive.specs.Verdicts.{PacketId, IsVerdictOf, IsRunOf, taken_by}
use Rattle.rtp_receive.specs.Restarting.{Bounds, IsOutside, IsFirst, announced, first_number, in_stream, IsJudgedInStream, IsRestartingRun, Arrival, epoch_after, taken_in, IsNext, IsRestartingVerdict}
use Rattle.rtp_receive.specs.declared.restarting.RestartingStreamReceiver.{RestartingStreamReceiver}
use Rattle.rtp_receive.specs.RestartingState.{bounds_of_size, HoldsEpochOf, RowLeadsOf, RowGrowsOf, RemembersOf, FollowsOf}
use Rattle.rtp_receive.specs.EpochRun.{packet_id_in, verdict_in_epoch, verdicts_in_epoch, IsRunInEpoch, AreRising}
use Rattle.rtp_receive.specs.EpochRun as epoch
use Rattle.rtp_receive.proofs.VerdictLemmas.{taken_by-push, or_false, IsRun-more}
use Rattle.rtp_receive.proofs.EpochOrder.{rising}
use Rattle.rtp_receive.proofs.RestartingLemmas.{first_not_refused, next_verdict, RemembersOf-after, one_epoch, taken_once}

-- no packet has no verdict
IsRunOf-none : (size count : ℕ) → IsRunOf size count [] []
IsRunOf-none size count = record { as_many = refl; each = λ i below. absurd (omega arith) }

-- ---- a packet of the stream

-- such a packet is judged as by a receiver for a sender that never starts again
judged_plainly : (size : ℕ) (taken : Numbers) (number : ℕ) (verdict : RestartingVerdict) → IsJudgedOf size taken number (in_stream verdict) → IsJudgedOf size taken number (verdict_in_epoch verdict)
judged_plainly size taken number (Taken n) judged = judged
judged_plainly size taken number (Restarted n) judged = absurd judged
judged_plainly size taken number Refused judged = judged

-- and it leaves what such a receiver takes
taken_plainly : (size : ℕ) (taken : Numbers) (number : ℕ) (verdict : RestartingVerdict) (n : ℕ) → IsJudgedOf size taken number (in_stream verdict)
    → taken_after taken (verdict_in_epoch verdict) n ≡ epoch_after taken verdict n
taken_plainly size taken number (Taken t) n judged = refl
taken_plainly size taken number (Restarted t) n judged = absurd judged
taken_plainly size taken number Refused n judged = refl

gone_on : (bounds : Bounds) (before : List Arrival) (arrival : Arrival) → IsRunInEpoch bounds before → IsJudgedInStream bounds (taken_in before) arrival.low arrival.verdict
    → IsRunInEpoch bounds (arrival ∷ before)
gone_on bounds before arrival so_far is =
    let verdict : Verdict = verdict_in_epoch arrival.verdict in
    let verdicts : List Verdict = verdicts_in_epoch so_far.packets in
    let same : taken_by verdicts ≡ taken_in before = fun_ext so_far.taken in
    let pushed : verdicts_in_epoch (so_far.packets ++ arrival ∷ []) ≡ verdicts ++ verdict ∷ [] = map-append (λ a. verdict_in_epoch a.verdict) so_far.packets (arrival ∷ []) in
    record {
      packets = so_far.packets ++ arrival ∷ [];
      of_epoch = epoch.goes_on before so_far.packets arrival is.number so_far.of_epoch is.of_stream;
      count = so_far.count;
      run = λ source.
          let id : Option PacketId = packet_id_in source arrival in
          let judged : IsVerdictOf bounds.size so_far.count (taken_by verdicts) id verdict =
          subst (λ (taken : Numbers). IsVerdictOf bounds.size so_far.count taken id verdict) (sym same)
          (is.number, (Some is.of_stream.highest, is.of_stream.is_highest, is.of_stream.nearest), judged_plainly bounds.size (taken_in before) is.number arrival.verdict is.judged) in
          subst (λ vs. IsRunOf bounds.size so_far.count (map (packet_id_in source) (so_far.packets ++ arrival ∷ [])) vs) (sym pushed)
          (subst (λ ids. IsRunOf bounds.size so_far.count ids (verdicts ++ verdict ∷ [])) (sym (map-append (packet_id_in source) so_far.packets (arrival ∷ [])))
          (IsRun-more bounds.size so_far.count (map (packet_id_in source) so_far.packets) verdicts id verdict (so_far.run source) judged));
      taken = λ n. ap (λ vs. taken_by vs n) pushed ∙ taken_by-push verdicts verdict n ∙ ap (λ (taken : Numbers). taken_after taken verdict n) same
          ∙ taken_plainly bounds.size (taken_in before) is.number arrival.verdict n is.judged;
    }

-- ---- the first packet of an epoch

-- the rollover count of an epoch's first number, and that number's verdict
record IsBegun (arrival : Arrival) (taken : Numbers) : Type 0 where
  count : ℕ
  verdict_is : verdict_in_epoch arrival.verdict ≡ plain.Taken (65536 * count + arrival.low % 65536)
  taken_is : (n : ℕ) → taken_by (verdict_in_epoch arrival.verdict ∷ []) n ≡ epoch_after taken arrival.verdict n

begun : (taken : Numbers) (arrival : Arrival) (highest : Option ℕ) → IsHighest taken highest → arrival.verdict ≡ announced highest (first_number 1 highest arrival.low) → IsBegun arrival taken
begun taken arrival None nothing is = record {
  count = 1;
  verdict_is = ap verdict_in_epoch is ∙ ap plain.Taken (omega arith);
  taken_is = λ n. subst (λ (v : RestartingVerdict). taken_by (verdict_in_epoch v ∷ []) n ≡ epoch_after taken v n) (sym is)
      (or_false (eqb n (first_number 1 None arrival.low)) ∙ ap (λ (b : Bool). b || eqb n (first_number 1 None arrival.low)) (sym (nothing n)));
}
begun taken arrival (Some highest) top is = record {
  count = highest / 65536 + 2;
  verdict_is = ap verdict_in_epoch is;
  taken_is = λ n. subst (λ (v : RestartingVerdict). taken_by (verdict_in_epoch v ∷ []) n ≡ epoch_after taken v n) (sym is) (or_false (eqb n (first_number 1 (Some highest) arrival.low)));
}

began : (bounds : Bounds) (before : List Arrival) (arrival : Arrival) → IsOutside bounds (taken_in before) arrival.low → IsFirst 1 (taken_in before) arrival.low arrival.verdict
    → IsRunInEpoch bounds (arrival ∷ before)
began bounds before arrival outside first =
    let is = begun (taken_in before) arrival first.highest first.is_highest first.verdict_is in
    let number : ℕ = 65536 * is.count + arrival.low % 65536 in
    record {
      packets = arrival ∷ [];
      of_epoch = epoch.begins before arrival outside (λ refused. first_not_refused 1 (taken_in before) arrival.low (subst (IsFirst 1 (taken_in before) arrival.low) refused first));
      count = is.count;
      run = λ source. IsRun-more bounds.size is.count [] [] (packet_id_in source arrival) (verdict_in_epoch arrival.verdict) (IsRunOf-none bounds.size is.count)
          (subst (IsVerdictOf bounds.size is.count (taken_by []) (packet_id_in source arrival)) (sym is.verdict_is)
          (number, (None, (λ n. refl), refl), (refl, inl (λ n. refl))));
      taken = is.taken_is;
    }

-- ---- all packets

passed : (bounds : Bounds) (before : List Arrival) (arrival : Arrival) → IsRunInEpoch bounds before → IsOutside bounds (taken_in before) arrival.low → arrival.verdict ≡ Refused
    → IsRunInEpoch bounds (arrival ∷ before)
passed bounds before arrival so_far outside refused = record {
  packets = so_far.packets;
  of_epoch = epoch.passed_by before so_far.packets arrival so_far.of_epoch outside refused;
  count = so_far.count;
  run = so_far.run;
  taken = λ n. so_far.taken n ∙ ap (λ (v : RestartingVerdict). epoch_after (taken_in before) v n) (sym refused);
}

run_in_epoch : (bounds : Bounds) (arrivals : List Arrival) → IsRestartingRun bounds arrivals → IsRunInEpoch bounds arrivals
run_in_epoch bounds [] run =
    record { packets = []; of_epoch = epoch.none; count = 0; run = λ source. IsRunOf-none bounds.size 0; taken = λ n. refl }
run_in_epoch bounds (arrival ∷ before) run =
    let so_far = run_in_epoch bounds before run.1 in
    elim run.0 [
      | inl is ↦ gone_on bounds before arrival so_far is
      | inr is ↦ elim is.judged [
        | inl begins ↦ began bounds before arrival is.outside begins.is_first
        | inr refused ↦ passed bounds before arrival so_far is.outside refused.0
      ]
    ]

-- ---- one packet more

-- what a verdict and what is held after it say of all packets that came before
pub follows : {W : Type 0} (size : ℕ) (old new : RestartingStreamReceiver W) (low : ℕ) (verdict : RestartingVerdict) (before : List Arrival) → RemembersOf size old before
    → IsRestartingVerdict (bounds_of_size size old) 1 (taken_in before) (RowLeadsOf old low) low verdict → HoldsEpochOf size new 1 (epoch_after (taken_in before) verdict)
    → RowGrowsOf size old (taken_in before) low verdict new → bounds_of_size size new ≡ bounds_of_size size old → FollowsOf size old new before (record { low = low; verdict = verdict })
follows size old new low verdict before remembers is holds grows same =
    let bounds : Bounds = bounds_of_size size old in
    let next : IsNext bounds before (record { low = low; verdict = verdict }) = next_verdict size old new before low verdict remembers is in
    record {
      next = next;
      after = RemembersOf-after size old new before low verdict remembers is holds grows same;
      in_epoch = run_in_epoch bounds (record { low = low; verdict = verdict } ∷ before) (next, remembers.run);
      one_epoch = one_epoch bounds (record { low = low; verdict = verdict } ∷ before) (next, remembers.run);
      rising = λ small. rising bounds (record { low = low; verdict = verdict } ∷ before) small (next, remembers.run);
      once = λ number taken. taken_once bounds 1 (taken_in before) (RowLeadsOf old low) low number
          (subst (λ (v : RestartingVerdict). IsRestartingVerdict bounds 1 (taken_in before) (RowLeadsOf old low) low v) taken is);
    }
