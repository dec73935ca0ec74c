use Rattle.std.proofs.Common.{◌≡◌, ℕ, ◌+◌, List, [], ◌∷◌, ◌++◌, take, length, get_or, sym, ap, ◌∙◌, subst, arith, rules, length-take-le}
use Rattle.std.proofs.lemmas.Bool.{false≢true}
use Rattle.std.proofs.lemmas.List.{take_more, take_all, length_push}
use Rattle.rtp_receive.specs.declared.restarting_verdict.RestartingVerdict.{RestartingVerdict}
use Rattle.rtp_receive.specs.Restarting.{Bounds, Arrival, IsRestartingRun}
use Rattle.rtp_receive.specs.RestartingState.{Remembers}
use Rattle.rtp_receive.specs.EpochRun.{IsRunInEpoch, AreRising}
use Rattle.rtp_uses.specs.Arriving.{usual_bounds, arrivals_of}
use Rattle.rtp_uses.proofs.ArrivingLemmas.{arrivals_after-push, none_in_epoch}
use Rattle.rtp_uses.proofs.restarting.receive_each_epoch.Goals as goal

pub loop-sequence_number-init : goal.loop-sequence_number-init
loop-sequence_number-init c = record {
  remembers = c.new-receiver.ensures.empty;
  bounds = c.new-receiver.ensures.bounds;
  in_epoch = none_in_epoch usual_bounds;
  rising = λ earlier number before here. absurd (false≢true before);
  room = search rules;
  as_many = search rules;
}

pub loop-sequence_number-preserved : goal.loop-sequence_number-preserved
loop-sequence_number-preserved c =
    let lows = c.args.sequence_numbers.now in
    let i = c.loop-sequence_number.sequence_number-index in
    let low : ℕ = get_or lows i 0 in
    let verdicts = c.loop-sequence_number.verdicts.items in
    let old = c.loop-sequence_number.invariant in
    let before : List Arrival = arrivals_of (take i lows) verdicts in
    let many : length verdicts ≡ length (take i lows) = old.as_many ∙ sym (length-take-le i lows (omega arith)) in
    let next = c.receive.ensures.follows before old.remembers in
    let one : arrivals_of (take (i + 1) lows) c.push_reserved.new.self.items ≡ record { low = low; verdict = c.receive.result } ∷ before =
    ap (λ (ls : List ℕ). arrivals_of ls c.push_reserved.new.self.items) (take_more lows i 0 c.loop-sequence_number-test.true)
    ∙ ap (λ (vs : List RestartingVerdict). arrivals_of (take i lows ++ low ∷ []) vs) c.push_reserved.ensures.items ∙ arrivals_after-push [] (take i lows) verdicts low c.receive.result many in
    record {
      remembers = subst (λ (arrivals : List Arrival). Remembers 16 c.receive.new.self arrivals) (sym one) next.after;
      bounds = c.receive.ensures.bounds ∙ old.bounds;
      in_epoch = subst (λ (arrivals : List Arrival). IsRunInEpoch usual_bounds arrivals) (sym one)
          (subst (λ (bounds : Bounds). IsRunInEpoch bounds (record { low = low; verdict = c.receive.result } ∷ before)) old.bounds next.in_epoch);
      rising = subst (λ (arrivals : List Arrival). AreRising arrivals) (sym one) (next.rising (omega arith));
      room = c.push_reserved.ensures.capacity ∙ old.room;
      as_many = ap length c.push_reserved.ensures.items ∙ length_push verdicts c.receive.result ∙ ap (λ (k : ℕ). k + 1) old.as_many;
    }

pub returns : goal.returns
returns c =
    let lows = c.args.sequence_numbers.now in
    let verdicts = c.loop-sequence_number.verdicts.items in
    let whole = take_all c.loop-sequence_number.sequence_number-index lows c.loop-sequence_number-test.false in
    let old = c.loop-sequence_number.invariant in
    record {
      as_many = omega (arith, old.as_many);
      run = subst (λ (ls : List ℕ). IsRestartingRun usual_bounds (arrivals_of ls verdicts)) whole
          (subst (λ (bounds : Bounds). IsRestartingRun bounds (arrivals_of (take c.loop-sequence_number.sequence_number-index lows) verdicts)) old.bounds old.remembers.run);
      in_epoch = subst (λ (ls : List ℕ). IsRunInEpoch usual_bounds (arrivals_of ls verdicts)) whole old.in_epoch;
      rising = subst (λ (ls : List ℕ). AreRising (arrivals_of ls verdicts)) whole old.rising;
    }
