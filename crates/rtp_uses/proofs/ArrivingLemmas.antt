-- One packet more of a source whose sender may start again.
use Rattle.std.proofs.Common.{◌≡◌, ℕ, List, [], ◌∷◌, ◌++◌, length, refl, arith}
use Rattle.rtp_receive.specs.declared.restarting_verdict.RestartingVerdict.{RestartingVerdict}
use Rattle.rtp_receive.specs.Restarting.{Bounds, Arrival}
use Rattle.rtp_receive.specs.EpochRun as epoch
use Rattle.rtp_receive.specs.EpochRun.{IsRunInEpoch, AreRising}
use Rattle.rtp_uses.specs.Arriving.{arrivals_after}

pub arrivals_after-push : (before : List Arrival) (lows : List ℕ) (verdicts : List RestartingVerdict) (low : ℕ) (verdict : RestartingVerdict) → length verdicts ≡ length lows
    → arrivals_after before (lows ++ low ∷ []) (verdicts ++ verdict ∷ []) ≡ record { low = low; verdict = verdict } ∷ arrivals_after before lows verdicts
arrivals_after-push before [] [] low verdict many = refl
arrivals_after-push before [] (v ∷ verdicts) low verdict many = absurd (omega (arith, many))
arrivals_after-push before (l ∷ lows) [] low verdict many = absurd (omega (arith, many))
arrivals_after-push before (l ∷ lows) (v ∷ verdicts) low verdict many = arrivals_after-push (record { low = l; verdict = v } ∷ before) lows verdicts low verdict (omega (arith, many))

-- no packet came
pub none_in_epoch : (bounds : Bounds) → IsRunInEpoch bounds []
none_in_epoch bounds = record {
  packets = [];
  of_epoch = epoch.none;
  count = 0;
  run = λ source. record { as_many = refl; each = λ i below. absurd (omega arith) };
  taken = λ n. refl;
}
