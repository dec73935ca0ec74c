use Rattle.rtp_base.proofs.Common.{◌≡◌, Result, IfOk, Ok, ℕ, subst, sym, IsFrequencyText}
use Rattle.rtp_base.specs.declared.mtime.frequency.ParseFrequencyError.{ParseFrequencyError}
use Rattle.rtp_base.proofs.FrequencyLemmas.{refused, answered}
use Rattle.rtp_base.proofs.mtime.frequency.FrequencyFromStr.from_str.Goals as goal

pub returns-in-Ok : goal.returns-in-Ok
returns-in-Ok c =
    let text = c.args.s.now in
    subst (λ (r : Result ℕ ParseFrequencyError). IfOk r (IsFrequencyText text) × ((hertz : ℕ) → IsFrequencyText text hertz → r ≡ Ok hertz)) (sym c.ok_or.ensures.value)
    (answered text c.in-Ok.hertz c.new.result (record {}) c.in-Ok.ensures.value.0 c.new.ensures)

pub returns-in-Err : goal.returns-in-Err
returns-in-Err c = (tt, λ hertz is. absurd (refused c.args.s.now c.in-Err.ensures.value.0 hertz is))
