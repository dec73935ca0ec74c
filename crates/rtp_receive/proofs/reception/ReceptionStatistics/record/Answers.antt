use Rattle.std.proofs.Common.{ℕ, ◌+◌, ◌-◌, ◌/◌, ap, ◌∙◌, arith}
use Rattle.rtp_receive.specs.declared.reception.ReceptionStatistics.{ReceptionStatistics}
use Rattle.rtp_receive.proofs.ReceptionLemmas.{AreOf-recorded, jitter-le}
use Rattle.rtp_receive.proofs.reception.ReceptionStatistics.record.Goals as goal
use Rattle.rtp_receive.proofs.reception.ReceptionStatistics.record.Goals.{then-self-eq0, else-self-eq0}

pub returns : goal.returns
returns c packets reported are = elim c.if-self-eq0.branch [
  | then-self-eq0 w ↦ AreOf-recorded packets reported _ c.args.self.now _ are
      (omega (arith, ap (λ (s : ReceptionStatistics). s.received) w.self-is))
      (ap (λ (s : ReceptionStatistics). s.received_before) w.self-is)
      (ap (λ (s : ReceptionStatistics). s.expected_before) w.self-is)
      (omega arith)
      (λ none. (
        ap (λ (s : ReceptionStatistics). s.first) w.self-is ∙ w.get-self.ensures,
        ap (λ (s : ReceptionStatistics). s.highest) w.self-is ∙ w.get-self-then-self-eq0.ensures,
        ap (λ (s : ReceptionStatistics). s.scaled_jitter) w.self-is,
      ))
      (λ some. absurd (omega arith))
  | else-self-eq0 w ↦ AreOf-recorded packets reported _ c.args.self.now _ are
      (omega (arith, ap (λ (s : ReceptionStatistics). s.received) w.self-is))
      (ap (λ (s : ReceptionStatistics). s.received_before) w.self-is)
      (ap (λ (s : ReceptionStatistics). s.expected_before) w.self-is)
      (omega arith)
      (λ none. absurd (omega arith))
      (λ some. (
        ap (λ (s : ReceptionStatistics). s.first) w.self-is,
        omega (arith, ap (λ (s : ReceptionStatistics). s.highest) w.self-is),
        ap (λ (s : ReceptionStatistics). s.scaled_jitter) w.self-is
            ∙ w.smoothed-self.ensures (omega (arith, jitter-le packets, are.scaled_jitter_is))
            ∙ ap (λ (d : ℕ). c.args.self.now.scaled_jitter + d - (c.args.self.now.scaled_jitter + 8) / 16) w.apart.ensures,
      ))
]
