use Rattle.std.proofs.Common.{ℕ, pos, ◌-ℤ◌, ◌≡◌, ◌^◌, ◌<◌, [], refl, ap, ◌∙◌, rules, arith, w32}
use Rattle.std.proofs.lemmas.Int.{to_z-of_z}
use Rattle.std.specs.Int.RustNames.{FitsSigned}
use Rattle.rtp_receive.specs.Reception.{count_expected, in_24_bits, extended_from, initial_number}
use Rattle.rtp_receive.proofs.ReceptionLemmas.{AreOf-reportable, IsFractionLost-same}
use Rattle.rtp_receive.proofs.reception.ReceptionStatistics.report.Goals as goal

pub returns-clause-report : goal.returns-clause-report
returns-clause-report c packets reported are =
    let can = AreOf-reportable packets reported c.args.self.now are (omega arith) in
    let fits : c.args.self.now.highest < 2 ^ 64 = search rules in
    let counts : c.args.self.now.received < 2 ^ 64 = search rules in
    let expected : c.saturating_add-expected.result ≡ count_expected packets = omega (arith, can.expected, can.first) in
    let signed : FitsSigned w32 c.cumulative_lost.result = search rules in
    record {
      fraction_is = IsFractionLost-same _ _ _ _ _
          (omega (arith, can.expected_before, are.expected_before_is)) (omega (arith, can.received_before, are.received_is, are.received_before_is)) c.fraction_lost.ensures;
      lost_is = to_z-of_z w32 c.cumulative_lost.result signed ∙ c.cumulative_lost.ensures ∙ ap (λ (n : ℕ). in_24_bits (pos n -ℤ pos c.args.self.now.received)) expected
          ∙ ap (λ (n : ℕ). in_24_bits (pos (count_expected packets) -ℤ pos n)) are.received_is;
      highest_is = c.extended_highest.ensures can.first ∙ ap (λ (n : ℕ). extended_from n c.args.self.now.highest) are.first_is
          ∙ ap (λ (n : ℕ). extended_from (initial_number packets) n) are.highest_is;
      jitter_is = omega (arith, can.scaled_jitter, are.scaled_jitter_is);
    }

pub returns-clause-after : goal.returns-clause-after
returns-clause-after c packets reported are =
    let can = AreOf-reportable packets reported c.args.self.now are (omega arith) in
    let fits : c.args.self.now.highest < 2 ^ 64 = search rules in
    record {
      since = [];
      in_order = refl;
      first_is = are.first_is;
      highest_is = are.highest_is;
      received_is = are.received_is;
      received_before_is = are.received_is;
      expected_before_is = omega (arith, can.expected, can.first);
      transit_is = are.transit_is;
      scaled_jitter_is = are.scaled_jitter_is;
    }
