-- Packets that come later add to the counts, and how large the jitter can be.
use Rattle.std.proofs.Common.{◌≡◌, ◌≢◌, ℕ, ◌+◌, ◌-◌, ◌/◌, ◌^◌, ◌<◌, ◌≤◌, max, List, [], ◌∷◌, ◌++◌, refl, sym, ap, subst, ◌∙◌, arith, length-append}
use Rattle.rtp_receive.specs.Reception.{ReceivedPacket, initial_number, highest_number, counted, count_received, count_expected, IsFractionLost, difference, transit_time, jitter_in_16ths}
use Rattle.rtp_receive.specs.ReceptionState.{AreOf}
use Rattle.rtp_receive.specs.declared.reception.ReceptionStatistics.{ReceptionStatistics}

initial-le-highest : (packet : ReceivedPacket) (before : List ReceivedPacket) → initial_number (packet ∷ before) ≤ highest_number (packet ∷ before)
initial-le-highest packet [] = omega arith
initial-le-highest packet (earlier ∷ before) = let h = initial-le-highest earlier before in omega arith

initial-later : (since : List ReceivedPacket) (packet : ReceivedPacket) (before : List ReceivedPacket) → initial_number (since ++ (packet ∷ before)) ≡ initial_number (packet ∷ before)
initial-later [] packet before = refl
initial-later (later ∷ []) packet before = refl
initial-later (later ∷ (next ∷ since)) packet before = initial-later (next ∷ since) packet before

highest-later : (since before : List ReceivedPacket) → highest_number before ≤ highest_number (since ++ before)
highest-later [] before = omega arith
highest-later (later ∷ since) before = let h = highest-later since before in omega arith

pub received-later : (since before : List ReceivedPacket) → count_received before ≤ count_received (since ++ before)
received-later since before = omega (arith, length-append since before)

pub expected-later : (since before : List ReceivedPacket) → count_expected before ≤ count_expected (since ++ before)
expected-later since [] = omega arith
expected-later [] (packet ∷ before) = omega arith
expected-later (later ∷ since) (packet ∷ before) =
    let same = initial-later (later ∷ since) packet before in
    let above = highest-later (later ∷ since) (packet ∷ before) in
    omega arith

difference-le : (a b : ℕ) → difference a b ≤ 2 ^ 31
difference-le a b = omega arith

pub jitter-le : (packets : List ReceivedPacket) → jitter_in_16ths packets ≤ 2 ^ 35 + 7
jitter-le [] = omega arith
jitter-le (packet ∷ []) = omega arith
jitter-le (packet ∷ (previous ∷ before)) =
    let h = jitter-le (previous ∷ before) in
    let d = difference-le (transit_time previous) (transit_time packet) in
    omega arith

-- ---- what statistics hold

-- a packet that came makes statistics of these packets those of one more
pub AreOf-recorded : (packets reported : List ReceivedPacket) (packet : ReceivedPacket) (old new : ReceptionStatistics) → AreOf packets reported old
    → new.received ≡ counted (old.received + 1) → new.received_before ≡ old.received_before → new.expected_before ≡ old.expected_before → new.transit ≡ transit_time packet
    → (old.received ≡ 0 → (new.first ≡ packet.number) × (new.highest ≡ packet.number) × (new.scaled_jitter ≡ old.scaled_jitter))
    → (0 < old.received → (new.first ≡ old.first) × (new.highest ≡ max old.highest packet.number)
    × (new.scaled_jitter ≡ old.scaled_jitter + difference old.transit (transit_time packet) - (old.scaled_jitter + 8) / 16))
    → AreOf (packet ∷ packets) reported new
AreOf-recorded [] reported packet old new are received received_before expected_before transit first later = let now = first are.received_is in record {
  since = packet ∷ are.since;
  in_order = ap (λ all. packet ∷ all) are.in_order;
  first_is = now.0;
  highest_is = now.1 ∙ omega arith;
  received_is = omega (arith, are.received_is);
  received_before_is = received_before ∙ are.received_before_is;
  expected_before_is = expected_before ∙ are.expected_before_is;
  transit_is = transit;
  scaled_jitter_is = now.2 ∙ are.scaled_jitter_is;
}
AreOf-recorded (previous ∷ before) reported packet old new are received received_before expected_before transit first later =
    let now = later (omega (arith, are.received_is)) in
    let highest = are.highest_is in
    let scaled = are.scaled_jitter_is in
    let was = are.transit_is in
    record {
      since = packet ∷ are.since;
      in_order = ap (λ all. packet ∷ all) are.in_order;
      first_is = now.0 ∙ are.first_is;
      highest_is = omega (arith, now.1);
      received_is = omega (arith, are.received_is);
      received_before_is = received_before ∙ are.received_before_is;
      expected_before_is = expected_before ∙ are.expected_before_is;
      transit_is = transit;
      scaled_jitter_is = now.2 ∙ cc;
    }

-- what a report needs of them, where a packet came since the last one
pub record AreReportable (packets : List ReceivedPacket) (statistics : ReceptionStatistics) : Type 0 where
  pub first : statistics.first ≤ statistics.highest
  pub expected : count_expected packets ≡ counted (statistics.highest - statistics.first + 1)
  pub expected_before : statistics.expected_before ≤ count_expected packets
  pub received_before : statistics.received_before < statistics.received
  pub scaled_jitter : statistics.scaled_jitter ≤ 2 ^ 35 + 7

pub AreOf-reportable : (packets reported : List ReceivedPacket) (statistics : ReceptionStatistics) → AreOf packets reported statistics
    → statistics.received ≢ statistics.received_before → AreReportable packets statistics
AreOf-reportable [] reported statistics are differ =
    let r : count_received reported ≤ count_received [] = subst (λ (all : List ReceivedPacket). count_received reported ≤ count_received all) (sym are.in_order) (received-later are.since reported) in
    absurd (omega (arith, are.received_is, are.received_before_is))
AreOf-reportable (packet ∷ before) reported statistics are differ =
    let r : count_received reported ≤ count_received (packet ∷ before) = subst (λ (all : List ReceivedPacket). count_received reported ≤ count_received all) (sym are.in_order) (received-later are.since reported) in
    let e : count_expected reported ≤ count_expected (packet ∷ before) = subst (λ (all : List ReceivedPacket). count_expected reported ≤ count_expected all) (sym are.in_order) (expected-later are.since reported) in
    let f = initial-le-highest packet before in
    let j = jitter-le (packet ∷ before) in
    record {
      first = omega (arith, are.first_is, are.highest_is);
      expected = omega (arith, are.first_is, are.highest_is);
      expected_before = omega (arith, are.expected_before_is);
      received_before = omega (arith, are.received_is, are.received_before_is);
      scaled_jitter = omega (arith, are.scaled_jitter_is);
    }

pub IsFractionLost-same : (a b c d fraction : ℕ) → a ≡ b → c ≡ d → IsFractionLost a c fraction → IsFractionLost b d fraction
IsFractionLost-same a b c d fraction e f is = subst (λ (n : ℕ). IsFractionLost n d fraction) e (subst (λ (n : ℕ). IsFractionLost a n fraction) f is)
