-- What statistics hold of the packets that came.
use Rattle.std.specs.Prelude.{◌≡◌, ℕ, List, [], ◌∷◌, ◌++◌}
use Rattle.rtp_receive.specs.declared.reception.ReceptionStatistics.{ReceptionStatistics}
use Rattle.rtp_receive.specs.Reception.{ReceivedPacket, initial_number, highest_number, count_received, count_expected, transit_time, jitter_in_16ths}

-- the transit time of the last packet that came
abbrev pub last_transit : List ReceivedPacket → ℕ
last_transit [] = 0
last_transit (packet ∷ before) = transit_time packet

-- the statistics of these packets, of which those reported came before the last report
pub record AreOf (packets reported : List ReceivedPacket) (statistics : ReceptionStatistics) : Type 0 where
  pub since : List ReceivedPacket
  pub in_order : packets ≡ since ++ reported
  pub first_is : statistics.first ≡ initial_number packets
  pub highest_is : statistics.highest ≡ highest_number packets
  pub received_is : statistics.received ≡ count_received packets
  pub received_before_is : statistics.received_before ≡ count_received reported
  pub expected_before_is : statistics.expected_before ≡ count_expected reported
  pub transit_is : statistics.transit ≡ last_transit packets
  pub scaled_jitter_is : statistics.scaled_jitter ≡ jitter_in_16ths packets
