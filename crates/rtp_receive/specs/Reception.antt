-- What a receiver reports of the packets that came from a source (RFC 3550, 6.4.1, A.3 and A.8).
use Rattle.std.specs.Prelude.{◌≡◌, ℕ, ◌+◌, ◌-◌, ◌*◌, ◌/◌, ◌%◌, ◌^◌, ◌<◌, ◌≤◌, min, max, ℤ, pos, negsuc, ◌-ℤ◌, List, [], ◌∷◌, length}
use Rattle.std.specs.Int.{int_min, int_max, w32, to_be_bytes}
use Rattle.std.specs.List.{flat_map}
use Rattle.rtp_receive.specs.declared.reception_report.ReceptionReport.{ReceptionReport}

-- a packet that came, with its extended sequence number, its timestamp, and the time of its arrival by the timestamp's clock; in a list of packets the last one that came is the first
pub record ReceivedPacket : Type 0 where
  pub number : ℕ
  pub timestamp : ℕ
  pub arrival : ℕ

-- ---- expected and lost packets (6.4.1 and A.3)

-- the number of the first packet that came
abbrev pub initial_number : List ReceivedPacket → ℕ
initial_number [] = 0
initial_number (packet ∷ []) = packet.number
initial_number (packet ∷ (earlier ∷ before)) = initial_number (earlier ∷ before)

-- the highest number of the packets that came
abbrev pub highest_number : List ReceivedPacket → ℕ
highest_number [] = 0
highest_number (packet ∷ before) = max packet.number (highest_number before)

-- a count, which stays at the highest number of 64 bits
abbrev pub counted : ℕ → ℕ
counted count = min count (2 ^ 64 - 1)

-- how many packets came, those that are late and duplicates among them
abbrev pub count_received : List ReceivedPacket → ℕ
count_received packets = counted (length packets)

-- how many packets were expected: from the first one's number to the highest
abbrev pub count_expected : List ReceivedPacket → ℕ
count_expected [] = 0
count_expected (packet ∷ before) = counted (highest_number (packet ∷ before) - initial_number (packet ∷ before) + 1)

-- of so many packets that were expected since the last report, and so many received, this fraction is lost: in 256ths, rounded down, and none where the loss is negative
pub record IsFractionLost (expected received fraction : ℕ) : Type 0 where
  pub some : received < expected → fraction ≡ 256 * (expected - received) / expected
  pub none : expected ≤ received → fraction ≡ 0

-- the number nearest to this one that 24 signed bits can carry
abbrev pub in_24_bits : ℤ → ℤ
in_24_bits number = int_max (negsuc 8388607) (int_min number (pos 8388607))

-- the highest number's 16 bits, and above them 16 bits of how often they rolled over since the first packet
abbrev pub extended_from : ℕ → ℕ → ℕ
extended_from initial highest = 65536 * ((highest / 65536 - initial / 65536) % 65536) + highest % 65536

-- ---- interarrival jitter (6.4.1 and A.8)

-- the relative transit time of a packet, modulo 2^32
abbrev pub transit_time : ReceivedPacket → ℕ
transit_time packet = (packet.arrival + (2 ^ 32 - packet.timestamp)) % 2 ^ 32

-- by how much two transit times differ, modulo 2^32
abbrev pub difference : ℕ → ℕ → ℕ
difference a b = min (max a b - min a b) (2 ^ 32 - (max a b - min a b))

-- sixteen times the jitter, in integers: a sixteenth of it, rounded, leaves it with each packet, and the difference in transit time from the packet that came before is added
abbrev pub jitter_in_16ths : List ReceivedPacket → ℕ
jitter_in_16ths [] = 0
jitter_in_16ths (packet ∷ []) = 0
jitter_in_16ths (packet ∷ (previous ∷ before)) = let scaled = jitter_in_16ths (previous ∷ before) in
    scaled + difference (transit_time previous) (transit_time packet) - (scaled + 8) / 16

-- ---- the report

-- a report on these packets, of which those reported came before the last report
pub record IsReportOn (packets reported : List ReceivedPacket) (report : ReceptionReport) : Type 0 where
  pub fraction_is : IsFractionLost (count_expected packets - count_expected reported) (count_received packets - count_received reported) report.fraction_lost
  pub lost_is : report.cumulative_lost ≡ in_24_bits (pos (count_expected packets) -ℤ pos (count_received packets))
  pub highest_is : report.extended_highest ≡ extended_from (initial_number packets) (highest_number packets)
  pub jitter_is : report.jitter ≡ jitter_in_16ths packets / 16

-- the number in 24 bits, in two's complement
abbrev pub bits_24 : ℤ → ℕ
bits_24 (pos n) = n
bits_24 (negsuc n) = 16777215 - n

-- a report block's second word: the fraction lost, and the packets lost in 24 bits
abbrev pub lost_word : ReceptionReport → ℕ
lost_word report = 16777216 * report.fraction_lost + bits_24 (in_24_bits report.cumulative_lost)

-- the 24 bytes of a report block (6.4.1), with the SSRC in front, and the last sender report and the delay since it at the end
abbrev pub block_bytes : ℕ → ReceptionReport → ℕ → ℕ → List ℕ
block_bytes source report last_report delay = flat_map (to_be_bytes w32)
    (source ∷ lost_word report ∷ report.extended_highest ∷ report.jitter ∷ last_report ∷ delay ∷ [])
