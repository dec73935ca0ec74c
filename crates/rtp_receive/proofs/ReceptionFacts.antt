-- Worked rows, computed from the definitions.
use Rattle.std.proofs.Common.{◌≡◌, ℕ, pos, negsuc, ◌-ℤ◌, List, [], ◌∷◌, refl, arith}
use Rattle.rtp_receive.specs.Reception.{ReceivedPacket, count_received, count_expected, IsFractionLost, in_24_bits, extended_from, difference, jitter_in_16ths, block_bytes}

abbrev at : ℕ → ℕ → ℕ → ReceivedPacket
at number timestamp arrival = record { number = number; timestamp = timestamp; arrival = arrival }

-- 10, 11, 13, 13 again and 9 came: four expected, five received
abbrev few : List ReceivedPacket
few = at 9 0 0 ∷ at 13 0 0 ∷ at 13 0 0 ∷ at 11 0 0 ∷ at 10 0 0 ∷ []

few_expected : count_expected few ≡ 4
few_expected = refl

few_received : count_received few ≡ 5
few_received = refl

few_lost : in_24_bits (pos (count_expected few) -ℤ pos (count_received few)) ≡ negsuc 0
few_lost = refl

-- one lost of three is 85 of 256, and all but one of 300 are 255; none is where one more came than was due
a_third : IsFractionLost 3 2 85
a_third = record { some = λ lost. refl; none = λ none. absurd (omega (arith, none)) }

nearly_all : IsFractionLost 300 1 255
nearly_all = record { some = λ lost. refl; none = λ none. absurd (omega (arith, none)) }

one_more : IsFractionLost 3 4 0
one_more = record { some = λ lost. absurd (omega (arith, lost)); none = λ none. refl }

-- 24 signed bits
at_most : in_24_bits (pos 8388608) ≡ pos 8388607
at_most = refl

at_least : in_24_bits (pos 1 -ℤ pos 8388610) ≡ negsuc 8388607
at_least = refl

-- from 65,535 on 65,536 is one cycle and 0; under the rollover count 3 the first packet is in no cycle; and 65,536 cycles are none
one_cycle : extended_from 65535 65536 ≡ 65536
one_cycle = refl

no_cycle : extended_from 196613 196620 ≡ 12
no_cycle = refl

all_cycles : extended_from 7 4294967301 ≡ 5
all_cycles = refl

-- how far apart transit times are, the shorter way round
shorter_way : difference 4294967290 4 ≡ 10
shorter_way = refl

farthest : difference 5 2147483653 ≡ 2147483648
farthest = refl

-- transit times of 100, 130 and 110 ticks: 30, and then 30 - 2 + 20
some_jitter : jitter_in_16ths (at 3 320 430 ∷ at 2 160 290 ∷ at 1 0 100 ∷ []) ≡ 48
some_jitter = refl

-- the same across the wrap of the timestamps
wrapped_jitter : jitter_in_16ths (at 3 24 430 ∷ at 2 4294967160 290 ∷ at 1 4294967000 100 ∷ []) ≡ 48
wrapped_jitter = refl

-- the block of the source 44: a quarter lost, two more came than were due, and a delay of one second
block : block_bytes 44 (record { fraction_lost = 64; cumulative_lost = negsuc 1; extended_highest = 65544; jitter = 1 }) 305419896 65536
    ≡ 0 ∷ 0 ∷ 0 ∷ 44 ∷ 64 ∷ 255 ∷ 255 ∷ 254 ∷ 0 ∷ 1 ∷ 0 ∷ 8 ∷ 0 ∷ 0 ∷ 0 ∷ 1 ∷ 18 ∷ 52 ∷ 86 ∷ 120 ∷ 0 ∷ 1 ∷ 0 ∷ 0 ∷ []
block = refl
