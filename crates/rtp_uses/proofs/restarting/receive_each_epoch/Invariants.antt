use Rattle.std.proofs.Common.{◌≡◌, length, take, vec_capacity}
use Rattle.rtp_receive.specs.RestartingState.{bounds_of, Remembers}
use Rattle.rtp_receive.specs.EpochRun.{IsRunInEpoch, AreRising}
use Rattle.rtp_uses.specs.Arriving.{usual_bounds, arrivals_of}
use Rattle.rtp_uses.proofs.restarting.receive_each_epoch.Given as goal

-- the receiver remembers the packets so far, with room for the verdicts on the others
abbrev pub invariant-loop-sequence_number : goal.invariant-loop-sequence_number
invariant-loop-sequence_number l = record {
  remembers : Remembers 16 l.receiver (arrivals_of (take l.sequence_number-index l.sequence_numbers) l.verdicts.items);
  bounds : bounds_of 16 l.receiver ≡ usual_bounds;
  in_epoch : IsRunInEpoch usual_bounds (arrivals_of (take l.sequence_number-index l.sequence_numbers) l.verdicts.items);
  rising : AreRising (arrivals_of (take l.sequence_number-index l.sequence_numbers) l.verdicts.items);
  room : vec_capacity l.verdicts ≡ length l.sequence_numbers;
  as_many : length l.verdicts.items ≡ l.sequence_number-index;
}
