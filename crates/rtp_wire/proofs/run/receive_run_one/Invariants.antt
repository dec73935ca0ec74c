use Rattle.rtp_wire.proofs.Common.{◌≡◌, length, map, take, vec_capacity, SoFar}
use Rattle.rtp_wire.proofs.RunLemmas.{ReadSoFar}
use Rattle.rtp_wire.proofs.run.receive_run_one.Given as goal

-- the verdicts so far, with room for the others
abbrev pub invariant-loop-datagram : goal.invariant-loop-datagram
invariant-loop-datagram l =
    ReadSoFar (take l.datagram-index (map (λ d. d.items) l.datagrams)) (λ packet_ids. SoFar packet_ids l.verdicts.items l.receiver)
    × (vec_capacity l.verdicts ≡ length l.datagrams) × (length l.verdicts.items ≡ l.datagram-index)
