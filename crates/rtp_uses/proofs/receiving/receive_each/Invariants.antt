use Rattle.std.proofs.Common.{◌≡◌, length, take, vec_capacity}
use Rattle.rtp_wire.specs.Sending.{packet_ids_of}
use Rattle.rtp_receive.proofs.VerdictLemmas.{SoFar}
use Rattle.rtp_uses.proofs.receiving.receive_each.Given as goal

-- the verdicts so far, with room for the others
abbrev pub invariant-loop-header : goal.invariant-loop-header
invariant-loop-header l = record {
  so_far : SoFar (take l.header-index (packet_ids_of l.headers)) l.verdicts.items l.receiver;
  room : vec_capacity l.verdicts ≡ length l.headers;
  as_many : length l.verdicts.items ≡ l.header-index;
}
