-- What receivers say of each datagram of a run, with one replay window for all, and with one for each source (RFC 3550, 3; RFC 3711, 3.2.3 and 3.3.2).
use Rattle.std.specs.Prelude.{ℕ, List, Option}
use Rattle.rtp_receive.specs.declared.receiver.Verdict.{Verdict}
use Rattle.rtp_receive.specs.Verdicts.{PacketId, IsRun, TakesOnce}
use Rattle.rtp_receive.specs.TrueNumbers.{AreTrueNumbers, AreTrueVerdicts}
use Rattle.rtp_receive.specs.Sources.{at_source, AreRuns}
use Rattle.rtp_ext.specs.declared.map.ExtensionMap.{ExtensionMap}
use Rattle.rtp_wire.specs.declared.header.rtp_header.RtpHeader.{RtpHeader}
use Rattle.rtp_wire.specs.PacketIds.{ArePacketIds}
use Rattle.rtp_wire.specs.Sending.{packet_ids_of, AreSent}

-- a verdict for each datagram, by its packet id, of a receiver that starts at the rollover count 0
pub record AreVerdicts (exts : ExtensionMap) (datagrams : List (List ℕ)) (verdicts : List Verdict) : Type 0 where
  pub packet_ids : List (Option PacketId)
  pub are_packet_ids : ArePacketIds exts datagrams packet_ids
  pub run : IsRun 0 packet_ids verdicts

-- a verdict for each datagram, by its packet id and the verdicts on the datagrams of its source before it
pub record AreVerdictsBySource (exts : ExtensionMap) (datagrams : List (List ℕ)) (verdicts : List Verdict) : Type 0 where
  pub packet_ids : List (Option PacketId)
  pub are_packet_ids : ArePacketIds exts datagrams packet_ids
  pub runs : AreRuns packet_ids verdicts

-- a fact of one source: of the packet ids, the datagrams and the verdicts at its places
abbrev pub FactOfSource : Type 1
FactOfSource = List (Option PacketId) → List (List ℕ) → List Verdict → Type 0

-- a fact of each source by itself
abbrev pub OfEachSource : ExtensionMap → List (List ℕ) → List Verdict → FactOfSource → Type 0
OfEachSource exts datagrams verdicts Fact = (packet_ids : List (Option PacketId)) → ArePacketIds exts datagrams packet_ids → (source : ℕ)
    → Fact (at_source source packet_ids packet_ids) (at_source source packet_ids datagrams) (at_source source packet_ids verdicts)

-- the verdicts are those of a run of the source's datagrams alone
abbrev pub IsRunAlone : ExtensionMap → FactOfSource
IsRunAlone exts packet_ids datagrams verdicts = AreVerdicts exts datagrams verdicts

-- no number is taken twice of the source
abbrev pub TakesEachOnce : FactOfSource
TakesEachOnce packet_ids datagrams verdicts = TakesOnce verdicts

-- these numbers decide, where they are the true numbers of the source's packets
abbrev pub IsDecidedBy : List ℕ → FactOfSource
IsDecidedBy numbers packet_ids datagrams verdicts = AreTrueNumbers 0 packet_ids numbers → AreTrueVerdicts packet_ids numbers verdicts

-- these numbers decide, where they are those of a sender whose headers arrive
abbrev pub IsDecidedBySender : ExtensionMap → List RtpHeader → List ℕ → FactOfSource
IsDecidedBySender exts headers numbers packet_ids datagrams verdicts = AreSent exts headers numbers datagrams → AreTrueVerdicts (packet_ids_of headers) numbers verdicts
