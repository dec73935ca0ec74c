mod Common
mod FlagLemmas
mod FixedLemmas
mod GroupLemmas
pub mod BlockLemmas
pub mod PacketLemmas
pub mod HeaderFound
pub mod PartsLemmas
pub mod BytesBetween
mod PacketChanges
pub mod PacketBufLemmas
mod AddedPaddingLemmas
mod PacketParts
pub mod PaddingChanges
mod ChangedPackets
mod AnyBlockLemmas
pub mod NotAPacketLemmas
pub mod NoHeaderLemmas
pub mod ValuesLemmas
mod LeftOutLemmas
mod HeaderLemmas
mod HeaderUnderEachMap
mod BlockWriting
mod RoundTrip
mod WrittenInFormLemmas
mod WritingWithLemmas
mod PaddingLemmas
mod BlockLaidLemmas
pub mod ResizedLemmas
mod GrowthLemmas
mod PutPlanLemmas
mod SetInPlaceLemmas
mod SplicedLemmas
mod ReplacedLemmas
mod RewrittenLemmas
mod PutElementLemmas
mod RemadeLemmas
pub mod RemadePacketLemmas
pub mod CompactLemmas
mod StandardFacts
mod PacketIdLemmas
mod SendingLemmas
pub mod RunLemmas
mod RetransmissionBytes
mod RetransmissionCauses
pub mod RetransmissionHeaders
mod RetransmissionLemmas
