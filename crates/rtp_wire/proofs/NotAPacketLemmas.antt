-- The causes for which a datagram is no packet, and the first of them.
use Rattle.rtp_wire.proofs.Common.{◌≡◌, ℕ, ◌/◌, ◌%◌, ◌<◌, ◌≤◌, List, length, drop, bit_and, ap, ◌∙◌, arith, slice_index, NotAPacket, CutFixedPart, OtherVersion, CutSources, CutBlockHeader, CutBlock, cut_header, cut_words, IsNoPacket, cut_fixed, other_version, cut_sources, cut_block, sources_end, AppliesToBlock, Applies, place_of, IsFirstOf, IsFirstCause, PacketParts, IsPacket}
use Rattle.rtp_wire.proofs.HeaderFound.{x_set}
use Rattle.rtp_wire.proofs.PacketLemmas.{no_packet}

-- bytes to which a cause applies are no packet
pub IsNoPacket-applies : (bytes : List ℕ) (cause : NotAPacket) → Applies bytes cause → IsNoPacket bytes
IsNoPacket-applies bytes CutFixedPart short = cut_fixed short
IsNoPacket-applies bytes OtherVersion other = other_version other
IsNoPacket-applies bytes CutSources short = cut_sources short
IsNoPacket-applies bytes CutBlockHeader short = cut_block short.0 (cut_header short.1)
IsNoPacket-applies bytes CutBlock short = cut_block short.0 (cut_words short.1)

pub no_packet-refused : (bytes : List ℕ) (parts : PacketParts) → IsNoPacket bytes → IsPacket bytes parts → ⊥
no_packet-refused bytes parts (cut_fixed short) = no_packet bytes CutFixedPart parts short
no_packet-refused bytes parts (other_version other) = no_packet bytes OtherVersion parts other
no_packet-refused bytes parts (cut_sources short) = no_packet bytes CutSources parts short
no_packet-refused bytes parts (cut_block set (cut_header short)) = no_packet bytes CutBlockHeader parts (set, short)
no_packet-refused bytes parts (cut_block set (cut_words short)) = no_packet bytes CutBlock parts (set, short)

-- what applies to the block where no earlier cause does
applies-after : (bytes : List ℕ) (cause : NotAPacket) → slice_index bytes 0 / 16 % 2 ≡ 1 → AppliesToBlock (drop (sources_end bytes) bytes) cause → Applies bytes cause
applies-after bytes CutFixedPart set applies = absurd applies
applies-after bytes OtherVersion set applies = absurd applies
applies-after bytes CutSources set applies = absurd applies
applies-after bytes CutBlockHeader set applies = (set, applies)
applies-after bytes CutBlock set applies = (set, applies)

applied-after : (bytes : List ℕ) (cause : NotAPacket) → 12 ≤ length bytes → slice_index bytes 0 / 64 ≡ 2 → sources_end bytes ≤ length bytes
    → Applies bytes cause → AppliesToBlock (drop (sources_end bytes) bytes) cause
applied-after bytes CutFixedPart long version room short = omega arith
applied-after bytes OtherVersion long version room other = other version
applied-after bytes CutSources long version room short = omega arith
applied-after bytes CutBlockHeader long version room applies = applies.1
applied-after bytes CutBlock long version room applies = applies.1

pub IsFirstCause-block : (bytes after : List ℕ) (start : ℕ) (cause : NotAPacket) → 12 ≤ length bytes → slice_index bytes 0 / 64 ≡ 2 → start ≡ sources_end bytes → start ≤ length bytes
    → after ≡ drop start bytes → (bit_and (slice_index bytes 0) 16 ≡ 0 → ⊥) → IsFirstOf (AppliesToBlock after) cause → IsFirstCause bytes cause
IsFirstCause-block bytes after start cause long version start-is room after-is set is =
    let same : after ≡ drop (sources_end bytes) bytes = after-is ∙ ap (λ (k : ℕ). drop k bytes) start-is in
    let here = rw same at is in
    record {
      applies = applies-after bytes cause (x_set _ set) here.applies;
      none_before = λ earlier before applies. here.none_before earlier before (applied-after bytes earlier long version (omega arith) applies);
    }

-- the first cause in what is to be a block: its first four bytes are cut short, or its words are
earlier_none : (bytes : List ℕ) (n : ℕ) → n ≤ 4 → (3 < n → 4 ≤ length bytes) → (earlier : NotAPacket) → place_of earlier < n → AppliesToBlock bytes earlier → ⊥
earlier_none bytes n few long CutFixedPart before applies = applies
earlier_none bytes n few long OtherVersion before applies = applies
earlier_none bytes n few long CutSources before applies = applies
earlier_none bytes n few long CutBlockHeader before applies = let there = long before in omega arith
earlier_none bytes n few long CutBlock before applies = omega arith

pub IsFirstOf-cut_header : (bytes : List ℕ) → length bytes < 4 → IsFirstOf (AppliesToBlock bytes) CutBlockHeader
IsFirstOf-cut_header bytes short = record { applies = short; none_before = earlier_none bytes 3 (omega arith) (λ more. absurd (omega arith)) }

pub IsFirstOf-cut_block : (bytes : List ℕ) → 4 ≤ length bytes → AppliesToBlock bytes CutBlock → IsFirstOf (AppliesToBlock bytes) CutBlock
IsFirstOf-cut_block bytes long short = record { applies = short; none_before = earlier_none bytes 4 (omega arith) (λ _. long) }
