-- The parts of a packet, as the calls on it find them.
use Rattle.rtp_wire.proofs.Common.{◌≡◌, ℕ, ◌+◌, ◌-◌, ◌*◌, ◌/◌, ◌%◌, ◌≤◌, Bool, true, false, List, length, take, drop, Option, Some, None, refl, sym, ap, subst, ◌∙◌, arith, ◌++◌, length-append, length-drop, length-take-le, slice_index, slice_range, is_some, option_map, if◌then◌else◌, w32, from_be_bytes, concat, first_chunks, length-map, none-some, ExtensionsForm, RtpPacket, sources_end, PacketParts, IsAnnounced, IsAnnouncedBlock, IsPacket, HasOtherForm, block_len, header_len_of, parts_of}
use Rattle.rtp_wire.specs.PartsAt.{has_block, form_in, header_end, parts_at}
use Rattle.rtp_wire.proofs.GroupLemmas.{length-concat, first_chunks-take}
use Rattle.rtp_wire.proofs.PacketLemmas.{one_packet, IsPacket-whole}
use Rattle.rtp_wire.proofs.HeaderFound.{HasHeader, HasHeader-packet, IsWhole-header}

-- the sources are within the datagram
pub sources_within : (bytes : List ℕ) (len : ℕ) (form : Option ExtensionsForm) → HasHeader bytes len form → sources_end bytes ≤ length bytes
unfolding header_end
sources_within bytes len form header = let ends = header.ends in let within = header.within in omega arith

-- the groups of the sources, from their part of the bytes
pub first_chunks-sources : (bytes : List ℕ) (end : ℕ) → end ≡ sources_end bytes → end ≤ length bytes
    → first_chunks 4 (length (slice_range bytes 12 end) / 4) (slice_range bytes 12 end) ≡ first_chunks 4 (slice_index bytes 0 % 16) (drop 12 bytes)
first_chunks-sources bytes end end-is within =
    let count = slice_index bytes 0 % 16 in
    let four : end - 12 ≡ 4 * count = omega arith in
    let slice : slice_range bytes 12 end ≡ take (4 * count) (drop 12 bytes) = ap (λ (k : ℕ). take k (drop 12 bytes)) four in
    let len : length (slice_range bytes 12 end) ≡ 4 * count = ap length slice ∙ length-take-le (4 * count) (drop 12 bytes) (omega (arith, length-drop 12 bytes)) in
    let quarter : length (slice_range bytes 12 end) / 4 ≡ count = omega arith in
    ap (λ (k : ℕ). first_chunks 4 k (slice_range bytes 12 end)) quarter ∙ ap (first_chunks 4 count) slice ∙ first_chunks-take count (drop 12 bytes)

-- the block, by the form and the length of the header
pub block-header : (bytes : List ℕ) (len : ℕ) (form : Option ExtensionsForm) → HasHeader bytes len form
    → option_map {U = ExtensionsForm × List ℕ} (λ f. (f, slice_range bytes (sources_end bytes + 4) len)) form ≡ (parts_at bytes).block
unfolding parts_at
block-header bytes len form header =
    ap (option_map {U = ExtensionsForm × List ℕ} (λ f. (f, slice_range bytes (sources_end bytes + 4) len))) header.announced
    ∙ ap (λ (end : ℕ). option_map {U = ExtensionsForm × List ℕ} (λ f. (f, slice_range bytes (sources_end bytes + 4) end)) (form_in bytes)) header.ends

-- X is set where there is a form
form_announced : (x : Bool) (found : Option ExtensionsForm) (form : ExtensionsForm) → (if x then found else None) ≡ Some form → x ≡ true
form_announced false found form is = absurd (none-some form is)
form_announced true found form is = refl

pub has_block-form : (bytes : List ℕ) (len : ℕ) (found : Option ExtensionsForm) (form : ExtensionsForm) → HasHeader bytes len found → found ≡ Some form → has_block bytes ≡ true
unfolding form_in
has_block-form bytes len found form header is = form_announced (has_block bytes) _ form (sym header.announced ∙ is)

-- the body begins within the header
pub body_within : (bytes : List ℕ) (len : ℕ) (form : Option ExtensionsForm) → HasHeader bytes len form → has_block bytes ≡ true → sources_end bytes + 4 ≤ len
unfolding header_end
body_within bytes len form header x =
    let ends = rw x at header.ends in
    omega arith

-- how many bytes a block takes that X announces
pub length-announced : (x : Bool) (block : Option (ExtensionsForm × List ℕ)) (part : List ℕ) → IsAnnounced x block part → length part ≡ block_len block
length-announced false None part is = ap length is
length-announced false (Some block) part is = absurd is
length-announced true None part is = absurd is
length-announced true (Some block) part is = let words = is.words in omega (arith, ap length is.body_is, length-drop 4 part)

-- an `Option` by its test
pub some_there : {A : Type 0} (o : Option A) → is_some o ≡ true → (x : A) × (o ≡ Some x)
some_there None some = absurd cc
some_there (Some x) some = (x, refl)

pub none_there : {A : Type 0} (o : Option A) → is_some o ≡ false → o ≡ None
none_there None none = refl
none_there (Some x) none = absurd cc

-- a packet without such a block has no other form
pub no_other_form : (bytes : List ℕ) (parts : PacketParts) → IsPacket bytes parts → parts.other_block ≡ None → HasOtherForm bytes → ⊥
no_other_form bytes parts is none found =
    let same : parts ≡ found.parts = sym (one_packet bytes parts is) ∙ one_packet bytes found.parts found.is_packet in
    none-some found.other (sym none ∙ ap (λ (p : PacketParts). p.other_block) same ∙ found.other_is)

-- a block of one of the two forms is the only one
pub announced : (x : Bool) (block : Option (ExtensionsForm × List ℕ)) (other : Option (ℕ × List ℕ)) (part : List ℕ) → other ≡ None → IsAnnouncedBlock x block other part → IsAnnounced x block part
announced x block other part none is = subst (λ (o : Option (ℕ × List ℕ)). IsAnnouncedBlock x block o part) none is

pub length-announced_block : (x : Bool) (block : Option (ExtensionsForm × List ℕ)) (other : Option (ℕ × List ℕ)) (part : List ℕ) → IsAnnouncedBlock x block other part
    → length part ≡ block_len block + block_len other
length-announced_block x block None part is = omega (arith, length-announced x block part is)
length-announced_block x None (Some other) part is = let words = is.2.words in omega (arith, ap length is.2.body_is, length-drop 4 part)
length-announced_block x (Some block) (Some other) part is = absurd (none-some block (sym is.1))

-- the header and the payload are the whole packet
pub length-packet : (bytes : List ℕ) (parts : PacketParts) → IsPacket bytes parts → header_len_of parts + length parts.payload ≡ length bytes
length-packet bytes parts is =
    let tail = is.part ++ parts.payload in
    let number : length is.groups ≡ length parts.sources = sym (ap length is.sources_are.numbers_are ∙ length-map is.groups (from_be_bytes w32)) in
    omega (
      arith,
      ap length is.in_order,
      length-append is.fixed (concat is.groups ++ tail),
      length-append (concat is.groups) tail,
      length-append is.part parts.payload,
      length-concat is.groups is.sources_are.of_four,
      is.fixed_is.twelve,
      number,
      length-announced_block parts.has_extension parts.block parts.other_block is.part is.part_is,
    )

-- the bytes of a packet are a packet with its parts
pub IsPacket-found : (packet : RtpPacket) → IsPacket packet.datagram.now (parts_of packet)
IsPacket-found packet =
    IsPacket-whole packet.datagram.now (packet.bytes 1) (IsWhole-header packet.datagram.now packet.header_len packet.form (HasHeader-packet packet))

-- the end of the header is the length of its parts
pub header_end-len : (packet : RtpPacket) → header_end packet.datagram.now ≡ header_len_of (parts_of packet)
unfolding parts_at
header_end-len packet =
    let bytes = packet.datagram.now in
    let whole = IsWhole-header bytes packet.header_len packet.form (HasHeader-packet packet) in
    let within = whole.within in
    let all = length-packet bytes (parts_of packet) (IsPacket-found packet) in
    omega (arith, length-drop (header_end bytes) bytes)
