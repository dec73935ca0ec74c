-- A header that gets new ids and fields, and whether its block can carry the ids.
use Rattle.std.proofs.Common.{◌≡◌, ℕ, ◌<◌, Bool, true, false, List, [], ◌++◌, length, take, drop, Option, Some, None, IfSome, All, ◌↔◌, refl, sym, ap, subst, ◌∙◌, arith, Fits, w8}
use Rattle.std.specs.Prelude.{slice_index, ◌+◌, slice_range}
use Rattle.std.specs.Option.{IfNone}
use Rattle.std.specs.List.{concat}
use Rattle.std.proofs.lemmas.List.{take-append-drop}
use Rattle.std.proofs.lemmas.Bool.{false≢true}
use Rattle.std.proofs.lemmas.Option.{none-some}
use Rattle.rtp_ext.specs.declared.form.ExtensionsForm.{ExtensionsForm}
use Rattle.rtp_ext.specs.Elements.{Element}
use Rattle.rtp_ext.specs.ElementsInPlace.{CanRenumber, ChangesIds}
use Rattle.rtp_ext.specs.ElementReading.{elements_left}
use Rattle.rtp_ext.proofs.ElementLemmasOfBodies.{AreBytes, AreElements-found}
use Rattle.rtp_ext.proofs.ValuesFound.{AreBytes-front, AreBytes-back}
use Rattle.rtp_wire.specs.declared.packet.fields.Fields.{Fields}
use Rattle.rtp_wire.specs.declared.packet.retransmission.Layout.{Layout}
use Rattle.rtp_wire.specs.declared.packet.rtp_packet_mut.RtpPacketMut.{RtpPacketMut}
use Rattle.rtp_wire.specs.ChangedPacket.{ChangesBlock, ChangesOnly, ChangesOnlyBody}
use Rattle.rtp_wire.specs.GivenFields.{with_header_fields, LieBetween}
use Rattle.rtp_wire.specs.Packet.{PacketParts, IsAnnouncedBlock, IsPacket}
use Rattle.rtp_wire.specs.PacketElements.{AreElementsOf}
use Rattle.rtp_wire.specs.PartsAt.{parts_at}
use Rattle.rtp_wire.specs.PartsOf.{parts_in}
use Rattle.rtp_wire.specs.Retransmission.{IsBlockUnder, IsPacketWith, HasHighId, KeepsBlockHeader}
use Rattle.rtp_wire.specs.RetransmissionParts.{IsChangedHeader}
use Rattle.rtp_wire.proofs.HeaderFound.{HasHeader-packet_mut, IsWhole-header}
use Rattle.rtp_wire.proofs.PacketLemmas.{one_packet, IsPacket-whole}
use Rattle.rtp_wire.specs.NotAHeader.{sources_end}
use Rattle.rtp_wire.proofs.BytesBetween.{range_after, in_fixed_part}
use Rattle.rtp_wire.proofs.BlockLemmas.{slice_range-take}

-- ---- the elements

-- what X announces has some elements
elements_announced : (extension : Bool) (block : Option (ExtensionsForm × List ℕ)) (other : Option (ℕ × List ℕ)) (part : List ℕ) → AreBytes part → IsAnnouncedBlock extension block other part
    → (elements : List Element) × AreElementsOf block elements
elements_announced extension None other part all is = ([], refl)
elements_announced extension (Some block) (Some other) part all is = absurd (none-some block (sym is.1))
elements_announced false (Some block) None part all is = absurd is
elements_announced true (Some block) None part all is =
    let body : AreBytes block.1 = subst AreBytes (sym is.body_is) (AreBytes-back (take 4 part) (drop 4 part) (subst AreBytes (sym (take-append-drop 4 part)) all)) in
    (elements_left block.0 block.1, AreElements-found block.0 block.1 body)

pub elements_there : (bytes : List ℕ) (parts : PacketParts) → AreBytes bytes → IsPacket bytes parts → (elements : List Element) × AreElementsOf parts.block elements
elements_there bytes parts all is =
    let after_fixed : AreBytes (concat is.groups ++ (is.part ++ parts.payload)) = AreBytes-back is.fixed (concat is.groups ++ (is.part ++ parts.payload)) (subst AreBytes is.in_order all) in
    let part : AreBytes is.part = AreBytes-front is.part parts.payload (AreBytes-back (concat is.groups) (is.part ++ parts.payload) after_fixed) in
    elements_announced parts.has_extension parts.block parts.other_block is.part part is.part_is

-- ---- the header

-- the header in a buffer is a packet of its parts
pub IsPacket-in : (packet : RtpPacketMut) (bytes : List ℕ) → slice_index bytes 1 < 256 → packet.datagram.now ≡ bytes → IsPacket bytes (parts_in packet)
IsPacket-in packet bytes fits is =
    let now = packet.datagram.now in
    subst (λ (b : List ℕ). IsPacket b (parts_in packet)) is
    (IsPacket-whole now (subst (λ (b : List ℕ). slice_index b 1 < 256) (sym is) fits) (IsWhole-header now packet.header_len packet.form (HasHeader-packet_mut packet)))

-- the parts in a buffer of these bytes
pub parts-of_bytes : (bytes now : List ℕ) (parts : PacketParts) → now ≡ bytes → IsPacket bytes parts → parts_at now ≡ parts
parts-of_bytes bytes now parts same is = ap parts_at same ∙ one_packet bytes parts is

-- the elements have their new ids
record IsRenumbered (ids : ℕ → Option ℕ) (old new : PacketParts) : Type 0 where
  block_is : IsBlockUnder ids old.block new.block
  parts_are : new ≡ record old { block = new.block }

renumbered : (ids : ℕ → Option ℕ) (old new : PacketParts) (block : Option (ExtensionsForm × List ℕ)) → old.block ≡ block
    → IfSome block (λ _. ChangesBlock (λ form. ChangesIds form ids) old new) → IfNone block (new ≡ old) → IsRenumbered ids old new
renumbered ids old new None is changes same = record {
  block_is = subst (λ (block : Option (ExtensionsForm × List ℕ)). IsBlockUnder ids block new.block) (sym is) (ap (λ (p : PacketParts). p.block) same ∙ is);
  parts_are = same ∙ ap (λ (block : Option (ExtensionsForm × List ℕ)). record old { block = block }) (ap (λ (p : PacketParts). p.block) (sym same));
}
renumbered ids old new (Some block) is changes same =
    let block_new : new.block ≡ Some (changes.form, changes.body) = ap (λ (p : PacketParts). p.block) changes.parts_are in
    record {
      block_is = subst (λ (b : Option (ExtensionsForm × List ℕ)). IsBlockUnder ids b new.block) (sym changes.block_was) (changes.body, block_new, changes.changes);
      parts_are = changes.parts_are ∙ ap (λ (b : Option (ExtensionsForm × List ℕ)). record old { block = b }) (sym block_new);
    }

if_none_parts : (block : Option (ExtensionsForm × List ℕ)) (old new : List ℕ) → IfNone block (new ≡ old) → IfNone block (parts_at new ≡ parts_at old)
if_none_parts None old new same = ap parts_at same
if_none_parts (Some block) old new same = tt

-- the whole change of a header, call by call
pub IsChangedHeader-made : (ids : ℕ → Option ℕ) (fields : Fields) (bytes : List ℕ) (parts : PacketParts) (first second third last : RtpPacketMut) (new : List ℕ)
    → IsPacket bytes parts → first.datagram.now ≡ bytes
    → IfSome (parts_in first).block (λ _. ChangesBlock (λ form. ChangesIds form ids) (parts_in first) (parts_in second))
    → IfNone (parts_in first).block (second.datagram.now ≡ first.datagram.now)
    → parts_in third ≡ record (parts_in second) { has_padding = false } → parts_in last ≡ with_header_fields fields (parts_in third)
    → slice_index new 1 < 256 → last.datagram.now ≡ new → IsPacketWith (IsChangedHeader ids fields parts) new
IsChangedHeader-made ids fields bytes parts first second third last new is start changes stays clear set fits ends =
    let same : parts_in first ≡ parts = parts-of_bytes bytes first.datagram.now parts start is in
    let done = renumbered ids (parts_in first) (parts_in second) (parts_in first).block refl changes (if_none_parts (parts_in first).block first.datagram.now second.datagram.now stays) in
    let of_header : IsRenumbered ids parts (parts_in second) = subst (λ (p : PacketParts). IsRenumbered ids p (parts_in second)) same done in
    let block : (parts_in last).block ≡ (parts_in second).block = ap (λ (p : PacketParts). p.block) set ∙ ap (λ (p : PacketParts). p.block) clear in
    record {
      parts = parts_in last;
      is_packet = IsPacket-in last new fits ends;
      fact = record {
        block_is = subst (IsBlockUnder ids parts.block) (sym block) of_header.block_is;
        parts_are =
            set ∙ ap (with_header_fields fields) clear
            ∙ ap (λ (p : PacketParts). with_header_fields fields (record p { has_padding = false })) of_header.parts_are
            ∙ ap (λ (b : Option (ExtensionsForm × List ℕ)). with_header_fields fields (record parts { has_padding = false; block = b })) (sym block);
      };
    }

-- what is told of the ids, of all elements of the header's bytes
abbrev Tells : (ℕ → Option ℕ) → Bool → Option (ExtensionsForm × List ℕ) → List Element → Type 0
Tells ids told block elements = AreElementsOf block elements → (told ≡ true) ↔ IfSome block (λ b. All (CanRenumber b.0 ids) elements)

pub carried-told : (ids : ℕ → Option ℕ) (told : Bool) (block : Option (ExtensionsForm × List ℕ)) (parts : PacketParts) → block ≡ parts.block
    → ((elements : List Element) → Tells ids told block elements) → told ≡ true → HasHighId ids parts → ⊥
carried-told ids told block parts same tells yes_all high =
    let answer = subst (λ (b : Option (ExtensionsForm × List ℕ)). Tells ids told b high.elements) same (tells high.elements) in
    high.high ((answer high.are_elements).0 yes_all)

pub high-told : (ids : ℕ → Option ℕ) (told : Bool) (block : Option (ExtensionsForm × List ℕ)) (bytes : List ℕ) (parts : PacketParts) → AreBytes bytes → IsPacket bytes parts
    → block ≡ parts.block → ((elements : List Element) → Tells ids told block elements) → told ≡ false → HasHighId ids parts
high-told ids told block bytes parts all is same tells not_all =
    let found = elements_there bytes parts all is in
    let answer = subst (λ (b : Option (ExtensionsForm × List ℕ)). Tells ids told b found.0) same (tells found.0) in
    record {
      elements = found.0;
      are_elements = found.1;
      high = λ carried. false≢true (sym not_all ∙ (answer found.1).1 carried);
    }

-- the four bytes before the body stay, call by call
pub KeepsBlockHeader-made : (fields : Fields) (old first second third last new : List ℕ) → first ≡ old → ChangesOnlyBody first second → ChangesOnly 0 1 second third
    → ((start end : ℕ) → LieBetween fields start end → ChangesOnly start end third last) → last ≡ new → KeepsBlockHeader old new
KeepsBlockHeader-made fields old first second third last new start body bit set end = λ _.
    let at = sources_end old in
    let same : sources_end first ≡ at = ap sources_end start in
    ap (λ (xs : List ℕ). slice_range xs at (at + 4)) (sym end)
    ∙ range_after 1 12 third last (set 1 12 (in_fixed_part fields)) at (at + 4) (omega arith)
    ∙ range_after 0 1 second third bit at (at + 4) (omega arith)
    ∙ sym (slice_range-take second at (at + 4) (sources_end first + 4) (omega arith) (omega (arith, same)))
    ∙ ap (λ (xs : List ℕ). slice_range xs at (at + 4)) body.before_is
    ∙ slice_range-take first at (at + 4) (sources_end first + 4) (omega arith) (omega (arith, same))
    ∙ ap (λ (xs : List ℕ). slice_range xs at (at + 4)) start

-- bytes that are as they were
pub bytes_before : (old new : List ℕ) → ((i : ℕ) → Fits w8 (slice_index new i)) → new ≡ old → AreBytes old
bytes_before old new fit same = λ i. let below = fit i in subst (λ (xs : List ℕ). slice_index xs i < 256) same (omega arith)

-- what is known of a header that was changed where it lay
pub record IsChangedFront (ids : ℕ → Option ℕ) (buf : List ℕ) (layout : Layout) (fields : Fields) (header : List ℕ) : Type 0 where
  pub changed : (parts : PacketParts) → IsPacket (take layout.header_len buf) parts → IsPacketWith (IsChangedHeader ids fields parts) header
  pub length_is : length header ≡ length (take layout.header_len buf)
  pub kept : KeepsBlockHeader (take layout.header_len buf) header

unfoldable all_fields : Option Bool → Option ℕ → Option ℕ → Option ℕ → Option ℕ → Fields
all_fields marker payload_type number timestamp ssrc = record { marker = marker; payload_type = payload_type; sequence_number = number; timestamp = timestamp; ssrc = ssrc }

-- the fields that are given, and no others
abbrev pub given_fields : ℕ → ℕ → ℕ → Fields
given_fields payload_type number ssrc = record { marker = None; payload_type = Some payload_type; sequence_number = Some number; timestamp = None; ssrc = Some ssrc }

pub fields-given : (fields : Fields) (payload_type number ssrc : ℕ) → fields.marker ≡ None → fields.payload_type ≡ Some payload_type → fields.sequence_number ≡ Some number
    → fields.timestamp ≡ None → fields.ssrc ≡ Some ssrc → fields ≡ given_fields payload_type number ssrc
unfolding all_fields
fields-given fields payload_type number ssrc marker type number_is timestamp source =
    let same : all_fields fields.marker fields.payload_type fields.sequence_number fields.timestamp fields.ssrc ≡ all_fields None (Some payload_type) (Some number) None (Some ssrc) = cc in
    same
