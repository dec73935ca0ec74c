-- A packet that becomes a retransmission in a buffer, and a retransmission that becomes the packet that it repeats.
use Rattle.rtp_wire.proofs.Common.{◌≡◌, ℕ, ◌+◌, ◌-◌, ◌<◌, ◌≤◌, Bool, true, false, List, [], ◌++◌, length, take, drop, Option, refl, sym, ap, subst, ◌∙◌, arith, append_assoc, length-append, length-take-le, take_at, drop_at, copy_within, w16, to_be_bytes, from_be_bytes, take-take, take-append-drop, drop-drop, from_be_bytes-to_be_bytes_2, overwritten, ExtensionsForm, Fields, Layout, with_header_fields, HasOriginalNumber, PacketParts, IsPacket, IsWithoutPadding, header_len_of, IsBlockUnder, IsRetransmissionOf, IsOriginalOf, IsRestored, IsPacketWith, Becomes, Sends, Restores, IsLaidOut, IsChangedHeader}
use Rattle.rtp_wire.specs.declared.packet.retransmission.RetransmissionFields.{RetransmissionFields}
use Rattle.rtp_wire.specs.declared.packet.retransmission.OriginalFields.{OriginalFields}
use Rattle.rtp_wire.proofs.PacketLemmas.{one_packet, same_parts}
use Rattle.rtp_wire.proofs.PaddingChanges.{IsPacket-longer}
use Rattle.rtp_wire.proofs.RetransmissionBytes.{moved_on, moved_back, in_row, header_front, header_alone_in, lie_within, KeepsBlockHeader-front}
use Rattle.rtp_wire.proofs.RetransmissionCauses.{length-unpadded}
use Rattle.rtp_wire.proofs.RetransmissionHeaders.{IsChangedFront, given_fields}

module _ (ids : ℕ → Option ℕ) (buf : List ℕ) (len : ℕ) (layout : Layout) (is : IsLaidOut buf len layout) where
  -- the header after the change, with a payload
  pub IsPacket-changed : (fields : Fields) (header payload : List ℕ) → (changed : IsPacketWith (IsChangedHeader ids fields (record is.parts { payload = [] })) header)
      → IsPacket (header ++ payload) (record (with_header_fields fields (record is.parts { has_padding = false; block = changed.parts.block })) { payload = payload })
  IsPacket-changed fields header payload changed =
      IsPacket-longer header payload (with_header_fields fields (record is.parts { has_padding = false; block = changed.parts.block; payload = [] }))
      (subst (IsPacket header) changed.fact.parts_are changed.is_packet)

  -- the header with these fields, and its length
  fields_of_header : (fields : Fields) (payload_type number ssrc : ℕ) (header payload : List ℕ) → fields ≡ given_fields payload_type number ssrc → IsChangedFront ids buf layout fields header
      → (block : Option (ExtensionsForm × List ℕ)) × IsBlockUnder ids is.parts.block block
      × IsPacket (header ++ payload) (record is.parts { has_padding = false; payload_type = payload_type; sequence_number = number; ssrc = ssrc; block = block; payload = payload })
      × (length header ≡ layout.header_len)
  fields_of_header fields payload_type number ssrc header payload given front =
      let row = in_row buf len layout is in
      let bytes = header_front buf layout is.parts is.payload row in
      let changed = subst (λ (f : Fields). IsPacketWith (IsChangedHeader ids f (record is.parts { payload = [] })) header) given
      (front.changed (record is.parts { payload = [] }) (header_alone_in buf len layout is)) in (
        changed.parts.block,
        changed.fact.block_is,
        IsPacket-changed (given_fields payload_type number ssrc) header payload changed,
        front.length_is ∙ ap length bytes ∙ row.header_is,
      )

  -- the length of the packet without its padding
  pub end_of : (parts : PacketParts) (payload : List ℕ) → IsPacket (take len buf) parts → IsWithoutPadding parts.has_padding parts.payload payload
      → header_len_of parts + length payload ≡ layout.end
  end_of parts payload found without =
      let same : is.parts ≡ parts = sym (one_packet (take len buf) is.parts is.is_packet) ∙ one_packet (take len buf) parts found in
      let mine : IsWithoutPadding is.parts.has_padding is.parts.payload payload =
      subst (λ (p : PacketParts). IsWithoutPadding p.has_padding p.payload payload) (sym same) without in
      omega (arith, is.end_is, ap header_len_of same, length-unpadded is.parts.has_padding is.parts.payload payload is.payload mine is.payload_is)

  -- the buffer with a retransmission in front
  pub sent_made : (stream : RetransmissionFields) (fields : Fields) (header moved number new : List ℕ) → fields ≡ given_fields stream.payload_type stream.sequence_number stream.ssrc
      → IsChangedFront ids buf layout fields header → layout.end + 2 ≤ length buf
      → moved ≡ copy_within (header ++ drop layout.header_len buf) layout.header_len layout.end (layout.header_len + 2)
      → new ≡ overwritten moved layout.header_len number → number ≡ to_be_bytes w16 layout.sequence_number → Sends stream ids buf len new (layout.end + 2)
  sent_made stream fields header moved number new given front room moved_is new_is number_is =
      let row = in_row buf len layout is in
      let tail = is.payload ++ row.rest in
      let bytes : number ≡ to_be_bytes w16 is.parts.sequence_number = number_is ∙ ap (to_be_bytes w16) is.number_is in
      let made = fields_of_header fields stream.payload_type stream.sequence_number stream.ssrc header (to_be_bytes w16 is.parts.sequence_number ++ is.payload) given front in
      let long = made.3 in
      let after : drop layout.header_len buf ≡ tail = ap (drop layout.header_len) row.in_order ∙ drop_at row.header tail layout.header_len row.header_is in
      let rest : 2 ≤ length row.rest = omega (arith, room, ap length row.in_order, length-append row.header tail, length-append is.payload row.rest, row.header_is, row.end_is) in
      let whole : new ≡ (header ++ (to_be_bytes w16 is.parts.sequence_number ++ is.payload)) ++ drop 2 row.rest =
      new_is ∙ ap (λ (xs : List ℕ). overwritten xs layout.header_len number) (moved_is
      ∙ ap (λ (xs : List ℕ). copy_within (header ++ xs) layout.header_len layout.end (layout.header_len + 2)) after)
      ∙ ap (λ (n : List ℕ). overwritten (copy_within (header ++ tail) layout.header_len layout.end (layout.header_len + 2)) layout.header_len n) bytes
      ∙ moved_on header is.payload row.rest (to_be_bytes w16 is.parts.sequence_number) layout.header_len layout.end long row.end_is rest refl in
      let size : length (header ++ (to_be_bytes w16 is.parts.sequence_number ++ is.payload)) ≡ layout.end + 2 =
      omega (arith, length-append header (to_be_bytes w16 is.parts.sequence_number ++ is.payload), length-append (to_be_bytes w16 is.parts.sequence_number) is.payload, long, row.end_is) in
      let first : take (layout.end + 2) new ≡ header ++ (to_be_bytes w16 is.parts.sequence_number ++ is.payload) =
      ap (take (layout.end + 2)) whole ∙ take_at (header ++ (to_be_bytes w16 is.parts.sequence_number ++ is.payload)) (drop 2 row.rest) (layout.end + 2) size in
      let old_rest : drop layout.end buf ≡ row.rest =
      ap (drop layout.end) (row.in_order ∙ sym (append_assoc row.header is.payload row.rest))
      ∙ drop_at (row.header ++ is.payload) row.rest layout.end (omega (arith, length-append row.header is.payload, row.header_is, row.end_is)) in
      let parts : PacketParts = record is.parts { has_padding = false; payload_type = stream.payload_type; sequence_number = stream.sequence_number; ssrc = stream.ssrc; block = made.0; payload = to_be_bytes w16 is.parts.sequence_number ++ is.payload } in
      record {
        becomes = record {
          parts = is.parts;
          is_packet = is.is_packet;
          fact = record {
            parts = parts;
            is_packet = subst (λ (xs : List ℕ). IsPacket xs parts) (sym first) made.2;
            fact = record { payload = is.payload; payload_is = is.payload_is; block_is = made.1; parts_are = refl };
          };
        };
        length_is = λ original payload found without. omega (arith, end_of original payload found without);
        within = room;
        behind_is =
            ap (drop (layout.end + 2)) whole ∙ drop_at (header ++ (to_be_bytes w16 is.parts.sequence_number ++ is.payload)) (drop 2 row.rest) (layout.end + 2) size
            ∙ sym (ap (λ (k : ℕ). drop k buf) (omega arith) ∙ sym (drop-drop 2 layout.end buf) ∙ ap (drop 2) old_rest);
        block_header_is = KeepsBlockHeader-front buf len layout header new is
            (ap (take layout.header_len) (whole ∙ append_assoc header (to_be_bytes w16 is.parts.sequence_number ++ is.payload) (drop 2 row.rest))
            ∙ take_at header ((to_be_bytes w16 is.parts.sequence_number ++ is.payload) ++ drop 2 row.rest) layout.header_len long) front.kept;
      }

  -- the buffer with the packet in front
  pub restored_made : (stream : OriginalFields) (fields : Fields) (number : ℕ) (header new : List ℕ) → fields ≡ given_fields stream.payload_type number stream.ssrc
      → IsChangedFront ids buf layout fields header → HasOriginalNumber is.payload number
      → new ≡ copy_within (header ++ drop layout.header_len buf) (layout.header_len + 2) layout.end layout.header_len → Restores stream ids buf len new (layout.end - 2)
  restored_made stream fields number header new given front has new_is =
      let row = in_row buf len layout is in
      let two : length (take 2 is.payload) ≡ 2 = length-take-le 2 is.payload has.long in
      let rest = drop 2 is.payload in
      let payload : is.payload ≡ take 2 is.payload ++ rest = sym (take-append-drop 2 is.payload) in
      let tail = take 2 is.payload ++ (rest ++ row.rest) in
      let after : drop layout.header_len buf ≡ tail =
      ap (drop layout.header_len) row.in_order ∙ drop_at row.header (is.payload ++ row.rest) layout.header_len row.header_is
      ∙ ap (λ (xs : List ℕ). xs ++ row.rest) payload ∙ append_assoc (take 2 is.payload) rest row.rest in
      let made = fields_of_header fields stream.payload_type number stream.ssrc header rest given front in
      let end : layout.header_len + (2 + length rest) ≡ layout.end = omega (arith, row.end_is, ap length payload, length-append (take 2 is.payload) rest, two) in
      let moved = moved_back header (take 2 is.payload) rest row.rest layout.header_len layout.end made.3 two end in
      let whole : new ≡ copy_within (header ++ tail) (layout.header_len + 2) layout.end layout.header_len =
      new_is ∙ ap (λ (xs : List ℕ). copy_within (header ++ xs) (layout.header_len + 2) layout.end layout.header_len) after in
      let past : layout.header_len + (layout.end - 2 - layout.header_len) ≡ layout.end - 2 = omega arith in
      let same_rest : drop (layout.end - 2) (header ++ tail) ≡ drop (layout.end - 2) buf =
      ap (λ (k : ℕ). drop k (header ++ tail)) (sym past ∙ omega arith)
      ∙ sym (drop-drop (layout.end - 2 - layout.header_len) layout.header_len (header ++ tail))
      ∙ ap (drop (layout.end - 2 - layout.header_len)) (drop_at header tail layout.header_len made.3 ∙ sym after)
      ∙ drop-drop (layout.end - 2 - layout.header_len) layout.header_len buf ∙ ap (λ (k : ℕ). drop k buf) (omega arith ∙ past) in
      let parts : PacketParts = record is.parts { has_padding = false; payload_type = stream.payload_type; sequence_number = number; ssrc = stream.ssrc; block = made.0; payload = rest } in
      record {
        becomes = record {
          parts = is.parts;
          is_packet = is.is_packet;
          fact = record {
            parts = parts;
            is_packet = subst (λ (xs : List ℕ). IsPacket xs parts) (sym (ap (take (layout.end - 2)) whole ∙ moved.front_is)) made.2;
            fact = record { payload = is.payload; payload_is = is.payload_is; number_is = has; block_is = made.1; parts_are = refl };
          };
        };
        length_is = λ sent payload found without. omega (arith, end, end_of sent payload found without);
        within = let fits = lie_within buf len layout is in omega (arith, fits.end_within);
        behind_is = ap (drop (layout.end - 2)) whole ∙ moved.behind_is ∙ same_rest;
        block_header_is = KeepsBlockHeader-front buf len layout header new is
            (sym (take-take layout.header_len (layout.end - 2) new (omega (arith, end))) ∙ ap (take layout.header_len) (ap (take (layout.end - 2)) whole ∙ moved.front_is)
            ∙ take_at header rest layout.header_len made.3) front.kept;
      }

-- ---- there and back

-- the number in front
HasOriginalNumber-front : (number other : ℕ) (payload : List ℕ) → number < 65536 → HasOriginalNumber (to_be_bytes w16 number ++ payload) other → other ≡ number
HasOriginalNumber-front number other payload fits has =
    has.number_is ∙ ap (from_be_bytes w16) (take_at (to_be_bytes w16 number) payload 2 refl) ∙ from_be_bytes-to_be_bytes_2 number fits

not_padded : (has_padding : Bool) (bytes payload : List ℕ) → has_padding ≡ false → IsWithoutPadding has_padding bytes payload → payload ≡ bytes
not_padded false bytes payload clear is = is
not_padded true bytes payload clear is = cc

pub IsRestored-back : (original sent restored : PacketParts) (fields : RetransmissionFields) (stream : OriginalFields) (there back : ℕ → Option ℕ)
    → original.sequence_number < 65536 → IsRetransmissionOf original fields there sent → IsOriginalOf sent stream back restored → IsRestored original stream there back restored
IsRestored-back original sent restored fields stream there back fits went came =
    let w = went.parts_are in
    let c = came.parts_are in
    let whole : came.payload ≡ to_be_bytes w16 original.sequence_number ++ went.payload =
    not_padded sent.has_padding sent.payload came.payload (ap (λ (p : PacketParts). p.has_padding) w) came.payload_is ∙ ap (λ (p : PacketParts). p.payload) w in
    let number : restored.sequence_number ≡ original.sequence_number =
    HasOriginalNumber-front original.sequence_number restored.sequence_number went.payload fits
    (subst (λ (xs : List ℕ). HasOriginalNumber xs restored.sequence_number) whole came.number_is) in
    let payload : drop 2 came.payload ≡ went.payload = ap (drop 2) whole ∙ drop_at (to_be_bytes w16 original.sequence_number) went.payload 2 refl in
    record {
      payload = went.payload;
      payload_is = went.payload_is;
      between = sent.block;
      there_is = went.block_is;
      back_is = came.block_is;
      parts_are = same_parts restored (record original { has_padding = false; payload_type = stream.payload_type; ssrc = stream.ssrc; block = restored.block; payload = went.payload })
          (ap (λ (p : PacketParts). p.has_padding) c)
          (ap (λ (p : PacketParts). p.has_extension) c ∙ ap (λ (p : PacketParts). p.has_extension) w)
          (ap (λ (p : PacketParts). p.marker) c ∙ ap (λ (p : PacketParts). p.marker) w)
          (ap (λ (p : PacketParts). p.payload_type) c)
          number
          (ap (λ (p : PacketParts). p.timestamp) c ∙ ap (λ (p : PacketParts). p.timestamp) w)
          (ap (λ (p : PacketParts). p.ssrc) c)
          (ap (λ (p : PacketParts). p.sources) c ∙ ap (λ (p : PacketParts). p.sources) w)
          refl
          (ap (λ (p : PacketParts). p.other_block) c ∙ ap (λ (p : PacketParts). p.other_block) w)
          (ap (λ (p : PacketParts). p.payload) c ∙ payload);
    }

-- so the front of the buffer is the packet that was made a retransmission
pub restored_back : (original sent : PacketParts) (fields : RetransmissionFields) (stream : OriginalFields) (there back : ℕ → Option ℕ) (old new : List ℕ)
    → original.sequence_number < 65536 → IsRetransmissionOf original fields there sent → IsPacket old sent → Becomes (λ was. IsOriginalOf was stream back) old new
    → IsPacketWith (IsRestored original stream there back) new
restored_back original sent fields stream there back old new fits went is came =
    let same : came.parts ≡ sent = sym (one_packet old came.parts came.is_packet) ∙ one_packet old sent is in
    record {
      parts = came.fact.parts;
      is_packet = came.fact.is_packet;
      fact = IsRestored-back original sent came.fact.parts fields stream there back fits went
          (subst (λ (p : PacketParts). IsOriginalOf p stream back came.fact.parts) same came.fact.fact);
    }
