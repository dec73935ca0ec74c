-- The bytes of a packet that becomes a retransmission in a buffer, or is one no longer: where its parts lie, and a payload that is moved.
use Rattle.rtp_wire.proofs.Common.{◌≡◌, ℕ, ◌+◌, ◌-◌, ◌≤◌, List, [], ◌++◌, length, take, drop, refl, sym, ap, subst, ◌∙◌, arith, append_assoc, length-append, length-take-le, take_at, drop_at, ◌*◌, ◌%◌, true, slice_range, slice_index, concat, copy_within, take-append-drop, drop-drop, get_or-take, Layout, PacketParts, IsPacket, IsWithoutPadding, header_len_of, IsLaidOut, sources_end, KeepsBlockHeader}
use Rattle.rtp_base.specs.Overwriting.{overwritten}
use Rattle.rtp_wire.specs.PartsAt.{HasLayout, is_set, has_block, header_end}
use Rattle.rtp_wire.proofs.PartsLemmas.{length-packet}
use Rattle.rtp_wire.proofs.PaddingChanges.{IsPacket-front, unpadded_front}
use Rattle.rtp_wire.proofs.PacketLemmas.{whole_and_parts}
use Rattle.rtp_wire.proofs.BlockLemmas.{slice_range-take}

-- ---- bytes in a row

-- a payload is moved two bytes on, and two bytes are put before it
pub moved_on : (header payload rest number : List ℕ) (at end : ℕ) → length header ≡ at → at + length payload ≡ end → 2 ≤ length rest → length number ≡ 2
    → overwritten (copy_within (header ++ (payload ++ rest)) at end (at + 2)) at number ≡ (header ++ (number ++ payload)) ++ drop 2 rest
unfolding overwritten
moved_on header payload rest number at end at-is end-is room two =
    let tail = payload ++ rest in
    let old = header ++ tail in
    let between = take 2 tail in
    let two-between : length between ≡ 2 = length-take-le 2 tail (omega (arith, length-append payload rest)) in
    let front-len : length (header ++ between) ≡ at + 2 = omega (arith, length-append header between) in
    let split : old ≡ (header ++ between) ++ drop 2 tail = ap (λ (xs : List ℕ). header ++ xs) (sym (take-append-drop 2 tail)) ∙ sym (append_assoc header between (drop 2 tail)) in
    let front : take (at + 2) old ≡ header ++ between = ap (take (at + 2)) split ∙ take_at (header ++ between) (drop 2 tail) (at + 2) front-len in
    let count : end - at ≡ length payload = omega arith in
    let moved : take (end - at) (drop at old) ≡ payload =
    ap (take (end - at)) (drop_at header tail at at-is) ∙ ap (λ (k : ℕ). take k tail) count ∙ take_at payload rest (length payload) refl in
    let long : length (header ++ payload) ≡ end = omega (arith, length-append header payload) in
    let behind : drop (at + 2 + (end - at)) old ≡ drop 2 rest =
    ap (λ (k : ℕ). drop k old) (omega arith)
    ∙ sym (drop-drop 2 end old) ∙ ap (λ (xs : List ℕ). drop 2 (drop end xs)) (sym (append_assoc header payload rest))
    ∙ ap (drop 2) (drop_at (header ++ payload) rest end long) in
    let after = payload ++ drop 2 rest in
    let copied : copy_within old at end (at + 2) ≡ header ++ (between ++ after) =
    ap (λ (xs : List ℕ). xs ++ take (end - at) (drop at old) ++ drop (at + 2 + (end - at)) old) front
    ∙ ap (λ (xs : List ℕ). (header ++ between) ++ xs ++ drop (at + 2 + (end - at)) old) moved
    ∙ ap (λ (xs : List ℕ). (header ++ between) ++ payload ++ xs) behind
    ∙ append_assoc (header ++ between) payload (drop 2 rest) ∙ append_assoc header between after in
    let rest-is : drop (at + length number) (header ++ (between ++ after)) ≡ after =
    ap (drop (at + length number)) (sym (append_assoc header between after)) ∙ drop_at (header ++ between) after (at + length number) (omega arith) in
    ap (λ (xs : List ℕ). overwritten xs at number) copied
    ∙ ap (λ (xs : List ℕ). xs ++ (number ++ drop (at + length number) (header ++ (between ++ after)))) (take_at header (between ++ after) at at-is)
    ∙ ap (λ (xs : List ℕ). header ++ (number ++ xs)) rest-is
    ∙ ap (λ (xs : List ℕ). header ++ xs) (sym (append_assoc number payload (drop 2 rest))) ∙ sym (append_assoc header (number ++ payload) (drop 2 rest))

-- a payload is moved two bytes back
pub record IsMovedBack (header payload old new : List ℕ) (end : ℕ) : Type 0 where
  pub front_is : take (end - 2) new ≡ header ++ payload
  pub behind_is : drop (end - 2) new ≡ drop (end - 2) old

pub moved_back : (header number payload rest : List ℕ) (at end : ℕ) → length header ≡ at → length number ≡ 2 → at + (2 + length payload) ≡ end
    → IsMovedBack header payload (header ++ (number ++ (payload ++ rest))) (copy_within (header ++ (number ++ (payload ++ rest))) (at + 2) end at) end
moved_back header number payload rest at end at-is two end-is =
    let tail = payload ++ rest in
    let old = header ++ (number ++ tail) in
    let count : end - (at + 2) ≡ length payload = omega arith in
    let front : take at old ≡ header = take_at header (number ++ tail) at at-is in
    let after : drop (at + 2) old ≡ tail =
    ap (drop (at + 2)) (sym (append_assoc header number tail)) ∙ drop_at (header ++ number) tail (at + 2) (omega (arith, length-append header number)) in
    let moved : take (end - (at + 2)) (drop (at + 2) old) ≡ payload =
    ap (take (end - (at + 2))) after ∙ ap (λ (k : ℕ). take k tail) count ∙ take_at payload rest (length payload) refl in
    let behind : drop (at + (end - (at + 2))) old ≡ drop (end - 2) old = ap (λ (k : ℕ). drop k old) (omega arith) in
    let new : copy_within old (at + 2) end at ≡ (header ++ payload) ++ drop (end - 2) old =
    ap (λ (xs : List ℕ). xs ++ take (end - (at + 2)) (drop (at + 2) old) ++ drop (at + (end - (at + 2))) old) front
    ∙ ap (λ (xs : List ℕ). header ++ xs ++ drop (at + (end - (at + 2))) old) moved
    ∙ ap (λ (xs : List ℕ). header ++ payload ++ xs) behind in
    let long : length (header ++ payload) ≡ end - 2 = omega (arith, length-append header payload) in
    record {
      front_is = ap (take (end - 2)) new ∙ take_at (header ++ payload) (drop (end - 2) old) (end - 2) long;
      behind_is = ap (drop (end - 2)) new ∙ drop_at (header ++ payload) (drop (end - 2) old) (end - 2) long;
    }

-- a buffer with a packet in front: its header, its payload without padding, and the rest
pub record IsInRow (buf : List ℕ) (layout : Layout) (parts : PacketParts) (payload : List ℕ) : Type 0 where
  pub header : List ℕ
  pub rest : List ℕ
  pub in_order : buf ≡ header ++ (payload ++ rest)
  pub header_is : length header ≡ layout.header_len
  pub end_is : layout.header_len + length payload ≡ layout.end
  pub alone : IsPacket header (record parts { payload = [] })

-- the header of a packet by itself
header_alone : (bytes : List ℕ) (parts : PacketParts) → IsPacket bytes parts
    → (header : List ℕ) × (bytes ≡ header ++ parts.payload) × (length header ≡ header_len_of parts) × IsPacket header (record parts { payload = [] })
header_alone bytes parts is =
    let header = is.fixed ++ (concat is.groups ++ is.part) in
    let split : bytes ≡ header ++ parts.payload =
    is.in_order ∙ ap (λ (xs : List ℕ). is.fixed ++ xs) (sym (append_assoc (concat is.groups) is.part parts.payload))
    ∙ sym (append_assoc is.fixed (concat is.groups ++ is.part) parts.payload) in
    let long : length header ≡ header_len_of parts = omega (arith, ap length split, length-append header parts.payload, length-packet bytes parts is) in
    let front : take (header_len_of parts) bytes ≡ header = ap (take (header_len_of parts)) split ∙ take_at header parts.payload (header_len_of parts) long in (
      header,
      split,
      long,
      subst (λ (xs : List ℕ). IsPacket xs (record parts { payload = [] })) front
          (IsPacket-front bytes parts [] parts.payload (header_len_of parts) is refl (length-packet bytes parts is)),
    )

pub in_row : (buf : List ℕ) (len : ℕ) (layout : Layout) → (is : IsLaidOut buf len layout) → IsInRow buf layout is.parts is.payload
in_row buf len layout is =
    let header = header_alone (take len buf) is.parts is.is_packet in
    let padding = unpadded_front is.parts.has_padding is.parts.payload is.payload is.payload_is in
    record {
      header = header.0;
      rest = padding.0 ++ drop len buf;
      in_order =
          sym (take-append-drop len buf) ∙ ap (λ (xs : List ℕ). xs ++ drop len buf) header.1
          ∙ append_assoc header.0 is.parts.payload (drop len buf)
          ∙ ap (λ (xs : List ℕ). header.0 ++ (xs ++ drop len buf)) padding.1
          ∙ ap (λ (xs : List ℕ). header.0 ++ xs) (append_assoc is.payload padding.0 (drop len buf));
      header_is = header.2 ∙ sym is.header_is;
      end_is = omega (arith, is.header_is, is.end_is);
      alone = header.3;
    }

-- where the parts lie in the buffer
pub record LieWithin (buf : List ℕ) (layout : Layout) : Type 0 where
  pub header_within : layout.header_len ≤ layout.end
  pub end_within : layout.end ≤ length buf

pub lie_within : (buf : List ℕ) (len : ℕ) (layout : Layout) → IsLaidOut buf len layout → LieWithin buf layout
lie_within buf len layout is =
    let row = in_row buf len layout is in
    let end_is = row.end_is in
    record {
      header_within = omega arith;
      end_within = omega (arith, ap length row.in_order, length-append row.header (is.payload ++ row.rest), length-append is.payload row.rest, row.header_is);
    }

pub header_front : (buf : List ℕ) (layout : Layout) (parts : PacketParts) (payload : List ℕ) → (row : IsInRow buf layout parts payload)
    → take layout.header_len buf ≡ row.header
header_front buf layout parts payload row = ap (take layout.header_len) row.in_order ∙ take_at row.header (payload ++ row.rest) layout.header_len row.header_is

-- the payload, between these places
pub payload_part : (buf : List ℕ) (len : ℕ) (layout : Layout) → (is : IsLaidOut buf len layout) → slice_range buf layout.header_len layout.end ≡ is.payload
payload_part buf len layout is =
    let row = in_row buf len layout is in
    ap (take (layout.end - layout.header_len)) (ap (drop layout.header_len) row.in_order ∙ drop_at row.header (is.payload ++ row.rest) layout.header_len row.header_is)
    ∙ take_at is.payload row.rest (layout.end - layout.header_len) (omega (arith, row.end_is))

-- what stays before the body of a header stays in the buffer that begins with it
pub KeepsBlockHeader-front : (buf : List ℕ) (len : ℕ) (layout : Layout) (header new : List ℕ) → (is : IsLaidOut buf len layout)
    → take layout.header_len new ≡ header → KeepsBlockHeader (take layout.header_len buf) header → KeepsBlockHeader buf new
unfolding header_end
KeepsBlockHeader-front buf len layout header new is front kept = λ set.
    let row = in_row buf len layout is in
    let h = layout.header_len in
    let bytes = header_front buf layout is.parts is.payload row in
    let whole = (whole_and_parts row.header (record is.parts { payload = [] }) row.alone).0 in
    let within = subst (λ (xs : List ℕ). header_end xs ≤ length xs) (sym bytes) whole.within in
    let fixed = whole.fixed in
    let first : slice_index (take h buf) 0 ≡ slice_index buf 0 = get_or-take h buf 0 0 (omega (arith, row.header_is)) in
    let start : sources_end (take h buf) ≡ sources_end buf = ap (λ (byte : ℕ). 12 + 4 * (byte % 16)) first in
    let set_there : has_block (take h buf) ≡ true = ap (λ (byte : ℕ). is_set byte 16) first ∙ set in
    let room : sources_end buf + 4 ≤ h = let inner = rw set_there at within in omega (arith, start, ap length bytes, row.header_is) in
    let there : slice_range header (sources_end buf) (sources_end buf + 4) ≡ slice_range (take h buf) (sources_end buf) (sources_end buf + 4) =
    subst (λ (a : ℕ). slice_range header a (a + 4) ≡ slice_range (take h buf) a (a + 4)) start (kept set_there) in
    sym (slice_range-take new (sources_end buf) (sources_end buf + 4) h (omega arith) room)
    ∙ ap (λ (xs : List ℕ). slice_range xs (sources_end buf) (sources_end buf + 4)) front
    ∙ there
    ∙ slice_range-take buf (sources_end buf) (sources_end buf + 4) h (omega arith) room

-- the header's bytes are laid out as a packet without a payload
pub HasLayout-front : (buf : List ℕ) (len : ℕ) (layout : Layout) → IsLaidOut buf len layout
    → HasLayout (take layout.header_len buf) (length (take layout.header_len buf)) layout.form
HasLayout-front buf len layout is =
    let row = in_row buf len layout is in
    subst (λ (xs : List ℕ). HasLayout xs (length xs) layout.form) (sym (header_front buf layout is.parts is.payload row)) (record {
      parts = record is.parts { payload = [] };
      is_packet = row.alone;
      form_is = is.form_is;
      len_is = omega arith;
    })

-- what holds of the header by itself, which has no payload
pub header_alone_in : (buf : List ℕ) (len : ℕ) (layout : Layout) → (is : IsLaidOut buf len layout) → IsPacket (take layout.header_len buf) (record is.parts { payload = [] })
header_alone_in buf len layout is =
    let row = in_row buf len layout is in
    subst (λ (xs : List ℕ). IsPacket xs (record is.parts { payload = [] })) (sym (header_front buf layout is.parts is.payload row)) row.alone

-- the end of the payload is within the packet
pub end_fits : (bytes : List ℕ) (parts : PacketParts) (payload : List ℕ) → IsPacket bytes parts → IsWithoutPadding parts.has_padding parts.payload payload
    → header_len_of parts + length payload ≤ length bytes
end_fits bytes parts payload is without =
    let split = unpadded_front parts.has_padding parts.payload payload without in
    omega (arith, length-packet bytes parts is, ap length split.1, length-append payload split.0)
