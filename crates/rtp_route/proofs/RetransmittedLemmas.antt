-- A header whose P is cleared, with a number behind it.
use Rattle.std.proofs.Common.{◌≡◌, ℕ, zero, suc, map, Option, ◌+◌, ◌*◌, ◌/◌, ◌%◌, ◌<◌, ◌≤◌, List, [], ◌∷◌, ◌++◌, length, take, drop, false, refl, sym, ap, subst, ◌∙◌, arith, bit_and, take_at}
use Rattle.std.specs.Prelude.{slice_index}
use Rattle.std.specs.Int.{w16, to_be_bytes}
use Rattle.std.proofs.lemmas.List.{take-take, drop-take, drop_all, append-nil, get_or-take, get_or-drop}
use Rattle.std.proofs.lemmas.Nat.{and-not, and_comm, and_mask}
use Rattle.std.proofs.lemmas.Nat.Bits.{and_pow}
use Rattle.rtp_base.specs.Overwriting.{overwritten}
use Rattle.rtp_base.proofs.OverwritingLemmas.{overwritten-front, length-overwritten}
use Rattle.rtp_wire.specs.ChangedPacket.{ChangesOnly}
use Rattle.rtp_wire.specs.Packet.{PacketParts, IsPacket}
use Rattle.rtp_wire.specs.PartsAt.{form_in, header_end}
use Rattle.rtp_wire.proofs.HeaderFound.{HasHeader, IsWhole-header}
use Rattle.rtp_wire.proofs.PacketLemmas.{IsPacket-whole, whole_and_parts}
use Rattle.rtp_wire.proofs.PaddingChanges.{HasHeader-padding, parts-padding, only-padding, padding-put, second_fits, IsPacket-longer}
use Rattle.rtp_ext.specs.declared.form.ExtensionsForm.{ExtensionsForm}
use Rattle.rtp_ext.specs.Elements.{Element}
use Rattle.rtp_ext.proofs.ElementLemmasOfBodies.{AreBytes}
use Rattle.rtp_ext.proofs.ValuesFound.{AreBytes-front}
use Rattle.rtp_wire.specs.declared.packet.fields.Fields.{Fields}
use Rattle.rtp_route.specs.declared.slots.Slot.{Slot}
use Rattle.rtp_route.specs.GroupHeader.{IsGroupHeader}
use Rattle.rtp_route.specs.Retransmitted.{without_padding_bit, without_padding, with_number, IsRoutedAgain, IsFilledInAgain}
use Rattle.rtp_route.specs.Routing.{IsRouted}
use Rattle.rtp_route.specs.Template.{with_data, slot_lengths}
use Rattle.rtp_route.proofs.OneHeaderLemmas.{one-header}
use Rattle.rtp_route.proofs.StartLemmas.{same_parts}
use Rattle.rtp_route.proofs.TemplateLemmas.{routed-filled}

-- ---- the bytes

pub padding-bit : (byte : ℕ) → byte < 256 → bit_and byte 223 ≡ without_padding_bit byte
padding-bit byte fits =
    let both : bit_and 223 byte + bit_and 32 byte ≡ byte = and-not 8 32 byte (omega arith) (omega (arith, fits)) in
    let one : bit_and byte 32 ≡ (byte / 32 % 2) * 32 = and_pow byte 5 in
    omega (arith, both, one, and_comm byte 223, and_comm byte 32)

pub first-of_front : (buf : List ℕ) (len : ℕ) → 1 ≤ len → without_padding_bit (slice_index buf 0) ≡ without_padding_bit (slice_index (take len buf) 0)
first-of_front buf len some = ap without_padding_bit (sym (get_or-take len buf 0 0 some))

-- the first byte of the front of a buffer is put
first-put : (buf : List ℕ) (len byte : ℕ) → 1 ≤ len → take len (overwritten buf 0 (byte ∷ [])) ≡ overwritten (take len buf) 0 (byte ∷ [])
first-put buf len byte some =
    ap (take len) (overwritten-front buf (byte ∷ []))
    ∙ by_length len some
    ∙ sym (overwritten-front (take len buf) (byte ∷ []))
  where
    by_length : (k : ℕ) → 1 ≤ k → take k (byte ∷ drop 1 buf) ≡ byte ∷ drop 1 (take k buf)
    by_length zero some = absurd (omega (arith, some))
    by_length (suc k) some =
        let next : 1 + k ≡ suc k = omega arith in
        ap (λ (xs : List ℕ). byte ∷ xs) (sym (drop-take 1 k buf) ∙ ap (λ (n : ℕ). drop 1 (take n buf)) next)

pub number-put : (buf between new bytes : List ℕ) (len byte number : ℕ) → bytes ≡ to_be_bytes w16 number → between ≡ overwritten buf 0 (byte ∷ []) → new ≡ overwritten between len bytes → 1 ≤ len
    → length buf ≡ len + 2 → byte ≡ without_padding_bit (slice_index (take len buf) 0) → new ≡ with_number (take len buf) number
unfolding overwritten
number-put buf between new bytes len byte number bytes_are first second some room byte_is =
    let long : length between ≡ len + 2 = ap length first ∙ length-overwritten buf (byte ∷ []) 0 (omega (arith, room)) ∙ room in
    second
    ∙ ap (overwritten between len) bytes_are
    ∙ ap (λ (xs : List ℕ). take len between ++ (to_be_bytes w16 number ++ xs)) (drop_all (len + 2) between (omega (arith, long)))
    ∙ ap (λ (xs : List ℕ). take len between ++ xs) (append-nil (to_be_bytes w16 number))
    ∙ ap (λ (xs : List ℕ). take len xs ++ to_be_bytes w16 number) first
    ∙ ap (λ (xs : List ℕ). xs ++ to_be_bytes w16 number) (first-put buf len byte some)
    ∙ ap (λ (b : ℕ). overwritten (take len buf) 0 (b ∷ []) ++ to_be_bytes w16 number) byte_is

-- ---- the packet

second-stays : (old new : List ℕ) → ChangesOnly 0 1 old new → slice_index new 1 ≡ slice_index old 1
second-stays old new only = sym (get_or-drop 1 new 0 0) ∙ ap (λ (xs : List ℕ). slice_index xs 0) only.after_is ∙ get_or-drop 1 old 0 0

cleared : (old new : List ℕ) (parts : PacketParts) → new ≡ overwritten old 0 ((128 + bit_and (slice_index old 0) 31) ∷ []) → IsPacket old parts
    → IsPacket new (record parts { has_padding = false })
cleared old new parts put is =
    let whole = whole_and_parts old parts is in
    let only = only-padding old new 0 false put refl whole.0.version whole.0.fixed in
    let has = padding-put old new 0 false put refl whole.0.version whole.0.fixed in
    let second : slice_index new 1 < 256 = omega (arith, second-stays old new only, second_fits old parts is) in
    let header : HasHeader old (header_end old) (form_in old) = record { fixed = whole.0.fixed; version = whole.0.version; announced = refl; ends = refl; within = whole.0.within } in
    let whole_new = IsWhole-header new (header_end old) (form_in old) (HasHeader-padding old new false only has (header_end old) (form_in old) header) in
    subst (IsPacket new) (parts-padding old new false only has ∙ ap (λ (p : PacketParts). record p { has_padding = false }) (sym whole.1)) (IsPacket-whole new second whole_new)

-- a header with P clear is a packet
pub packet-cleared : (header : List ℕ) (parts : PacketParts) → IsPacket header parts → IsPacket (without_padding header) (record parts { has_padding = false })
packet-cleared header parts is =
    let whole = whole_and_parts header parts is in
    let first : ℕ = slice_index header 0 in
    let byte_is : without_padding_bit first ≡ 128 + bit_and first 31 = omega (arith, whole.0.version, and_mask first 5) in
    cleared header _ parts (ap (λ (b : ℕ). overwritten header 0 (b ∷ [])) byte_is) is

-- and with a number behind it
pub packet-again : (header : List ℕ) (number : ℕ) (parts : PacketParts) → parts.payload ≡ [] → IsPacket header parts
    → IsPacket (with_number header number) (record parts { has_padding = false; payload = to_be_bytes w16 number })
packet-again header number parts none is =
    subst (λ (p : List ℕ). IsPacket (with_number header number) (record parts { has_padding = false; payload = p ++ to_be_bytes w16 number })) none
    (IsPacket-longer _ (to_be_bytes w16 number) (record parts { has_padding = false }) (packet-cleared header parts is))

-- a receiver's header with a number behind it
pub again-of : (old : List ℕ) (fields : Fields) (number : ℕ) (ids : ℕ → Option ℕ) (news : List Element) (allowed : Option ExtensionsForm) (header new : List ℕ) → IsRouted old fields ids news allowed header
    → new ≡ with_number header number → IsRoutedAgain old fields number ids news allowed new
again-of old fields number ids news allowed header new routed bytes = record {
  header = header;
  routed = routed;
  is_packet = λ parts is.
      let none : parts.payload ≡ [] = ap (λ (p : PacketParts). p.payload) (same_parts header parts _ is routed.is_packet) in
      subst (λ (b : List ℕ). IsPacket b (record parts { has_padding = false; payload = to_be_bytes w16 number })) (sym bytes) (packet-again header number parts none is);
  bytes_are = bytes;
}

-- in the front of a buffer
pub again-in_front : (old : List ℕ) (fields : Fields) (number : ℕ) (ids : ℕ → Option ℕ) (news : List Element) (allowed : Option ExtensionsForm) (n header_len len : ℕ) (buf new : List ℕ) → header_len ≡ n
    → header_len ≤ len → length new ≡ len → IsRouted old fields ids news allowed (take n buf) → new ≡ with_number (take header_len (take len buf)) number
    → IsRoutedAgain old fields number ids news allowed (take len (new ++ drop len buf))
again-in_front old fields number ids news allowed n header_len len buf new same within long routed bytes =
    subst (IsRoutedAgain old fields number ids news allowed) (sym (take_at new (drop len buf) len long))
    (again-of old fields number ids news allowed (take n buf) new routed
    (bytes ∙ ap (λ (b : List ℕ). with_number b number) (take-take header_len len buf within ∙ ap (λ (k : ℕ). take k buf) same)))

-- and of a group's header that is filled in
pub routed-again : (old : List ℕ) (ids : ℕ → Option ℕ) (news : List Element) (allowed : Option ExtensionsForm) (header : List ℕ) (slots : List Slot) (fields : Fields) (number : ℕ) (contents : List (List ℕ))
    (new : List ℕ) → IsGroupHeader old ids news allowed header slots → map length contents ≡ slot_lengths slots → IsFilledInAgain header slots fields number contents new
    → IsRoutedAgain old fields number ids (with_data news contents) allowed new
routed-again old ids news allowed header slots fields number contents new is same filled =
    again-of old fields number ids (with_data news contents) allowed filled.own new (routed-filled old ids news allowed header slots fields contents filled.own is same filled.filled) filled.bytes_are

-- ---- one list of bytes

are_again : (header : List ℕ) (number : ℕ) (parts : PacketParts) → IsPacket header parts → AreBytes (with_number header number) → AreBytes header
are_again [] number parts is all k = omega arith
are_again (x ∷ xs) number parts is all zero = let whole = whole_and_parts (x ∷ xs) parts is in omega (arith, whole.0.version)
are_again (x ∷ xs) number parts is all (suc k) =
    let first : List ℕ = without_padding_bit x ∷ [] in
    let front = AreBytes-front (overwritten (x ∷ xs) 0 first) (to_be_bytes w16 number) all in
    subst AreBytes (overwritten-front (x ∷ xs) first) front (suc k)

-- a receiver's header with a number behind it is one list of bytes
pub one-again : (old : List ℕ) (fields : Fields) (number : ℕ) (ids : ℕ → Option ℕ) (news : List Element) (allowed : Option ExtensionsForm) (a b : List ℕ) → AreBytes a → AreBytes b
    → IsRoutedAgain old fields number ids news allowed a → IsRoutedAgain old fields number ids news allowed b → a ≡ b
one-again old fields number ids news allowed a b all_a all_b p q =
    let of_a = are_again p.header number _ p.routed.is_packet (subst AreBytes p.bytes_are all_a) in
    let of_b = are_again q.header number _ q.routed.is_packet (subst AreBytes q.bytes_are all_b) in
    p.bytes_are ∙ ap (λ (header : List ℕ). with_number header number) (one-header old fields ids news allowed p.header q.header of_a of_b p.routed q.routed) ∙ sym q.bytes_are
