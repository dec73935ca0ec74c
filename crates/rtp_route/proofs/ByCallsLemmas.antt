-- The steps of the calls for one packet.
use Rattle.std.proofs.Common.{◌≡◌, ◌↔◌, ℕ, ◌<◌, ◌≤◌, inr, Bool, true, false, IsTrue, List, [], ◌++◌, length, take, drop, Option, Some, None, IfSome, slice_index, refl, sym, ap, subst, ◌∙◌, arith, append_assoc, append-nil, take_at}
use Rattle.std.specs.Bool.{OnTrue, OnFalse}
use Rattle.std.proofs.lemmas.Bool.{false≢true}
use Rattle.std.specs.Option.{IfNone}
use Rattle.std.specs.List.{concat, filter_map}
use Rattle.rtp_base.specs.Overwriting.{overwritten}
use Rattle.rtp_base.proofs.OverwritingLemmas.{overwritten-front}
use Rattle.rtp_ext.specs.declared.form.ExtensionsForm.{ExtensionsForm}
use Rattle.rtp_ext.specs.Elements.{Element}
use Rattle.rtp_ext.proofs.ElementLemmasOfBodies.{AreBytes}
use Rattle.rtp_ext.specs.ElementsInPlace.{renumbered, ChangesIds}
use Rattle.rtp_wire.specs.declared.packet.rtp_packet_mut.RtpPacketMut.{RtpPacketMut}
use Rattle.rtp_wire.specs.ChangedPacket.{ChangesBlock, ChangesOnly, ChangesOnlyBody}
use Rattle.rtp_wire.specs.declared.packet.fields.Fields.{Fields}
use Rattle.rtp_wire.specs.GivenFields.{with_header_fields}
use Rattle.rtp_wire.specs.declared.packet.rtp_packet.RtpPacket.{RtpPacket}
use Rattle.rtp_wire.specs.Packet.{PacketParts, IsPacket, header_len_of}
use Rattle.rtp_wire.specs.PacketElements.{AreElementsOf}
use Rattle.rtp_wire.specs.PartsAt.{HasLayout, parts_at}
use Rattle.rtp_wire.specs.PartsOf.{parts_of, datagram_of, parts_in}
use Rattle.rtp_wire.proofs.PartsLemmas.{length-packet, IsPacket-found}
use Rattle.rtp_wire.proofs.RetransmissionHeaders.{IsPacket-in, elements_there, parts-of_bytes}
use Rattle.rtp_wire.specs.declared.packet.not_put.NotPut.{NotPut}
use Rattle.rtp_route.specs.declared.not_routed.NotRouted.{NotRouted}
use Rattle.rtp_route.specs.declared.not_routed.NotRouted.TheVariants.{NotPut as NotRouted-NotPut}
use Rattle.rtp_route.specs.Calls.{IsRenumbered, IsUnderNewIds, IsRenumberedInForm, IsSetAndRenumbered, header_in}
use Rattle.rtp_route.specs.NotPutAmong.{IsNotPutAmong, HasSameElements}
use Rattle.rtp_route.specs.NotRouted.{HasLongId, KeepsFromNewIds, KeepsFromRouting}
use Rattle.rtp_route.specs.Routing.{CarriesIds}
use Rattle.rtp_route.proofs.NewFormLemmas.{HaveOneBlock, one_block-back, kept_ids-there}
use Rattle.rtp_route.proofs.NotPutLemmas.{none-kept, ids-kept}

-- bytes that were put at the front are the first ones
pub front-put : (buf new front : List ℕ) → new ≡ overwritten buf 0 front → take (length front) new ≡ front
front-put buf new front is =
    ap (take (length front)) (is ∙ overwritten-front buf front) ∙ take_at front (drop (length front) buf) (length front) refl

renumbers-as : (ids : ℕ → Option ℕ) (elements : List Element) (block : Option (ExtensionsForm × List ℕ)) (was new : PacketParts) → was.block ≡ block
    → IfSome block (λ _. ChangesBlock (λ form. ChangesIds form ids) was new) → IfNone block (new ≡ was) → AreElementsOf new.block (filter_map (renumbered ids) elements)
    → IsRenumbered ids elements block was new
renumbers-as ids elements None was new is some none are = none
renumbers-as ids elements (Some block) was new is some none are = (some, are)

same_bytes : (block : Option (ExtensionsForm × List ℕ)) (old new : RtpPacketMut) → IfNone block (new.datagram.now ≡ old.datagram.now) → IfNone block (parts_in new ≡ parts_in old)
same_bytes None old new same = ap parts_at same
same_bytes (Some block) old new same = same

pub renumbered-in : (ids : ℕ → Option ℕ) (answer : Bool) (old new : RtpPacketMut) (header buf : List ℕ) (parts : PacketParts) (elements : List Element) → slice_index buf 1 < 256
    → old.datagram.now ≡ header → new.datagram.now ≡ buf → IsPacket header parts
    → OnTrue answer (IfSome (parts_in old).block (λ _. ChangesBlock (λ form. ChangesIds form ids) (parts_in old) (parts_in new)))
    → ChangesOnlyBody old.datagram.now new.datagram.now → IfNone (parts_in old).block (new.datagram.now ≡ old.datagram.now)
    → OnTrue answer (AreElementsOf (parts_in new).block (filter_map (renumbered ids) elements)) → OnTrue answer (IsUnderNewIds ids elements header parts buf)
renumbered-in ids false old new header buf parts elements fits old-is new-is is changes body without are = are
renumbered-in ids true old new header buf parts elements fits old-is new-is is changes body without are =
    let same : parts_in old ≡ parts = parts-of_bytes header old.datagram.now parts old-is is in
    record {
      parts = parts_in new;
      is_renumbered = subst (λ (p : PacketParts). IsRenumbered ids elements p.block p (parts_in new)) same
          (renumbers-as ids elements (parts_in old).block (parts_in old) (parts_in new) refl changes (same_bytes (parts_in old).block old new without) are);
      is_packet = IsPacket-in new buf fits new-is;
      only_body = subst (λ (b : List ℕ). ChangesOnlyBody header b) new-is (subst (λ (b : List ℕ). ChangesOnlyBody b new.datagram.now) old-is body);
    }

-- an element has a new id that can't be carried, where the answer is no
pub long-in : (answer : Bool) (bytes was now : List ℕ) (ids : ℕ → Option ℕ) (parts : PacketParts) → AreBytes now → was ≡ bytes → OnFalse answer (now ≡ was) → IsPacket bytes parts
    → ((elements : List Element) → AreElementsOf parts.block elements → IsTrue answer ↔ CarriesIds ids parts.block elements) → OnFalse answer (HasLongId bytes ids)
long-in true bytes was now ids parts all was-is same is answers = tt
long-in false bytes was now ids parts all was-is same is answers =
    let there = elements_there bytes parts (subst AreBytes (same ∙ was-is) all) is in
    record { parts = parts; elements = there.0; is_packet = is; are_elements = there.1; not_carried = λ carried. false≢true ((answers there.0 there.1).1 carried) }

pub fields-in : (fields : Fields) (old new : RtpPacketMut) (header buf : List ℕ) (parts : PacketParts) → slice_index buf 1 < 256 → old.datagram.now ≡ header → new.datagram.now ≡ buf
    → IsPacket header parts → parts_in new ≡ with_header_fields fields (parts_in old) → IsPacket buf (with_header_fields fields parts)
fields-in fields old new header buf parts fits old-is new-is is set =
    subst (IsPacket buf) (set ∙ ap (with_header_fields fields) (parts-of_bytes header old.datagram.now parts old-is is)) (IsPacket-in new buf fits new-is)

pub only-in : (start end : ℕ) (a b old new : List ℕ) → a ≡ old → b ≡ new → ChangesOnly start end a b → ChangesOnly start end old new
only-in start end a b old new old-is new-is only = subst (λ (x : List ℕ). ChangesOnly start end x new) old-is (subst (ChangesOnly start end a) new-is only)

pub layout-in : (fields : Fields) (old new : RtpPacketMut) (header buf : List ℕ) (form : Option ExtensionsForm) → slice_index buf 1 < 256 → old.datagram.now ≡ header → new.datagram.now ≡ buf
    → HasLayout header (length header) form → parts_in new ≡ with_header_fields fields (parts_in old) → HasLayout buf (length buf) form
layout-in fields old new header buf form fits old-is new-is held set = record {
  parts = with_header_fields fields held.parts;
  is_packet = fields-in fields old new header buf held.parts fits old-is new-is held.is_packet set;
  form_is = held.form_is;
  len_is = omega (arith, held.len_is);
}

-- ---- a packet's header

-- a packet is its header and its payload
pub header-split : (bytes : List ℕ) (parts : PacketParts) → IsPacket bytes parts → (header : List ℕ) × (bytes ≡ header ++ parts.payload) × IsPacket header (record parts { payload = [] })
header-split bytes parts is =
    let header : List ℕ = is.fixed ++ (concat is.groups ++ (is.part ++ [])) in
    let split : bytes ≡ header ++ parts.payload = is.in_order ∙ sym (behind is.fixed (concat is.groups) is.part parts.payload) in (
      header,
      split,
      record {
        fixed = is.fixed;
        groups = is.groups;
        part = is.part;
        in_order = refl;
        fixed_is = record {
          twelve = is.fixed_is.twelve;
          first_is = is.fixed_is.first_is;
          second_is = is.fixed_is.second_is;
          number_is = is.fixed_is.number_is;
          timestamp_is = is.fixed_is.timestamp_is;
          ssrc_is = is.fixed_is.ssrc_is;
        };
        sources_are = is.sources_are;
        part_is = is.part_is;
      },
    )
  where
    behind : (a b c d : List ℕ) → (a ++ (b ++ (c ++ []))) ++ d ≡ a ++ (b ++ (c ++ d))
    behind a b c d =
        append_assoc a (b ++ (c ++ [])) d ∙ ap (λ (xs : List ℕ). a ++ xs) (append_assoc b (c ++ []) d) ∙ ap (λ (xs : List ℕ). a ++ (b ++ (xs ++ d))) (append-nil c)

-- the header alone
abbrev pub alone_parts : RtpPacket → PacketParts
alone_parts packet = record (parts_of packet) { payload = [] }

pub header-is : (packet : RtpPacket) (header : List ℕ) → datagram_of packet ≡ header ++ (parts_of packet).payload → IsPacket header (alone_parts packet) → header ≡ header_in packet
header-is packet header front alone =
    let long : header_len_of (parts_of packet) ≡ length header = omega (arith, length-packet header (alone_parts packet) alone) in
    sym (ap (take (header_len_of (parts_of packet))) front ∙ take_at header (parts_of packet).payload (header_len_of (parts_of packet)) (sym long))

pub header-alone : (packet : RtpPacket) → (datagram_of packet ≡ header_in packet ++ (parts_of packet).payload) × IsPacket (header_in packet) (alone_parts packet)
header-alone packet =
    let split = header-split (datagram_of packet) (parts_of packet) (IsPacket-found packet) in
    subst (λ (b : List ℕ). (datagram_of packet ≡ b ++ (parts_of packet).payload) × IsPacket b (alone_parts packet)) (header-is packet split.0 split.1 split.2) (split.1, split.2)

pub header_in-length : (packet : RtpPacket) → length (header_in packet) ≡ header_len_of (parts_of packet)
header_in-length packet = omega (arith, length-packet (header_in packet) (alone_parts packet) (header-alone packet).1)

-- ---- the header once its fields are set and its elements have their new ids

-- the bytes are the header with these fields, which has room
pub record IsSet (packet : RtpPacket) (fields : Fields) (room : ℕ) (set : List ℕ) : Type 0 where
  pub within : header_len_of (parts_of packet) ≤ room
  pub is_packet : (parts : PacketParts) → IsPacket (header_in packet) parts → IsPacket set (with_header_fields fields parts)
  pub only : ChangesOnly 1 12 (header_in packet) set

-- so are they in the front of a buffer
pub set-in_front : (packet : RtpPacket) (fields : Fields) (set buf : List ℕ) (len : ℕ) → len ≡ header_len_of (parts_of packet) → len ≤ length buf → length set ≡ len
    → ((parts : PacketParts) → IsPacket (header_in packet) parts → IsPacket set (with_header_fields fields parts)) → ChangesOnly 1 12 (header_in packet) set
    → IsSet packet fields (length buf) (take len (set ++ drop len buf))
set-in_front packet fields set buf len len-is within long is only =
    subst (IsSet packet fields (length buf)) (sym (take_at set (drop len buf) len long)) (record { within = omega (arith, len-is, within); is_packet = is; only = only })

module _ (packet : RtpPacket) (fields : Fields) (ids : ℕ → Option ℕ) (news : List Element) (allowed : Option ExtensionsForm) (room : ℕ) (set : List ℕ) (is_set : IsSet packet fields room set) where
  abbrev was : PacketParts
  was = alone_parts packet

  abbrev now : PacketParts
  now = with_header_fields fields was

  was-packet : IsPacket (header_in packet) was
  was-packet = (header-alone packet).1

  now-packet : IsPacket set now
  now-packet = is_set.is_packet was was-packet

  header-within : length (header_in packet) ≤ room
  header-within = omega (arith, is_set.within, header_in-length packet)

  one-block : HaveOneBlock now was
  one-block = record { blocks = refl; others = refl; sources = refl; payloads = refl }

  pub set-and-renumbered : (new : List ℕ)
      → ((parts : PacketParts) (elements : List Element) → IsPacket set parts → AreElementsOf parts.block elements → IsRenumberedInForm allowed ids elements set parts new)
      → IsSetAndRenumbered (header_in packet) fields ids allowed new
  set-and-renumbered new renumbers =
      let there = elements_there packet.datagram.now (parts_of packet) packet.bytes (IsPacket-found packet) in
      record {
        parts = was;
        elements = there.0;
        was_packet = was-packet;
        were_elements = there.1;
        set_bytes = set;
        set_packet = now-packet;
        set_only = is_set.only;
        renumbered = renumbers now there.0 now-packet there.1;
      }

  -- what keeps the elements from their new ids does so whatever the fields
  pub kept-set : (cause : NotRouted) → KeepsFromNewIds set ids allowed room cause → KeepsFromRouting (header_in packet) fields ids news allowed room cause
  kept-set cause kept =
      ids-kept (header_in packet) fields ids news allowed room header-within cause (kept_ids-there set (header_in packet) now was now-packet was-packet one-block ids allowed room cause kept)

  -- what keeps an element from being put
  pub kept-put : (start : List ℕ) → IsSetAndRenumbered (header_in packet) fields ids allowed start → (cause : NotPut) → IsNotPutAmong start news allowed room cause
      → KeepsFromRouting (header_in packet) fields ids news allowed room (NotRouted-NotPut cause)
  kept-put start is cause kept = inr (inr (start, header-within, is, kept))

  pub none-kept_set : (start : List ℕ) → IsSetAndRenumbered (header_in packet) fields ids allowed start → ((cause : NotRouted) → KeepsFromNewIds set ids allowed room cause → ⊥)
      → ((other : List ℕ) (cause : NotPut) → HasSameElements other start → IsNotPutAmong other news allowed room cause → ⊥)
      → (cause : NotRouted) → KeepsFromRouting (header_in packet) fields ids news allowed room cause → ⊥
  none-kept_set start is none put =
      none-kept (header_in packet) fields ids news allowed room start header-within is
      (λ cause kept. none cause (kept_ids-there (header_in packet) set was now was-packet now-packet (one_block-back now was one-block) ids allowed room cause kept)) put
