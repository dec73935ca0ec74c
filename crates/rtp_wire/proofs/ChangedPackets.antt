-- A packet that is changed in its buffer: what is known of its header stays, and what becomes of the body of its block.
use Rattle.rtp_wire.proofs.Common.{◌≡◌, ℕ, ◌+◌, ◌-◌, ◌≤◌, List, [], length, drop, Option, Some, None, refl, sym, ap, subst, ◌∙◌, arith, length-drop, length-take-le, is_some, option_map, slice_range, if◌then◌else◌, IfSome, IfNone, between-put_mid, put_mid, ExtensionsForm, ExtensionValues, Element, AreElements, Slots, SaysValues, RtpPacket, RtpPacketMut, sources_end, PacketParts, IsPacket, parts_of, parts_in, AreElementsOf, HasValues, ChangesBlock, ChangesOnly, ChangesOnlyBody}
use Rattle.rtp_wire.specs.PartsAt.{HasLayout, form_in, profile_in, other_in, header_end, parts_at}
use Rattle.rtp_wire.proofs.PacketLemmas.{whole_and_parts}
use Rattle.rtp_wire.proofs.HeaderFound.{HasHeader, HasHeader-packet, HasHeader-packet_mut}
use Rattle.rtp_wire.proofs.PartsLemmas.{has_block-form, body_within, block-header}
use Rattle.rtp_wire.proofs.BytesBetween.{ChangesOnly-part}
use Rattle.rtp_wire.proofs.PacketChanges.{block_by, HasHeader-stays, stays-in_body}
use Rattle.rtp_wire.proofs.PacketParts.{parts-in_body}

-- the form of a block with a body
form-block : (form : Option ExtensionsForm) (body : List ℕ) → option_map (λ (b : ExtensionsForm × List ℕ). b.0) (option_map (λ f. (f, body)) form) ≡ form
form-block None body = refl
form-block (Some form) body = refl

-- a packet's bytes are laid out as its header's length and its block's form say
pub HasHeader-laid_out : (bytes : List ℕ) (header_len : ℕ) (form : Option ExtensionsForm) → HasLayout bytes header_len form → HasHeader bytes header_len form
unfolding parts_at
HasHeader-laid_out bytes header_len form is =
    let p = whole_and_parts bytes is.parts is.is_packet in
    let payload : is.parts.payload ≡ drop (header_end bytes) bytes = ap (λ (q : PacketParts). q.payload) p.1 in
    let block : option_map (λ b. b.0) is.parts.block ≡ form_in bytes =
    ap (λ (q : PacketParts). option_map (λ b. b.0) q.block) p.1 ∙ form-block (form_in bytes) _ in
    let len_is = is.len_is in
    let end : header_len ≡ header_end bytes = let within = p.0.within in omega (arith, ap length payload, length-drop (header_end bytes) bytes) in
    record {
      fixed = p.0.fixed;
      version = p.0.version;
      announced = is.form_is ∙ block;
      ends = end;
      within = subst (λ (k : ℕ). k ≤ length bytes) (sym end) p.0.within;
    }

pub HasLayout-header : (bytes : List ℕ) (header_len : ℕ) (form : Option ExtensionsForm) → IsPacket bytes (parts_at bytes) → HasHeader bytes header_len form → HasLayout bytes header_len form
unfolding parts_at
HasLayout-header bytes header_len form is header =
    let within = header.within in
    let ends = header.ends in
    record {
      parts = parts_at bytes;
      is_packet = is;
      form_is = header.announced ∙ sym (form-block (form_in bytes) _);
      len_is = omega (arith, length-drop (header_end bytes) bytes);
    }

-- and the bytes that a packet was read from
pub HasLayout-read : (packet : RtpPacket) (bytes : List ℕ) → packet.datagram.now ≡ bytes → IsPacket bytes (parts_of packet) → HasLayout bytes packet.header_len packet.form
HasLayout-read packet bytes same is =
    HasLayout-header bytes packet.header_len packet.form (subst (λ (b : List ℕ). IsPacket bytes (parts_at b)) same is)
    (subst (λ (b : List ℕ). HasHeader b packet.header_len packet.form) same (HasHeader-packet packet))

-- without a form there is no block, and without a block there are no elements
pub no_block : (packet : RtpPacketMut) → packet.form ≡ None → (parts_in packet).block ≡ None
no_block packet none =
    sym (block-header packet.datagram.now packet.header_len packet.form (HasHeader-packet_mut packet))
    ∙ ap (option_map {U = ExtensionsForm × List ℕ} (λ f. (f, slice_range packet.datagram.now (sources_end packet.datagram.now + 4) packet.header_len))) none

-- what is said of a block, and of a packet without one
pub if_none : {X : Type 0} (block : Option X) (P : X → Type 0) → block ≡ None → IfSome block P
if_none None P none = tt
if_none (Some block) P none = absurd cc

pub if_not_none : (block : Option (ExtensionsForm × List ℕ)) (P : Type 0) (found : ExtensionsForm × List ℕ) → block ≡ Some found → IfNone block P
if_not_none None P found some = absurd cc
if_not_none (Some block) P found some = tt

pub no_elements : (packet : RtpPacketMut) (elements : List Element) → packet.form ≡ None → AreElementsOf (parts_in packet).block elements → elements ≡ []
no_elements packet elements none are = subst (λ (block : Option (ExtensionsForm × List ℕ)). AreElementsOf block elements) (no_block packet none) are

-- a packet with a block of this form, whose body begins here
module _ (packet : RtpPacketMut) (form : ExtensionsForm) (start : ℕ) (is : packet.form ≡ Some form) (start-is : start ≡ sources_end packet.datagram.now + 4) where
  pub body_in : start ≤ packet.header_len
  body_in = subst (λ (k : ℕ). k ≤ packet.header_len) (sym start-is) (body_within packet.datagram.now packet.header_len packet.form (HasHeader-packet_mut packet)
      (has_block-form packet.datagram.now packet.header_len packet.form form (HasHeader-packet_mut packet) is))

  block-is : (bytes : List ℕ) → option_map {U = ExtensionsForm × List ℕ} (λ f. (f, slice_range bytes (sources_end packet.datagram.now + 4) (header_end packet.datagram.now))) (form_in packet.datagram.now)
      ≡ Some (form, slice_range bytes start packet.header_len)
  block-is bytes =
      let body : List ℕ = slice_range bytes (sources_end packet.datagram.now + 4) (header_end packet.datagram.now) in
      ap (option_map {U = ExtensionsForm × List ℕ} (λ f. (f, body))) (sym packet.announced ∙ is)
      ∙ ap (λ (k : ℕ). Some (form, slice_range bytes k (header_end packet.datagram.now))) (sym start-is)
      ∙ ap (λ (k : ℕ). Some (form, slice_range bytes start k)) (sym packet.ends)

  -- there is no block of another form
  no_other : (body : List ℕ) → block_by (other_in packet.datagram.now) body ≡ None
  unfolding other_in block_by
  no_other body = ap (λ (f : Option ExtensionsForm). option_map {U = ℕ × List ℕ} (λ profile. (profile, body)) (if is_some f then None else profile_in packet.datagram.now)) (sym packet.announced ∙ is)

  other_in-none : (parts_in packet).other_block ≡ None
  unfolding parts_at block_by
  other_in-none = no_other (slice_range packet.datagram.now (sources_end packet.datagram.now + 4) (header_end packet.datagram.now))

  pub block_in : (parts_in packet).block ≡ Some (form, slice_range packet.datagram.now start packet.header_len)
  unfolding parts_at
  block_in = block-is packet.datagram.now

  pub AreElements-in : (elements : List Element) → AreElementsOf (parts_in packet).block elements → AreElements form (slice_range packet.datagram.now start packet.header_len) elements
  AreElements-in elements are = subst (λ (block : Option (ExtensionsForm × List ℕ)). AreElementsOf block elements) block_in are

  pub HasValues-in : (exts : Slots) (values : ExtensionValues) → HasValues exts (parts_in packet).block values
      → SaysValues form exts (slice_range packet.datagram.now start packet.header_len) values
  HasValues-in exts values has = record { elements = has.elements; are_elements = AreElements-in has.elements has.are_elements; are_values = has.are_values }

  module _ (body : List ℕ) (as_many : length body ≡ length (slice_range packet.datagram.now start packet.header_len)) where
    abbrev new : List ℕ
    new = put_mid start (packet.header_len - start) packet.datagram.now body

    length-body : length body ≡ packet.header_len - start
    length-body =
        let within = packet.within in
        let long = body_in in
        as_many ∙ length-take-le (packet.header_len - start) (drop start packet.datagram.now) (omega (arith, length-drop start packet.datagram.now))

    pub between : ChangesOnlyBody packet.datagram.now new
    between =
        subst (λ (k : ℕ). ChangesOnly k (header_end packet.datagram.now) packet.datagram.now new) start-is
        (subst (λ (k : ℕ). ChangesOnly start k packet.datagram.now new) packet.ends
        (ChangesOnly-part packet.datagram.now body start packet.header_len body_in packet.within length-body))

    pub HasHeader-body : HasHeader new packet.header_len packet.form
    HasHeader-body = HasHeader-stays packet.datagram.now new packet.header_len packet.form (stays-in_body packet.datagram.now new between) (HasHeader-packet_mut packet)

    block_of_new : option_map {U = ExtensionsForm × List ℕ} (λ f. (f, slice_range new (sources_end packet.datagram.now + 4) (header_end packet.datagram.now))) (form_in packet.datagram.now) ≡ Some (form, body)
    block_of_new =
        block-is new
        ∙ ap (λ (b : List ℕ). Some (form, b)) (between-put_mid start (packet.header_len - start) packet.datagram.now body packet.header_len (let within = packet.within in let long = body_in in omega arith) length-body)

    parts_of_new : parts_at new ≡ record (parts_in packet) { block = Some (form, body) }
    unfolding block_by
    parts_of_new =
        parts-in_body packet.datagram.now new between
        ∙ ap (λ (other : Option (ℕ × List ℕ)). record (parts_in packet) { block = block_by (form_in packet.datagram.now) (slice_range new (sources_end packet.datagram.now + 4) (header_end packet.datagram.now)); other_block = other })
        (no_other (slice_range new (sources_end packet.datagram.now + 4) (header_end packet.datagram.now)) ∙ sym other_in-none)
        ∙ ap (λ (block : Option (ExtensionsForm × List ℕ)). record (parts_in packet) { block = block }) block_of_new

    pub ChangesBlock-body : (Change : ExtensionsForm → List ℕ → List ℕ → Type 0) → Change form (slice_range packet.datagram.now start packet.header_len) body
        → ChangesBlock Change (parts_in packet) (parts_at new)
    ChangesBlock-body Change changes = record {
      form = form;
      was = slice_range packet.datagram.now start packet.header_len;
      body = body;
      block_was = block_in;
      changes = changes;
      parts_are = parts_of_new;
    }

    pub AreElements-out : (elements : List Element) → AreElements form body elements → AreElementsOf (parts_at new).block elements
    AreElements-out elements are =
        subst (λ (block : Option (ExtensionsForm × List ℕ)). AreElementsOf block elements) (sym (ap (λ (parts : PacketParts). parts.block) parts_of_new)) are

    pub HasValues-new : (exts : Slots) (values : ExtensionValues) → HasValues exts (parts_at new).block values → SaysValues form exts body values
    HasValues-new exts values has = record {
      elements = has.elements;
      are_elements = subst (λ (block : Option (ExtensionsForm × List ℕ)). AreElementsOf block has.elements) (ap (λ (parts : PacketParts). parts.block) parts_of_new) has.are_elements;
      are_values = has.are_values;
    }

    pub HasValues-out : (exts : Slots) (values : ExtensionValues) → SaysValues form exts body values → HasValues exts (parts_at new).block values
    HasValues-out exts values says = record {
      elements = says.elements;
      are_elements = AreElements-out says.elements says.are_elements;
      are_values = says.are_values;
    }
