-- Causes against a change of the block of the packet in a buffer.
use Rattle.rtp_c.proofs.Common.{◌≡◌, ℕ, ◌≤◌, List, length, take, [], ◌∷◌, Option, None, Some, IfSome, refl, sym, ap, subst, ◌∙◌, arith, ExtensionsForm, Element, NotPut, short_buffer, ℤ, PacketParts, IsPacket, IsNoPacket-applies, no_packet-refused, one_packet, length-packet}
use Rattle.rtp_wire.specs.declared.packet.not_a_packet.NotAPacket.{NotAPacket}
use Rattle.rtp_wire.specs.declared.packet.not_put.NotPut.TheVariants.{CutPacket, NotAPacket as NoPacket, ZeroId, LongData, OtherForm, LongId, OneByteOnly, LongBlock, NoRoom}
use Rattle.rtp_wire.specs.declared.packet.block_not_put.BlockNotPut.{BlockNotPut}
use Rattle.rtp_wire.specs.declared.packet.block_not_put.BlockNotPut.TheVariants.{CutWord, LongBlock as TooLong, NoRoom as BlockNoRoom}
use Rattle.rtp_wire.specs.declared.packet.rtp_packet_buf.RtpPacketBuf.{RtpPacketBuf}
use Rattle.rtp_wire.specs.PacketBuf.{whole_of, len_of, bytes_of, parts_within, StaysWhole}
use Rattle.rtp_wire.specs.PartsAt.{form_in, profile_in, parts_at}
use Rattle.rtp_wire.specs.PutIntoPacket.{form_of_block, IsFirstNotPut}
use Rattle.rtp_wire.specs.RemadeBlock.{RemakesBlock, form_with}
use Rattle.rtp_wire.specs.ReplacedBlock.{without_block, with_block, KeepsFromBlock}
use Rattle.rtp_wire.proofs.PacketBufLemmas.{is_packet, length-bytes}
use Rattle.rtp_wire.proofs.RemadePacketLemmas.{kept-form}
use Rattle.rtp_c.specs.ChangedBlock.{KeepsInBuffer, TakesBlockOff, PutsBlock, IsBody, IsBlockFault, cut_packet, cut_word, long, no_packet, no_room}

-- a weaker fact of what is there
IfSome-weaker : {A : Type 0} (option : Option A) (P Q : A → Type 0) → ((a : A) → P a → Q a) → IfSome option P → IfSome option Q
IfSome-weaker None P Q weaker is = tt
IfSome-weaker (Some a) P Q weaker is = weaker a is

module _ (buf : List ℕ) (len : ℕ) (Keeps : NotPut → Type 0) (parts : PacketParts) (is : IsPacket (take len buf) parts) (within : len ≤ length buf) (cut : Keeps CutPacket → ⊥) (never : (cause : NotAPacket) → Keeps (NoPacket cause) → ⊥) where
  pub to-buffer : (cause : NotPut) → Keeps cause → KeepsInBuffer buf len Keeps cause
  to-buffer CutPacket fact = absurd (cut fact)
  to-buffer ZeroId fact = fact
  to-buffer LongData fact = fact
  to-buffer (NoPacket cause) fact = absurd (never cause fact)
  to-buffer OtherForm fact = fact
  to-buffer LongId fact = fact
  to-buffer OneByteOnly fact = fact
  to-buffer LongBlock fact = fact
  to-buffer (NoRoom needed) fact = fact

  pub from-buffer : (cause : NotPut) → KeepsInBuffer buf len Keeps cause → Keeps cause
  from-buffer CutPacket fact = absurd (omega (arith, within, fact))
  from-buffer ZeroId fact = fact
  from-buffer LongData fact = fact
  from-buffer (NoPacket cause) fact = absurd (no_packet-refused (take len buf) parts (IsNoPacket-applies (take len buf) cause fact.applies) is)
  from-buffer OtherForm fact = fact
  from-buffer LongId fact = fact
  from-buffer OneByteOnly fact = fact
  from-buffer LongBlock fact = fact
  from-buffer (NoRoom needed) fact = fact

  pub first-in_buffer : (cause : NotPut) → IsFirstNotPut Keeps cause → IsFirstNotPut (KeepsInBuffer buf len Keeps) cause
  first-in_buffer cause first =
      record { applies = to-buffer cause first.applies; none_before = λ earlier before fact. first.none_before earlier before (from-buffer earlier fact) }

-- what is known of a packet in a buffer, of the bytes and the length that were passed
module _ (packet : RtpPacketBuf) (buf : List ℕ) (len : ℕ) (buf-is : (whole_of packet).now ≡ buf) (len-is : len_of packet ≡ len) where
  pub taken-is : bytes_of packet ≡ take len buf
  taken-is = ap (λ (n : ℕ). take n packet.buf.now) len-is ∙ ap (take len) buf-is

  form-is : form_of_block (parts_within packet).block ≡ form_in (bytes_of packet)
  form-is = sym (kept-form packet) ∙ packet.announced

  pub in_buffer : (Fact : List ℕ → ℕ → Option ExtensionsForm → Type 0) → Fact (bytes_of packet) (length (whole_of packet).now) (form_of_block (parts_within packet).block)
      → Fact (take len buf) (length buf) (form_in (take len buf))
  in_buffer Fact fact =
      subst (λ (b : List ℕ). Fact b (length buf) (form_in b)) taken-is
      (subst (λ (b : List ℕ). Fact (bytes_of packet) (length b) (form_in (bytes_of packet))) buf-is
      (subst (Fact (bytes_of packet) (length (whole_of packet).now)) form-is fact))

  pub from_buffer : (Fact : List ℕ → ℕ → Option ExtensionsForm → Type 0) → Fact (take len buf) (length buf) (form_in (take len buf))
      → Fact (bytes_of packet) (length (whole_of packet).now) (form_of_block (parts_within packet).block)
  from_buffer Fact fact =
      subst (Fact (bytes_of packet) (length (whole_of packet).now)) (sym form-is)
      (subst (λ (b : List ℕ). Fact (bytes_of packet) (length b) (form_in (bytes_of packet))) (sym buf-is)
      (subst (λ (b : List ℕ). Fact b (length buf) (form_in b)) (sym taken-is) fact))

  pub parts-is : (parts : PacketParts) → IsPacket (take len buf) parts → parts_within packet ≡ parts
  parts-is parts is = ap parts_at taken-is ∙ one_packet (take len buf) parts is

  pub is_packet-in : IsPacket (take len buf) (parts_within packet)
  is_packet-in = subst (λ (b : List ℕ). IsPacket b (parts_within packet)) taken-is (is_packet packet)

  pub within-is : len ≤ length buf
  within-is = omega (arith, packet.room, len-is, ap (λ (b : List ℕ). length b) buf-is)

  -- the causes for which a change of it is refused
  module _ (Keeps : List ℕ → ℕ → Option ExtensionsForm → NotPut → Type 0) (cut : (b : List ℕ) (room : ℕ) (was : Option ExtensionsForm) → Keeps b room was CutPacket → ⊥)
      (never : (b : List ℕ) (room : ℕ) (was : Option ExtensionsForm) (cause : NotAPacket) → Keeps b room was (NoPacket cause) → ⊥) where
    abbrev pub now : NotPut → Type 0
    now = Keeps (take len buf) (length buf) (form_in (take len buf))

    pub first-kept : (cause : NotPut) → IsFirstNotPut (Keeps (bytes_of packet) (length (whole_of packet).now) (form_of_block (parts_within packet).block)) cause
        → IsFirstNotPut (KeepsInBuffer buf len now) cause
    first-kept cause first =
        first-in_buffer buf len now (parts_within packet) is_packet-in within-is (cut (take len buf) (length buf) (form_in (take len buf)))
        (never (take len buf) (length buf) (form_in (take len buf))) cause
        (in_buffer (λ b room was. IsFirstNotPut (Keeps b room was) cause) first)

    pub kept-from : (cause : NotPut) → KeepsInBuffer buf len now cause → Keeps (bytes_of packet) (length (whole_of packet).now) (form_of_block (parts_within packet).block) cause
    kept-from cause fact =
        from_buffer (λ b room was. Keeps b room was cause)
        (from-buffer buf len now (parts_within packet) is_packet-in within-is (cut (take len buf) (length buf) (form_in (take len buf)))
        (never (take len buf) (length buf) (form_in (take len buf))) cause fact)

-- a packet that was changed in its buffer
module _ (old new : RtpPacketBuf) (buf bytes : List ℕ) (len new_len : ℕ) (buf-is : (whole_of old).now ≡ buf) (len-is : len_of old ≡ len) (bytes-is : (whole_of new).now ≡ bytes) (new_len-is : len_of new ≡ new_len) where
  becomes : (Change : PacketParts → PacketParts) → parts_within new ≡ Change (parts_within old) → IsPacket (take new_len bytes) (Change (parts_within old))
  becomes Change is = subst (IsPacket (take new_len bytes)) is (is_packet-in new bytes new_len bytes-is new_len-is)

  pub TakesBlockOff-without : parts_within new ≡ without_block (parts_within old) → TakesBlockOff (take len buf) bytes new_len
  TakesBlockOff-without is = record { parts = parts_within old; was_packet = is_packet-in old buf len buf-is len-is; is_packet = becomes without_block is }

  pub PutsBlock-with : (profile : ℕ) (body : List ℕ) → parts_within new ≡ with_block profile body (parts_within old) → profile_in (bytes_of new) ≡ Some profile → PutsBlock (take len buf) profile body bytes new_len
  PutsBlock-with profile body is profile-is = record {
    parts = parts_within old;
    was_packet = is_packet-in old buf len buf-is len-is;
    is_packet = becomes (with_block profile body) is;
    profile_is = ap profile_in (sym (taken-is new bytes new_len bytes-is new_len-is)) ∙ profile-is;
  }

  pub RemakesBlock-in : (form : ExtensionsForm) (added : List Element) → RemakesBlock (bytes_of old) form added (whole_of new).now (len_of new) → RemakesBlock (take len buf) form added bytes new_len
  RemakesBlock-in form added is =
      subst (RemakesBlock (take len buf) form added bytes) new_len-is
      (subst (λ (b : List ℕ). RemakesBlock (take len buf) form added b (len_of new)) bytes-is
      (subst (λ (b : List ℕ). RemakesBlock b form added (whole_of new).now (len_of new)) (taken-is old buf len buf-is len-is) is))

  -- with the element, in the form that it gets
  pub IsAdded-in : (element : Element) (allowed : Option ExtensionsForm)
      → IfSome (form_with (form_of_block (parts_within old).block) element allowed) (λ form. RemakesBlock (bytes_of old) form (element ∷ []) (whole_of new).now (len_of new))
      → IfSome (form_with (form_in (take len buf)) element allowed) (λ form. RemakesBlock (take len buf) form (element ∷ []) bytes new_len)
  IsAdded-in element allowed is =
      IfSome-weaker (form_with (form_in (take len buf)) element allowed) (λ form. RemakesBlock (bytes_of old) form (element ∷ []) (whole_of new).now (len_of new))
      (λ form. RemakesBlock (take len buf) form (element ∷ []) bytes new_len) (λ form made. RemakesBlock-in form (element ∷ []) made)
      (subst (λ (was : Option ExtensionsForm). IfSome (form_with was element allowed) (λ form. RemakesBlock (bytes_of old) form (element ∷ []) (whole_of new).now (len_of new)))
      (form-is old buf len buf-is len-is ∙ ap form_in (taken-is old buf len buf-is len-is)) is)

  pub stays-in : StaysWhole old new → (bytes ≡ buf) × (new_len ≡ len)
  stays-in stays = (sym bytes-is ∙ stays.bytes_are ∙ buf-is, sym new_len-is ∙ stays.len_is ∙ len-is)

-- a packet without its block isn't longer
pub shorter : (old new : RtpPacketBuf) → parts_within new ≡ without_block (parts_within old) → len_of new ≤ len_of old
shorter old new is =
    omega (
      arith,
      length-bytes old,
      length-bytes new,
      length-packet (bytes_of old) (parts_within old) (is_packet old),
      length-packet (bytes_of new) (without_block (parts_within old)) (subst (IsPacket (bytes_of new)) is (is_packet new)),
    )

-- what keeps a block of this body from the packet: no room
module _ (packet : RtpPacketBuf) (buf body : List ℕ) (len : ℕ) (buf-is : (whole_of packet).now ≡ buf) (len-is : len_of packet ≡ len) (is-body : IsBody body) where
  pub fault-kept : (cause : BlockNotPut) → KeepsFromBlock (parts_within packet) body (length (whole_of packet).now) cause → IsBlockFault buf len body short_buffer
  fault-kept CutWord fact = absurd (fact is-body.0)
  fault-kept TooLong fact = absurd (omega (arith, is-body.1, fact))
  fault-kept (BlockNoRoom needed) fact =
      no_room (parts_within packet) (within-is packet buf len buf-is len-is) is-body (is_packet-in packet buf len buf-is len-is)
      (omega (arith, fact.0, fact.1, ap (λ (b : List ℕ). length b) buf-is)) refl

  pub none-kept : (status : ℤ) → IsBlockFault buf len body status → ((cause : BlockNotPut) → KeepsFromBlock (parts_within packet) body (length (whole_of packet).now) cause → ⊥) → ⊥
  none-kept status (cut_packet short is) none = omega (arith, short, within-is packet buf len buf-is len-is)
  none-kept status (cut_word cut is) none = cut is-body.0
  none-kept status (long within whole more is) none = omega (arith, more, is-body.1)
  none-kept status (no_packet within fits is) none =
      no_packet-refused (take len buf) (parts_within packet) (IsNoPacket-applies (take len buf) is.cause is.is_first.applies) (is_packet-in packet buf len buf-is len-is)
  none-kept status (no_room parts within fits is short status-is) none =
      none (BlockNoRoom _) (
        refl,
        omega (
          arith,
          short,
          ap (λ (b : List ℕ). length b) buf-is,
          ap (λ (p : PacketParts). length p.sources) (parts-is packet buf len buf-is len-is parts is),
          ap (λ (p : PacketParts). length p.payload) (parts-is packet buf len buf-is len-is parts is),
        ),
      )
