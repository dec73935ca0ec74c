-- A packet in a buffer whose block is made anew: what the buffer then keeps of it, and why it may not be.
use Rattle.std.proofs.Common.{◌≡◌, ℕ, ◌<◌, ◌≤◌, true, false, List, [], ◌∷◌, length, Option, Some, sym, ap, subst, ◌∙◌, arith}
use Rattle.std.specs.Prelude.{is_some}
use Rattle.std.proofs.lemmas.Option.{none-some, same_Some}
use Rattle.rtp_ext.specs.declared.form.ExtensionsForm.{ExtensionsForm}
use Rattle.rtp_ext.specs.ElementsInARow.{IsWritable}
use Rattle.rtp_ext.specs.PutElement.{without}
use Rattle.rtp_ext.specs.Elements.{Element}
use Rattle.rtp_wire.specs.declared.packet.rtp_packet_buf.RtpPacketBuf.{RtpPacketBuf}
use Rattle.rtp_wire.specs.declared.packet.not_put.NotPut.{NotPut}
use Rattle.rtp_wire.specs.declared.packet.not_put.NotPut.TheVariants.{CutPacket, ZeroId, LongData, NotAPacket, OtherForm, LongId, OneByteOnly, LongBlock, NoRoom}
use Rattle.rtp_wire.specs.Packet.{HasOtherForm}
use Rattle.rtp_wire.specs.PacketBuf.{bytes_of, parts_within}
use Rattle.rtp_wire.specs.PutIntoPacket.{form_of_block, put_place}
use Rattle.rtp_wire.specs.RemadeBlock.{IsTooLong, HasNoRoom, IsInOther, KeepsFromForm, form_with, KeepsFromAdding}
use Rattle.rtp_wire.specs.RewrittenBlock.{StopsForm, CarriesNot, StopsRewriting}
use Rattle.rtp_wire.proofs.PacketBufLemmas.{is_packet, kept-parts}
use Rattle.rtp_wire.proofs.PartsLemmas.{some_there, none_there, no_other_form}
use Rattle.rtp_wire.proofs.RewrittenLemmas.{long-uncarried, each-among}
use Rattle.rtp_wire.proofs.RemadeLemmas.{remade-of, of-remade, of-uncarried, uncarried-of}
use Rattle.rtp_wire.proofs.PutPlanLemmas.{no_long_id, carried-with}

-- ---- the causes

-- the same form, in the packet and in what is kept of it
pub kept-form : (packet : RtpPacketBuf) → packet.form ≡ form_of_block (parts_within packet).block
kept-form packet = (kept-parts packet (parts_within packet) (is_packet packet)).1

pub other-form : (packet : RtpPacketBuf) → is_some (parts_within packet).other_block ≡ true → HasOtherForm (bytes_of packet)
other-form packet some =
    let other = some_there (parts_within packet).other_block some in record { parts = parts_within packet; is_packet = is_packet packet; other = other.0; other_is = other.1 }

pub no-other : (packet : RtpPacketBuf) → is_some (parts_within packet).other_block ≡ false → HasOtherForm (bytes_of packet) → ⊥
no-other packet none = no_other_form (bytes_of packet) (parts_within packet) (is_packet packet) (none_there (parts_within packet).other_block none)

-- from one form to the other
module _ (bytes : List ℕ) (room : ℕ) (was : Option ExtensionsForm) (form : ExtensionsForm) where
  pub to-form : IsInOther was form → (cause : NotPut) → StopsRewriting bytes room form 0 [] cause → KeepsFromForm bytes room was form cause
  to-form is LongId fact = (is, fact.0)
  to-form is OneByteOnly fact = (is, uncarried-of bytes form [] tt fact)
  to-form is LongBlock fact = (is, (remade-of bytes form [] fact.0, fact.1))
  to-form is (NoRoom n) fact = (is, (remade-of bytes form [] fact.0, fact.1, fact.2))
  to-form is cause fact = absurd fact

  pub from-form : (HasOtherForm bytes → ⊥) → (cause : NotPut) → KeepsFromForm bytes room was form cause → StopsRewriting bytes room form 0 [] cause
  from-form none OtherForm fact = none fact
  from-form none LongId fact = (fact.1, of-uncarried bytes form [] (long-uncarried bytes form fact.1))
  from-form none OneByteOnly fact = of-uncarried bytes form [] fact.1
  from-form none LongBlock fact = (of-remade bytes form [] tt fact.1.0, fact.1.1)
  from-form none (NoRoom n) fact = (of-remade bytes form [] tt fact.1.0, fact.1.1, fact.1.2)
  from-form none cause fact = fact

  -- a block that has the form already, or none
  pub none-form : (IsInOther was form → ⊥) → (HasOtherForm bytes → ⊥) → (cause : NotPut) → KeepsFromForm bytes room was form cause → ⊥
  none-form other none OtherForm fact = none fact
  none-form other none LongId fact = other fact.0
  none-form other none OneByteOnly fact = other fact.0
  none-form other none LongBlock fact = other fact.0
  none-form other none (NoRoom n) fact = other fact.0
  none-form other none cause fact = fact

-- an element behind the others
module _ (packet : RtpPacketBuf) (room : ℕ) (element : Element) (allowed : Option ExtensionsForm) where
  pub form-to_adding : (cause : NotPut) → StopsForm (bytes_of packet) element allowed cause → KeepsFromAdding (bytes_of packet) room (form_of_block (parts_within packet).block) element allowed cause
  form-to_adding OtherForm fact = fact
  form-to_adding LongId fact = fact
  form-to_adding OneByteOnly fact =
      ap (λ (was : Option ExtensionsForm). form_with was element allowed) (sym (kept-form packet) ∙ (kept-parts packet fact.0 fact.1).1) ∙ fact.2
  form-to_adding cause fact = absurd fact

  module _ (above : 1 ≤ element.0) (short : length element.1 ≤ 255) where
    pub adding-to_form : (cause : NotPut) → put_place cause < 7 → KeepsFromAdding (bytes_of packet) room (form_of_block (parts_within packet).block) element allowed cause
        → StopsForm (bytes_of packet) element allowed cause
    adding-to_form CutPacket before fact = fact
    adding-to_form ZeroId before fact = omega (arith, above, fact)
    adding-to_form LongData before fact = omega (arith, short, fact)
    adding-to_form (NotAPacket cause) before fact = fact
    adding-to_form OtherForm before fact = fact
    adding-to_form LongId before fact = fact
    adding-to_form OneByteOnly before fact = (parts_within packet, is_packet packet, fact)
    adding-to_form LongBlock before fact = omega arith
    adding-to_form (NoRoom n) before fact = omega arith

    module _ (form : ExtensionsForm) (some : form_with (form_of_block (parts_within packet).block) element allowed ≡ Some form) (writable : IsWritable form element) where
      carries-all : CarriesNot (bytes_of packet) form 0 (element ∷ []) → ⊥
      carries-all has =
          let same : form_of_block (parts_within packet).block ≡ form_of_block has.parts.block = sym (kept-form packet) ∙ (kept-parts packet has.parts has.is_packet).1 in
          has.uncarried (each-among (IsWritable form) 0 (element ∷ []) (without 0 has.elements) (writable, tt)
          (carried-with has.parts.block has.elements element allowed form has.are_elements (ap (λ (was : Option ExtensionsForm). form_with was element allowed) (sym same) ∙ some)))

      pub to-adding : (cause : NotPut) → StopsRewriting (bytes_of packet) room form 0 (element ∷ []) cause
          → KeepsFromAdding (bytes_of packet) room (form_of_block (parts_within packet).block) element allowed cause
      to-adding LongId fact = absurd (carries-all fact.1)
      to-adding OneByteOnly fact = absurd (carries-all fact)
      to-adding LongBlock fact = (form, some, (remade-of (bytes_of packet) form (element ∷ []) fact.0, fact.1))
      to-adding (NoRoom n) fact = (form, some, (remade-of (bytes_of packet) form (element ∷ []) fact.0, fact.1, fact.2))
      to-adding cause fact = absurd fact

      pub from-adding : (HasOtherForm (bytes_of packet) → ⊥) → (cause : NotPut)
          → KeepsFromAdding (bytes_of packet) room (form_of_block (parts_within packet).block) element allowed cause → StopsRewriting (bytes_of packet) room form 0 (element ∷ []) cause
      from-adding none OtherForm fact = none fact
      from-adding none LongId fact = absurd (no_long_id (form_of_block (parts_within packet).block) allowed element form some fact)
      from-adding none OneByteOnly fact = absurd (none-some form (sym fact ∙ some))
      from-adding none LongBlock fact =
          let long = subst (λ (f : ExtensionsForm). IsTooLong (bytes_of packet) f (element ∷ [])) (same_Some _ _ (sym fact.1 ∙ some)) fact.2 in
          (of-remade (bytes_of packet) form (element ∷ []) (writable, tt) long.0, long.1)
      from-adding none (NoRoom n) fact =
          let short = subst (λ (f : ExtensionsForm). HasNoRoom (bytes_of packet) room f (element ∷ []) n) (same_Some _ _ (sym fact.1 ∙ some)) fact.2 in
          (of-remade (bytes_of packet) form (element ∷ []) (writable, tt) short.0, short.1, short.2)
      from-adding none cause fact = adding-to_form cause (omega arith) fact
