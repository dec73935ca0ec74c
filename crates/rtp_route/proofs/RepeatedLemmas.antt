-- A header with the original number behind it is that of a retransmission.
use Rattle.std.proofs.Common.{◌≡◌, ℕ, List, [], ◌∷◌, ◌++◌, Option, Some, None, false, refl, sym, ap, subst, ◌∙◌}
use Rattle.std.specs.Prelude.{unwrap_or}
use Rattle.std.specs.Int.{w16, to_be_bytes}
use Rattle.std.specs.List.{flat_map}
use Rattle.rtp_ext.specs.declared.form.ExtensionsForm.{ExtensionsForm}
use Rattle.rtp_ext.specs.Elements.{Element, element_bytes, piece_bytes}
use Rattle.rtp_ext.specs.ElementsInPlace.{renumbered_bytes}
use Rattle.rtp_wire.specs.declared.packet.fields.Fields.{Fields}
use Rattle.rtp_wire.specs.declared.packet.retransmission.RetransmissionFields.{RetransmissionFields}
use Rattle.rtp_wire.specs.Packet.{PacketParts, IsWithoutPadding}
use Rattle.rtp_wire.specs.PacketElements.{AreElementsOf}
use Rattle.rtp_wire.specs.Retransmission.{IsBlockUnder, IsRetransmissionOf}
use Rattle.rtp_wire.proofs.PaddingChanges.{IsPacket-longer}
use Rattle.rtp_route.specs.Retransmitted.{IsRoutedAgain, AreFieldsAgain, RepeatsPacketWith}
use Rattle.rtp_route.specs.Routing.{row_in, routed_elements, routed_parts}
use Rattle.rtp_route.proofs.OneHeaderLemmas.{one-routing}
use Rattle.rtp_route.proofs.StartLemmas.{same_parts}

-- ---- a block whose elements keep their ids

same-pieces : (form : ExtensionsForm) (pieces : List (Option Element)) → flat_map (renumbered_bytes form (λ id. Some id)) pieces ≡ flat_map (piece_bytes form) pieces
same-pieces form [] = refl
same-pieces form (None ∷ pieces) = ap (λ (xs : List ℕ). 0 ∷ xs) (same-pieces form pieces)
same-pieces form (Some element ∷ pieces) = ap (λ (xs : List ℕ). element_bytes form element ++ xs) (same-pieces form pieces)

same-block : (block : Option (ExtensionsForm × List ℕ)) (elements : List Element) → AreElementsOf block elements → IsBlockUnder (λ id. Some id) block block
same-block None elements are = refl
same-block (Some block) elements are = (
  block.1,
  refl,
  record {
    pieces = are.pieces;
    tail = are.tail;
    are_pieces = are.are_pieces;
    is_tail = are.is_tail;
    old_is = are.body_is;
    new_is = are.body_is ∙ ap (λ (xs : List ℕ). xs ++ are.tail) (sym (same-pieces block.0 are.pieces));
  },
)

-- ---- what the packets say

-- a receiver's packet with this payload, and its retransmission
abbrev with_payload : Fields → (ℕ → Option ℕ) → List Element → Option ExtensionsForm → List Element → PacketParts → List ℕ → PacketParts
with_payload fields ids news form elements was payload = record (routed_parts fields ids news form elements was) { payload = payload }

abbrev repeated : Fields → (ℕ → Option ℕ) → List Element → Option ExtensionsForm → List Element → PacketParts → List ℕ → PacketParts
repeated fields ids news form elements was payload = record (routed_parts fields ids news form elements was) { has_padding = false; payload = payload }

says-again : (got fields : Fields) (number : ℕ) (stream : RetransmissionFields) (ids : ℕ → Option ℕ) (news : List Element) (form : Option ExtensionsForm) (elements : List Element) (was : PacketParts)
    (payload unpadded : List ℕ) → AreFieldsAgain got number stream fields → AreElementsOf (row_in form (routed_elements ids news elements)) (routed_elements ids news elements)
    → IsWithoutPadding was.has_padding payload unpadded
    → IsRetransmissionOf (with_payload got ids news form elements was payload) stream (λ id. Some id) (repeated fields ids news form elements was (to_be_bytes w16 number ++ unpadded))
says-again got fields number stream ids news form elements was payload unpadded again are without = record {
  payload = unpadded;
  payload_is = without;
  block_is = same-block (row_in form (routed_elements ids news elements)) (routed_elements ids news elements) are;
  parts_are = ap (λ (f : Fields). repeated f ids news form elements was (to_be_bytes w16 number ++ unpadded)) again.fields_are
      ∙ ap
      (λ (n : Option ℕ).
      repeated
      (record got { payload_type = Some stream.payload_type; sequence_number = Some stream.sequence_number; ssrc = Some stream.ssrc })
      ids news form elements was
      (to_be_bytes w16 (unwrap_or n was.sequence_number) ++ unpadded))
      (sym again.number_is);
}

pub repeats : (old new : List ℕ) (got fields : Fields) (number : ℕ) (stream : RetransmissionFields) (ids : ℕ → Option ℕ) (news : List Element) (allowed : Option ExtensionsForm)
    → AreFieldsAgain got number stream fields → IsRoutedAgain old fields number ids news allowed new → RepeatsPacketWith old got stream ids news allowed new
repeats old new got fields number stream ids news allowed fields_again again header payload unpadded original sent p is without sent_is =
    let q = again.routed in
    let one = one-routing old got fields ids news allowed header again.header p q in
    let parts : q.parts ≡ p.parts = one.0 in
    let elements : q.elements ≡ p.elements = one.1 in
    let form : q.form ≡ p.form = one.2 in
    let original_is : original ≡ with_payload got ids news p.form p.elements p.parts payload = same_parts (header ++ payload) original _ is (IsPacket-longer header payload _ p.is_packet) in
    let sent_of : sent ≡ repeated fields ids news q.form q.elements q.parts (to_be_bytes w16 number ++ unpadded) =
    same_parts (new ++ unpadded) sent _ sent_is (IsPacket-longer new unpadded _ (again.is_packet _ q.is_packet)) in
    let sent_as : sent ≡ repeated fields ids news p.form p.elements p.parts (to_be_bytes w16 number ++ unpadded) =
    sent_of
    ∙ ap (λ (s : PacketParts). repeated fields ids news q.form q.elements s (to_be_bytes w16 number ++ unpadded)) parts
    ∙ ap (λ (es : List Element). repeated fields ids news q.form es p.parts (to_be_bytes w16 number ++ unpadded)) elements
    ∙ ap (λ (f : Option ExtensionsForm). repeated fields ids news f p.elements p.parts (to_be_bytes w16 number ++ unpadded)) form in
    let unpadded_is : IsWithoutPadding p.parts.has_padding payload unpadded = subst (λ (o : PacketParts). IsWithoutPadding o.has_padding payload unpadded) original_is without in
    subst (λ (o : PacketParts). IsRetransmissionOf o stream (λ id. Some id) sent) (sym original_is)
    (subst (λ (s : PacketParts). IsRetransmissionOf (with_payload got ids news p.form p.elements p.parts payload) stream (λ id. Some id) s) (sym sent_as)
    (says-again got fields number stream ids news p.form p.elements p.parts payload unpadded fields_again p.are_elements unpadded_is))
