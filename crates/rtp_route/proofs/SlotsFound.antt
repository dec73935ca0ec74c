-- The places that are found for elements.
use Rattle.std.proofs.Common.{◌≡◌, ℕ, ◌+◌, ◌-◌, ◌*◌, List, [], ◌∷◌, ◌++◌, length, Some, refl, sym, ap, subst, ◌∙◌, arith}
use Rattle.rtp_ext.specs.declared.form.ExtensionsForm.{ExtensionsForm}
use Rattle.rtp_ext.specs.declared.place.Place.{Place}
use Rattle.rtp_ext.specs.Elements.{Element, elements_bytes, AreElements}
use Rattle.rtp_ext.specs.ElementPlaces.{LiesLast}
use Rattle.rtp_ext.specs.WrittenBlock.{filled}
use Rattle.rtp_ext.proofs.NewIdLemmas.{All-IsElement}
use Rattle.rtp_wire.specs.declared.packet.rtp_packet.RtpPacket.{RtpPacket}
use Rattle.rtp_wire.specs.Packet.{block_len, header_len_of}
use Rattle.rtp_wire.specs.PartsOf.{parts_of}
use Rattle.rtp_wire.proofs.PartsLemmas.{IsPacket-found}
use Rattle.rtp_route.specs.declared.slots.Slot.{Slot}
use Rattle.rtp_route.specs.Template.{HasOnly, HasRow, IsSlot, AreSlots, body_start_of}
use Rattle.rtp_route.proofs.BodyLemmas.{announces}
use Rattle.rtp_route.proofs.OnlyLemmas.{slot-lies, elements-by_turns}

some_pair : (a b : ExtensionsForm × List ℕ) → Some a ≡ Some b → a ≡ b
some_pair a b same = cc

pub slot-found : (packet : RtpPacket) (form f : ExtensionsForm) (body : List ℕ) (elements : List Element) (new : Element) (id : ℕ) (place : Place) (slot : Slot) (header_len : ℕ)
    → Some (f, body) ≡ (parts_of packet).block → HasRow (parts_of packet) form elements → HasOnly elements new → id ≡ new.0 → place.id ≡ id → LiesLast f (AreElements f) id body place
    → header_len ≡ header_len_of (parts_of packet) → slot.start ≡ header_len - length body + place.data_start → slot.len ≡ place.end - place.data_start
    → IsSlot form (body_start_of (parts_of packet)) elements new slot
slot-found packet form f body elements new id place slot header_len block row only id_is place_id lies len_is start_is slot_len =
    let parts = parts_of packet in
    let is = IsPacket-found packet in
    let both : Some (f, body) ≡ Some (form, filled (elements_bytes form elements)) = block ∙ row.block_is in
    let pair : (f, body) ≡ (form, filled (elements_bytes form elements)) = some_pair (f, body) (form, filled (elements_bytes form elements)) both in
    let form_is : f ≡ form = ap (λ (p : ExtensionsForm × List ℕ). p.0) pair in
    let body_is : body ≡ filled (elements_bytes form elements) = ap (λ (p : ExtensionsForm × List ℕ). p.1) pair in
    let there : LiesLast form (AreElements form) new.0 (filled (elements_bytes form elements)) place =
    subst (λ (b : List ℕ). LiesLast form (AreElements form) new.0 b place) body_is
    (subst (λ (k : ℕ). LiesLast form (AreElements form) k body place) id_is (subst (λ (g : ExtensionsForm). LiesLast g (AreElements g) id body place) form_is lies)) in
    let no_other : block_len parts.other_block ≡ 0 = (announces parts.has_extension parts.block parts.other_block is.part form (filled (elements_bytes form elements)) row.block_is is.part_is).no_other in
    let long : block_len parts.block ≡ 4 + length body = ap block_len (sym block) in
    let end = lies.lies.end_is in
    slot-lies form (16 + 4 * length parts.sources) elements new place slot
    (elements-by_turns form elements (All-IsElement form (filled (elements_bytes form elements)) elements row.are_elements)) only (place_id ∙ id_is) there
    (omega (arith, start_is, len_is, no_other, long)) (omega (arith, slot_len, end))

pub slots-push : (form : ExtensionsForm) (start : ℕ) (row news : List Element) (slots : List Slot) (new : Element) (slot : Slot) → AreSlots form start row news slots → IsSlot form start row new slot
    → AreSlots form start row (news ++ new ∷ []) (slots ++ slot ∷ [])
slots-push form start row [] [] new slot are is = (is, refl)
slots-push form start row [] (first ∷ slots) new slot are is = absurd cc
slots-push form start row (other ∷ news) [] new slot are is = absurd are
slots-push form start row (other ∷ news) (first ∷ slots) new slot are is = (are.0, slots-push form start row news slots new slot are.1 is)

-- what is read of the body
pub row-in : (packet : RtpPacket) (form f : ExtensionsForm) (body : List ℕ) (elements : List Element) → Some (f, body) ≡ (parts_of packet).block → HasRow (parts_of packet) form elements
    → AreElements f body elements
row-in packet form f body elements block row =
    let both : Some (f, body) ≡ Some (form, filled (elements_bytes form elements)) = block ∙ row.block_is in
    let pair : (f, body) ≡ (form, filled (elements_bytes form elements)) = some_pair (f, body) (form, filled (elements_bytes form elements)) both in
    let form_is : f ≡ form = ap (λ (p : ExtensionsForm × List ℕ). p.0) pair in
    let body_is : body ≡ filled (elements_bytes form elements) = ap (λ (p : ExtensionsForm × List ℕ). p.1) pair in
    subst (λ (g : ExtensionsForm). AreElements g body elements) (sym form_is) (subst (λ (b : List ℕ). AreElements form b elements) (sym body_is) row.are_elements)
