-- What is put into two packets that say the same, but for where their elements lie.
use Rattle.std.proofs.Common.{◌≡◌, ℕ, ◌+◌, ◌*◌, ◌≤◌, true, List, [], ◌∷◌, ◌++◌, length, length-append, take, max, Option, Some, refl, sym, ap, subst, ◌∙◌, arith}
use Rattle.std.proofs.lemmas.Option.{same_Some}
use Rattle.rtp_ext.specs.declared.form.ExtensionsForm.{ExtensionsForm}
use Rattle.rtp_ext.specs.Elements.{Element, AreElements, elements_bytes}
use Rattle.rtp_ext.specs.ElementsInPlace.{SetsLast}
use Rattle.rtp_ext.specs.PutElement.{needed_form, allowed_form, row_to}
use Rattle.rtp_ext.specs.WrittenBlock.{whole_words}
use Rattle.rtp_wire.specs.declared.packet.not_put.NotPut.{NotPut}
use Rattle.rtp_wire.specs.declared.packet.not_put.NotPut.TheVariants.{CutPacket, ZeroId, LongData, NotAPacket, OtherForm, LongId, OneByteOnly, LongBlock, NoRoom}
use Rattle.rtp_wire.specs.Packet.{PacketParts, IsPacket}
use Rattle.rtp_wire.specs.PacketElements.{AreElementsOf}
use Rattle.rtp_wire.specs.PutIntoPacket.{form_of_block, body_of_block, elements_with, IsGrowth, IsBodyWith, in_place, anew, PutsElement, AppliesToPut}
use Rattle.rtp_wire.proofs.PacketLemmas.{no_packet}
use Rattle.rtp_route.specs.Calls.{ArePut}
use Rattle.rtp_route.specs.NotPutAmong.{HasSameElements}
use Rattle.rtp_route.proofs.StartLemmas.{same_parts, same_elements}

-- the other packet, with its own block
abbrev other_parts : (one other : List ℕ) → HasSameElements one other → PacketParts
other_parts one other same = record same.parts { block = same.block }

-- ---- the same causes

growth-other : (one other : List ℕ) (element : Element) (allowed : Option ExtensionsForm) → HasSameElements one other → (g : IsGrowth one element allowed)
    → (h : IsGrowth other element allowed) × (h.form ≡ g.form) × (h.body_len ≡ g.body_len) × (h.len ≡ g.len)
growth-other one other element allowed same g =
    let p_is : g.parts ≡ same.parts = same_parts one g.parts same.parts g.is_packet same.is_packet in
    let es_is : g.elements ≡ same.elements =
    same_elements same.parts.block g.elements same.elements (subst (λ (p : PacketParts). AreElementsOf p.block g.elements) p_is g.are_elements) same.are_elements in
    let form_was : form_of_block g.parts.block ≡ form_of_block same.block = ap (λ (p : PacketParts). form_of_block p.block) p_is ∙ sym same.same_form in
    let body_was : length (body_of_block g.parts.block) ≡ length (body_of_block same.block) = ap (λ (p : PacketParts). length (body_of_block p.block)) p_is ∙ sym same.same_length in (
      record {
        parts = other_parts one other same;
        elements = g.elements;
        form = g.form;
        body_len = g.body_len;
        len = g.len;
        is_packet = same.other_packet;
        no_other = ap (λ (p : PacketParts). p.other_block) (sym p_is) ∙ g.no_other;
        are_elements = subst (AreElementsOf same.block) (sym es_is) same.other_elements;
        form_is = ap (λ (f : Option ExtensionsForm). allowed_form allowed (needed_form f element)) (sym form_was) ∙ g.form_is;
        body_len_is = g.body_len_is ∙ ap (λ (n : ℕ). max n (whole_words (length (elements_bytes g.form (elements_with element g.elements))))) body_was;
        len_is = g.len_is ∙ ap (λ (p : PacketParts). 12 + 4 * length p.sources + (4 + g.body_len) + length p.payload) p_is;
      },
      refl,
      refl,
      refl,
    )

pub applies-other : (one_buf other_buf : List ℕ) (one_len other_len : ℕ) (element : Element) (allowed : Option ExtensionsForm) (cause : NotPut)
    → HasSameElements (take one_len one_buf) (take other_len other_buf) → length one_buf ≡ length other_buf → one_len ≤ length one_buf
    → AppliesToPut one_buf one_len element allowed cause → AppliesToPut other_buf other_len element allowed cause
applies-other one_buf other_buf one_len other_len element allowed CutPacket same room within fact = absurd (omega (arith, within, fact))
applies-other one_buf other_buf one_len other_len element allowed ZeroId same room within fact = fact
applies-other one_buf other_buf one_len other_len element allowed LongData same room within fact = fact
applies-other one_buf other_buf one_len other_len element allowed (NotAPacket cause) same room within fact =
    absurd (no_packet (take one_len one_buf) cause same.parts fact.applies same.is_packet)
applies-other one_buf other_buf one_len other_len element allowed OtherForm same room within fact = record {
  parts = other_parts (take one_len one_buf) (take other_len other_buf) same;
  is_packet = same.other_packet;
  other = fact.other;
  other_is = ap (λ (p : PacketParts). p.other_block) (same_parts (take one_len one_buf) same.parts fact.parts same.is_packet fact.is_packet) ∙ fact.other_is;
}
applies-other one_buf other_buf one_len other_len element allowed LongId same room within fact = fact
applies-other one_buf other_buf one_len other_len element allowed OneByteOnly same room within fact =
    let p_is : same.parts ≡ fact.0 = same_parts (take one_len one_buf) same.parts fact.0 same.is_packet fact.1 in (
      other_parts (take one_len one_buf) (take other_len other_buf) same,
      same.other_packet,
      ap (λ (f : Option ExtensionsForm). allowed_form allowed (needed_form f element)) (same.same_form ∙ ap (λ (p : PacketParts). form_of_block p.block) p_is) ∙ fact.2,
    )
applies-other one_buf other_buf one_len other_len element allowed LongBlock same room within fact =
    let grown = growth-other (take one_len one_buf) (take other_len other_buf) element allowed same fact.0 in
    (grown.0, omega (arith, grown.2, fact.1))
applies-other one_buf other_buf one_len other_len element allowed (NoRoom needed) same room within fact =
    let grown = growth-other (take one_len one_buf) (take other_len other_buf) element allowed same fact.0 in
    (grown.0, fact.1 ∙ sym grown.3, omega (arith, room, fact.2))

-- ---- the same once elements are put

pub set-length : (form : ExtensionsForm) (id : ℕ) (bytes old new : List ℕ) → SetsLast form id bytes old new → length new ≡ length old
set-length form id bytes old new set =
    omega (arith, ap length set.old_is, ap length set.new_is, set.as_many, length-append set.front (set.was ++ set.rest), length-append set.was set.rest, length-append set.front (bytes ++ set.rest), length-append bytes set.rest)

body-length : (one other : Option (ExtensionsForm × List ℕ)) (elements : List Element) (element : Element) (form : ExtensionsForm) (one_len other_len : ℕ) (a b : List ℕ)
    → form_of_block one ≡ form_of_block other → length (body_of_block one) ≡ length (body_of_block other) → one_len ≡ other_len
    → IsBodyWith one elements element form one_len a → IsBodyWith other elements element form other_len b → length a ≡ length b
body-length one other elements element form one_len other_len a b same long lens (in_place here set) (in_place there set_there) =
    set-length form element.0 element.1 (body_of_block one) a set ∙ long ∙ sym (set-length form element.0 element.1 (body_of_block other) b set_there)
body-length one other elements element form one_len other_len a b same long lens (in_place here set) (anew not_there is) = absurd (not_there (sym same ∙ here.0, here.1))
body-length one other elements element form one_len other_len a b same long lens (anew not_here is) (in_place there set) = absurd (not_here (same ∙ there.0, there.1))
body-length one other elements element form one_len other_len a b same long lens (anew not_here is) (anew not_there is_there) =
    ap length (is ∙ ap (row_to form (elements_with element elements)) lens ∙ sym is_there)

put-other : (one other : List ℕ) (element : Element) (allowed : Option ExtensionsForm) (one_new other_new : List ℕ) (one_len other_len : ℕ) → HasSameElements one other
    → PutsElement one element allowed one_new one_len → PutsElement other element allowed other_new other_len → HasSameElements (take one_len one_new) (take other_len other_new)
put-other one other element allowed one_new other_new one_len other_len same p q =
    let g = p.growth in
    let h = q.growth in
    let p_is : g.parts ≡ same.parts = same_parts one g.parts same.parts g.is_packet same.is_packet in
    let q_is : h.parts ≡ other_parts one other same = same_parts other h.parts (other_parts one other same) h.is_packet same.other_packet in
    let es_g : g.elements ≡ same.elements =
    same_elements same.parts.block g.elements same.elements (subst (λ (s : PacketParts). AreElementsOf s.block g.elements) p_is g.are_elements) same.are_elements in
    let es_h : h.elements ≡ same.elements =
    same_elements same.block h.elements same.elements (subst (λ (s : PacketParts). AreElementsOf s.block h.elements) q_is h.are_elements) same.other_elements in
    let form_was : form_of_block g.parts.block ≡ form_of_block h.parts.block =
    ap (λ (s : PacketParts). form_of_block s.block) p_is ∙ sym same.same_form ∙ ap (λ (s : PacketParts). form_of_block s.block) (sym q_is) in
    let form : g.form ≡ h.form = same_Some _ _ (sym g.form_is ∙ ap (λ (f : Option ExtensionsForm). allowed_form allowed (needed_form f element)) form_was ∙ h.form_is) in
    let body_was : length (body_of_block g.parts.block) ≡ length (body_of_block h.parts.block) =
    ap (λ (s : PacketParts). length (body_of_block s.block)) p_is ∙ sym same.same_length ∙ ap (λ (s : PacketParts). length (body_of_block s.block)) (sym q_is) in
    let long : g.body_len ≡ h.body_len =
    g.body_len_is
    ∙ ap (λ (n : ℕ). max n (whole_words (length (elements_bytes g.form (elements_with element g.elements))))) body_was
    ∙ ap (λ (es : List Element). max (length (body_of_block h.parts.block)) (whole_words (length (elements_bytes g.form (elements_with element es))))) (es_g ∙ sym es_h)
    ∙ ap (λ (f : ExtensionsForm). max (length (body_of_block h.parts.block)) (whole_words (length (elements_bytes f (elements_with element h.elements))))) form
    ∙ sym h.body_len_is in
    let one_body : IsBodyWith same.parts.block same.elements element h.form g.body_len p.body =
    subst (λ (f : ExtensionsForm). IsBodyWith same.parts.block same.elements element f g.body_len p.body) form
    (subst (λ (es : List Element). IsBodyWith same.parts.block es element g.form g.body_len p.body) es_g
    (subst (λ (s : PacketParts). IsBodyWith s.block g.elements element g.form g.body_len p.body) p_is p.body_is)) in
    let other_body : IsBodyWith same.block same.elements element h.form h.body_len q.body =
    subst (λ (es : List Element). IsBodyWith same.block es element h.form h.body_len q.body) es_h
    (subst (λ (s : PacketParts). IsBodyWith s.block h.elements element h.form h.body_len q.body) q_is q.body_is) in
    record {
      parts = record same.parts { has_extension = true; block = Some (g.form, p.body) };
      block = Some (h.form, q.body);
      elements = elements_with element same.elements;
      is_packet = subst (λ (s : PacketParts). IsPacket (take one_len one_new) (record s { has_extension = true; block = Some (g.form, p.body) })) p_is p.is_packet;
      other_packet = subst (λ (s : PacketParts). IsPacket (take other_len other_new) (record s { has_extension = true; block = Some (h.form, q.body) })) q_is q.is_packet;
      same_form = ap Some (sym form);
      same_length =
          body-length same.block same.parts.block same.elements element h.form h.body_len g.body_len q.body p.body same.same_form same.same_length (sym long) other_body one_body;
      are_elements = subst (λ (es : List Element). AreElements g.form p.body (elements_with element es)) es_g p.are_elements;
      other_elements = subst (λ (es : List Element). AreElements h.form q.body (elements_with element es)) es_h q.are_elements;
    }

pub put_all-other : (news : List Element) (allowed : Option ExtensionsForm) (one other one_new other_new : List ℕ) → HasSameElements one other → ArePut one news allowed one_new
    → ArePut other news allowed other_new → HasSameElements one_new other_new
put_all-other [] allowed one other one_new other_new same p q = subst (λ (b : List ℕ). HasSameElements b other_new) (sym p) (subst (HasSameElements one) (sym q) same)
put_all-other (new ∷ news) allowed one other one_new other_new same p q =
    put_all-other news allowed (take p.1 p.0) (take q.1 q.0) one_new other_new (put-other one other new allowed p.0 q.0 p.1 q.1 same p.2 q.2) p.3 q.3
