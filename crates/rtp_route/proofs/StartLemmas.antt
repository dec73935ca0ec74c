-- A packet once its fields are set and its elements have their new ids.
use Rattle.std.proofs.Common.{◌≡◌, ◌≢◌, ℕ, ◌+◌, ◌-◌, ◌*◌, ◌≤◌, ◌⊎◌, inl, inr, Bool, true, false, not, cond, List, [], ◌∷◌, ◌++◌, length, length-append, take, drop, max, replicate, Option, Some, None, option_map, refl, sym, ap, subst, ◌∙◌, arith, append-nil}
use Rattle.std.specs.List.{filter_map, cons_option}
use Rattle.std.proofs.lemmas.Bool.{eqb-true}
use Rattle.std.proofs.lemmas.List.{length-replicate}
use Rattle.rtp_ext.specs.declared.form.ExtensionsForm.{ExtensionsForm}
use Rattle.rtp_ext.specs.declared.form.ExtensionsForm.TheVariants.{OneByte, TwoByte}
use Rattle.rtp_ext.specs.Elements.{Element, AreElements, elements_bytes}
use Rattle.rtp_ext.specs.ElementsInPlace.{renumbered}
use Rattle.rtp_ext.specs.PutElement.{has_id, without, row_to}
use Rattle.rtp_ext.specs.WrittenBlock.{whole_words}
use Rattle.rtp_ext.proofs.LastPlaceLemmas.{AreElements-same}
use Rattle.rtp_wire.specs.declared.packet.fields.Fields.{Fields}
use Rattle.rtp_wire.specs.ChangedPacket.{ChangesOnlyBody}
use Rattle.rtp_wire.specs.GivenFields.{with_header_fields}
use Rattle.rtp_wire.specs.NotAHeader.{sources_end}
use Rattle.rtp_wire.specs.Packet.{PacketParts, IsPacket, block_len}
use Rattle.rtp_wire.specs.PacketElements.{AreElementsOf}
use Rattle.rtp_wire.specs.PutIntoPacket.{form_of_block, body_of_block}
use Rattle.rtp_wire.proofs.PacketLemmas.{one_packet}
use Rattle.rtp_wire.proofs.PartsLemmas.{length-packet}
use Rattle.rtp_wire.proofs.ResizedLemmas.{sources_end-is, extension-announced}
use Rattle.rtp_route.specs.Calls.{IsRenumbered, IsUnderNewIds, IsChangedAndRenumbered, IsRenumberedInForm, in_own_form, in_two_byte_form, IsSetAndRenumbered}
use Rattle.rtp_route.specs.NotPutAmong.{HasSameElements}
use Rattle.rtp_route.specs.Routing.{CarriesIds, IsFormForIds, own_form, two_byte_form, word_bytes, KeepsWord}
use Rattle.rtp_route.proofs.WordLemmas.{word_before, from_twelve, word_of, KeepsWord-between, KeepsWord-remade}

-- ---- one packet has one list of elements

pub same_parts : (bytes : List ℕ) (p q : PacketParts) → IsPacket bytes p → IsPacket bytes q → p ≡ q
same_parts bytes p q is_p is_q = sym (one_packet bytes p is_p) ∙ one_packet bytes q is_q

pub same_elements : (block : Option (ExtensionsForm × List ℕ)) (xs ys : List Element) → AreElementsOf block xs → AreElementsOf block ys → xs ≡ ys
same_elements None xs ys are_xs are_ys = are_xs ∙ sym are_ys
same_elements (Some block) xs ys are_xs are_ys = AreElements-same block.0 block.1 xs ys are_xs are_ys

-- ---- new ids

-- the packet under its new ids
pub record HasNewIds (ids : ℕ → Option ℕ) (elements : List Element) (was new : PacketParts) : Type 0 where
  pub block : Option (ExtensionsForm × List ℕ)
  pub parts_are : new ≡ record was { block = block }
  pub same_form : form_of_block block ≡ form_of_block was.block
  pub are_elements : AreElementsOf block (filter_map (renumbered ids) elements)

pub new_ids : (ids : ℕ → Option ℕ) (elements : List Element) (was new : PacketParts) (block : Option (ExtensionsForm × List ℕ)) → was.block ≡ block → AreElementsOf block elements
    → IsRenumbered ids elements block was new → HasNewIds ids elements was new
new_ids ids elements was new None none are same = record {
  block = None;
  parts_are = same ∙ ap (λ (b : Option (ExtensionsForm × List ℕ)). record was { block = b }) none;
  same_form = ap form_of_block (sym none);
  are_elements = ap (filter_map (renumbered ids)) are;
}
new_ids ids elements was new (Some block) some are changed =
    let changes = changed.0 in
    record {
      block = Some (changes.form, changes.body);
      parts_are = changes.parts_are;
      same_form = ap form_of_block (sym changes.block_was);
      are_elements = subst (λ (p : PacketParts). AreElementsOf p.block (filter_map (renumbered ids) elements)) changes.parts_are changed.1;
    }

-- what goes for its id 0 has no new id either
without-zero : (ids : ℕ → Option ℕ) → ids 0 ≡ None → (elements : List Element) → filter_map (renumbered ids) (without 0 elements) ≡ filter_map (renumbered ids) elements
without-zero ids none [] = refl
without-zero ids none (element ∷ elements) = by_test (has_id 0 element) refl (without-zero ids none elements)
  where
    either : Bool → List Element
    either zero = filter_map (renumbered ids) (cond (not zero) (element ∷ without 0 elements) (without 0 elements))

    by_test : (zero : Bool) → has_id 0 element ≡ zero → filter_map (renumbered ids) (without 0 elements) ≡ filter_map (renumbered ids) elements
        → filter_map (renumbered ids) (without 0 (element ∷ elements)) ≡ filter_map (renumbered ids) (element ∷ elements)
    by_test true is rest =
        let gone : ids element.0 ≡ None = ap ids (eqb-true element.0 0 is) ∙ none in
        ap either is ∙ rest ∙ sym (ap (λ (id : Option ℕ). cons_option (option_map (λ (k : ℕ). (k, element.1)) id) (filter_map (renumbered ids) elements)) gone)
    by_test false is rest = ap either is ∙ ap (cons_option (renumbered ids element)) rest

-- ---- the form that carries them

pub bodies-alike : (a b : Option (ExtensionsForm × List ℕ)) → form_of_block a ≡ form_of_block b → block_len a ≡ block_len b → length (body_of_block a) ≡ length (body_of_block b)
bodies-alike None None same long = refl
bodies-alike None (Some b) same long = absurd cc
bodies-alike (Some a) None same long = absurd cc
bodies-alike (Some a) (Some b) same long = omega (arith, long)

-- the form of the block that elements are put into, and how many bytes its body has
pub data HasStart (allowed : Option ExtensionsForm) (ids : ℕ → Option ℕ) (was : Option (ExtensionsForm × List ℕ)) (elements : List Element) (block : Option (ExtensionsForm × List ℕ)) : Type 0 where
  in_own : CarriesIds ids was elements → form_of_block block ≡ form_of_block was → length (body_of_block block) ≡ length (body_of_block was) → HasStart allowed ids was elements block
  in_two_byte : (CarriesIds ids was elements → ⊥) → allowed ≢ Some OneByte → form_of_block block ≡ Some TwoByte
      → length (body_of_block block) ≡ max (length (body_of_block was)) (whole_words (length (elements_bytes TwoByte (without 0 elements)))) → HasStart allowed ids was elements block

module _ (allowed : Option ExtensionsForm) (ids : ℕ → Option ℕ) (was : Option (ExtensionsForm × List ℕ)) (elements : List Element) (block : Option (ExtensionsForm × List ℕ)) where
  pub start-form : HasStart allowed ids was elements block → IsFormForIds allowed ids was elements (form_of_block block)
  start-form (in_own carried form long) = own_form carried form
  start-form (in_two_byte not_carried is_allowed form long) = two_byte_form not_carried is_allowed form

  pub start-is : (form : Option ExtensionsForm) → HasStart allowed ids was elements block → IsFormForIds allowed ids was elements form → form_of_block block ≡ form
  start-is form (in_own carried here long) (own_form same is) = here ∙ sym is
  start-is form (in_own carried here long) (two_byte_form not_carried is_allowed is) = absurd (not_carried carried)
  start-is form (in_two_byte not_carried is_allowed here long) (own_form carried is) = absurd (not_carried carried)
  start-is form (in_two_byte not_carried is_allowed here long) (two_byte_form same same_allowed is) = here ∙ sym is

  pub start-either : HasStart allowed ids was elements block → (form_of_block block ≡ form_of_block was) ⊎ (form_of_block block ≡ Some TwoByte)
  start-either (in_own carried form long) = inl form
  start-either (in_two_byte not_carried is_allowed form long) = inr form

  starts-alike : (other : Option (ExtensionsForm × List ℕ)) → HasStart allowed ids was elements block → HasStart allowed ids was elements other
      → (form_of_block other ≡ form_of_block block) × (length (body_of_block other) ≡ length (body_of_block block))
  starts-alike other (in_own carried form long) (in_own same other_form other_long) = (other_form ∙ sym form, other_long ∙ sym long)
  starts-alike other (in_own carried form long) (in_two_byte not_carried is_allowed other_form other_long) = absurd (not_carried carried)
  starts-alike other (in_two_byte not_carried is_allowed form long) (in_own carried other_form other_long) = absurd (not_carried carried)
  starts-alike other (in_two_byte not_carried is_allowed form long) (in_two_byte same same_allowed other_form other_long) = (other_form ∙ sym form, other_long ∙ sym long)

-- without a block each id is carried
pub some-form : (ids : ℕ → Option ℕ) (block : Option (ExtensionsForm × List ℕ)) (elements : List Element) → (CarriesIds ids block elements → ⊥) → (form : ExtensionsForm) × (form_of_block block ≡ Some form)
some-form ids None elements not_carried = absurd (not_carried tt)
some-form ids (Some block) elements not_carried = (block.0, refl)

length-row_to : (form : ExtensionsForm) (elements : List Element) (len : ℕ) → length (elements_bytes form elements) ≤ len → length (row_to form elements len) ≡ len
length-row_to form elements len fits =
    let row : List ℕ = elements_bytes form elements in
    omega (arith, fits, length-append row (replicate (len - length row) 0), length-replicate {A = ℕ} (len - length row) 0)

-- ---- the whole

-- the packet that elements are put into
pub record IsStarted (old : List ℕ) (allowed : Option ExtensionsForm) (fields : Fields) (ids : ℕ → Option ℕ) (was : PacketParts) (elements : List Element) (bytes : List ℕ) : Type 0 where
  pub block : Option (ExtensionsForm × List ℕ)
  pub is_packet : IsPacket bytes (record (with_header_fields fields was) { block = block })
  pub has : HasStart allowed ids was.block elements block
  pub are_elements : AreElementsOf block (filter_map (renumbered ids) elements)
  pub word_is : KeepsWord (form_of_block was.block) old (form_of_block block) bytes

body-word : (bytes new : List ℕ) (parts : PacketParts) (block : Option (ExtensionsForm × List ℕ)) → IsPacket bytes parts → IsPacket new (record parts { block = block }) → ChangesOnlyBody bytes new
    → word_bytes new ≡ word_bytes bytes
body-word bytes new parts block is is_new only =
    word_of new (record parts { block = block }) is_new
    ∙ word_before (12 + 4 * length parts.sources) (sources_end bytes + 4) new bytes (omega (arith, sources_end-is bytes parts is)) only.before_is
    ∙ sym (word_of bytes parts is)

module _ (old : List ℕ) (fields : Fields) (ids : ℕ → Option ℕ) (allowed : Option ExtensionsForm) (new : List ℕ) (is : IsSetAndRenumbered old fields ids allowed new) where
  abbrev was : PacketParts
  was = with_header_fields fields is.parts

  set-word : word_bytes is.set_bytes ≡ word_bytes old
  set-word =
      let s : ℕ = 12 + 4 * length is.parts.sources in
      word_of is.set_bytes was is.set_packet
      ∙ ap (take 2) (from_twelve s is.set_bytes (omega arith) ∙ ap (drop (s - 12)) is.set_only.after_is ∙ sym (from_twelve s old (omega arith)))
      ∙ sym (word_of old is.parts is.was_packet)

  started-own : CarriesIds ids was.block is.elements → IsUnderNewIds ids is.elements is.set_bytes was new → IsStarted old allowed fields ids is.parts is.elements new
  started-own carried under =
      let has = new_ids ids is.elements was under.parts is.parts.block refl is.were_elements under.is_renumbered in
      let packet : IsPacket new (record was { block = has.block }) = subst (IsPacket new) has.parts_are under.is_packet in
      let long : block_len has.block ≡ block_len was.block =
      omega (arith, length-packet new (record was { block = has.block }) packet, length-packet is.set_bytes was is.set_packet, under.only_body.length_is) in
      record {
        block = has.block;
        is_packet = packet;
        has = in_own carried has.same_form (bodies-alike has.block was.block has.same_form long);
        are_elements = has.are_elements;
        word_is = record {
          word_is = λ f form_is was_is. body-word is.set_bytes new was has.block is.set_packet packet under.only_body ∙ set-word;
          new_word_is = λ f form_is other. absurd (other (sym has.same_form ∙ form_is));
        };
      }

  started-changed : IsChangedAndRenumbered allowed ids is.elements is.set_bytes was new → IsStarted old allowed fields ids is.parts is.elements new
  started-changed changes =
      let remakes = changes.changed in
      let made = remakes.remade in
      let under = changes.renumbered in
      let bytes : List ℕ = take changes.len changes.buf in
      let p_is : made.parts ≡ was = same_parts is.set_bytes made.parts was made.is_packet is.set_packet in
      let es_is : made.elements ≡ is.elements =
      same_elements is.parts.block made.elements is.elements (subst (λ (p : PacketParts). AreElementsOf p.block made.elements) p_is made.are_elements) is.were_elements in
      let row_is : without 0 made.elements ++ [] ≡ without 0 is.elements = append-nil (without 0 made.elements) ∙ ap (without 0) es_is in
      let now : PacketParts = record was { has_extension = true; block = Some (TwoByte, remakes.body) } in
      let formed : IsPacket bytes now =
      subst (λ (p : PacketParts). IsPacket bytes (record p { has_extension = true; block = Some (TwoByte, remakes.body) })) p_is remakes.is_packet in
      let are : AreElements TwoByte remakes.body (without 0 is.elements) = subst (AreElements TwoByte remakes.body) row_is remakes.are_elements in
      let has = new_ids ids (without 0 is.elements) now under.parts (Some (TwoByte, remakes.body)) refl are under.is_renumbered in
      let packet : IsPacket new (record now { block = has.block }) = subst (IsPacket new) has.parts_are under.is_packet in
      let some = some-form ids was.block is.elements changes.not_carried in
      let extension : was.has_extension ≡ true = extension-announced was.has_extension was.block was.other_block is.set_packet.part some.0 is.set_packet.part_is some.1 in
      let long : block_len has.block ≡ block_len now.block =
      omega (arith, length-packet new (record now { block = has.block }) packet, length-packet bytes now formed, under.only_body.length_is) in
      let row_long : length remakes.body ≡ made.body_len =
      ap length remakes.body_is ∙ length-row_to TwoByte (without 0 made.elements ++ []) made.body_len (omega (arith, made.body_len_is)) in
      record {
        block = has.block;
        is_packet = subst (λ (x : Bool). IsPacket new (record was { has_extension = x; block = has.block })) (sym extension) packet;
        has = in_two_byte changes.not_carried changes.is_allowed has.same_form
            (bodies-alike has.block now.block has.same_form long ∙ row_long ∙ made.body_len_is
            ∙ ap (λ (p : PacketParts). max (length (body_of_block p.block)) (whole_words (length (elements_bytes TwoByte (without 0 made.elements ++ []))))) p_is
            ∙ ap (λ (es : List Element). max (length (body_of_block was.block)) (whole_words (length (elements_bytes TwoByte es)))) row_is);
        are_elements = subst (AreElementsOf has.block) (without-zero ids changes.no_zero is.elements) has.are_elements;
        word_is = subst (λ (f : Option ExtensionsForm). KeepsWord (form_of_block was.block) old f new) (sym has.same_form)
            (KeepsWord-between (form_of_block was.block) (Some TwoByte) old is.set_bytes bytes new set-word
            (KeepsWord-remade is.set_bytes changes.buf changes.len TwoByte was (TwoByte, remakes.body) is.set_packet formed remakes p_is)
            (body-word bytes new now has.block formed packet under.only_body));
      }

  pub started : IsStarted old allowed fields ids is.parts is.elements new
  started = by_form is.renumbered
    where
      by_form : IsRenumberedInForm allowed ids is.elements is.set_bytes was new → IsStarted old allowed fields ids is.parts is.elements new
      by_form (in_own_form carried under) = started-own carried under
      by_form (in_two_byte_form changes) = started-changed changes

pub start-other : (old : List ℕ) (fields : Fields) (ids : ℕ → Option ℕ) (allowed : Option ExtensionsForm) (one other : List ℕ) → IsSetAndRenumbered old fields ids allowed one
    → IsSetAndRenumbered old fields ids allowed other → HasSameElements one other
start-other old fields ids allowed one other p q =
    let first = started old fields ids allowed one p in
    let parts : q.parts ≡ p.parts = same_parts old q.parts p.parts q.was_packet p.was_packet in
    let elements : q.elements ≡ p.elements =
    same_elements p.parts.block q.elements p.elements (subst (λ (s : PacketParts). AreElementsOf s.block q.elements) parts q.were_elements) p.were_elements in
    let second : IsStarted old allowed fields ids p.parts p.elements other =
    subst (λ (es : List Element). IsStarted old allowed fields ids p.parts es other) elements
    (subst (λ (s : PacketParts). IsStarted old allowed fields ids s q.elements other) parts (started old fields ids allowed other q)) in
    let alike = starts-alike allowed ids p.parts.block p.elements first.block second.block first.has second.has in
    record {
      parts = record (with_header_fields fields p.parts) { block = first.block };
      block = second.block;
      elements = filter_map (renumbered ids) p.elements;
      is_packet = first.is_packet;
      other_packet = second.is_packet;
      same_form = alike.0;
      same_length = alike.1;
      are_elements = first.are_elements;
      other_elements = second.are_elements;
    }
