-- A packet whose block is rewritten: how long it becomes, and why it may not be.
use Rattle.std.proofs.Common.{◌≡◌, ℕ, zero, suc, ◌+◌, ◌-◌, ◌*◌, ◌%◌, ◌<◌, ◌≤◌, Bool, true, false, cond, List, [], ◌∷◌, length, take, drop, max, Option, Some, None, refl, sym, ap, subst, ◌∙◌, arith}
use Rattle.std.specs.Prelude.{Any, not}
use Rattle.std.proofs.lemmas.Bool.{eqb-true}
use Rattle.std.specs.List.{AllByRecursion}
use Rattle.rtp_ext.specs.declared.form.ExtensionsForm.{ExtensionsForm}
use Rattle.rtp_ext.specs.declared.form.ExtensionsForm.TheVariants.{OneByte, TwoByte}
use Rattle.rtp_ext.specs.Elements.{Element, IsElement, AreElements, elements_bytes}
use Rattle.rtp_ext.specs.ElementsInARow.{IsWritable}
use Rattle.rtp_ext.specs.PutElement.{rewritten_elements, has_id, without, put_among}
use Rattle.rtp_ext.proofs.AnewLemmas.{writable_without, AreElements-each, without-each, among-each}
use Rattle.rtp_ext.proofs.NarrowLemmas.{wide_each}
use Rattle.rtp_ext.specs.WrittenBlock.{whole_words}
use Rattle.rtp_wire.specs.declared.packet.not_put.NotPut.{NotPut}
use Rattle.rtp_wire.specs.declared.packet.not_put.NotPut.TheVariants.{LongId, OneByteOnly, LongBlock, NoRoom}
use Rattle.rtp_wire.specs.declared.packet.rewriting.Plan.{Plan}
use Rattle.rtp_wire.specs.NotAPacket.{IsFirstBy}
use Rattle.rtp_wire.specs.Packet.{PacketParts, header_len_of, block_len}
use Rattle.rtp_wire.specs.PacketElements.{AreElementsOf}
use Rattle.rtp_wire.specs.PutIntoPacket.{body_of_block, put_place, IsLongId}
use Rattle.rtp_wire.specs.RemadeBlock.{HasLongIds, HasUncarried}
use Rattle.rtp_wire.specs.RewrittenBlock.{IsRewritten, CarriesNot, StopsRewriting, IsPlan}
use Rattle.rtp_wire.proofs.PacketLemmas.{one_packet}
use Rattle.rtp_wire.proofs.HeaderLemmas.{one_list}
use Rattle.rtp_wire.proofs.PutPlanLemmas.{whole-words, block-elements}
use Rattle.rtp_wire.proofs.ResizedLemmas.{sources_end-is, len-is, whole-announced}
use Rattle.rtp_wire.proofs.SetInPlaceLemmas.{body-before}
use Rattle.rtp_wire.proofs.PartsLemmas.{length-packet}

-- ---- what comes among the elements

-- what holds of each element and of each that comes holds of each then
pub each-among : (P : Element → Type 0) (goes : ℕ) (comes elements : List Element) → AllByRecursion P comes → AllByRecursion P elements → AllByRecursion P (put_among goes comes elements)
each-among P goes comes elements all each = among-each P goes comes elements (without-each P goes elements each) all

-- ---- a packet becomes one thing

pub same-rewritten : (bytes : List ℕ) (form : ExtensionsForm) (goes : ℕ) (comes : List Element) (g h : IsRewritten bytes form goes comes) → (g.body_len ≡ h.body_len) × (g.len ≡ h.len)
same-rewritten bytes form goes comes g h =
    let parts : g.parts ≡ h.parts = sym (one_packet bytes g.parts g.is_packet) ∙ one_packet bytes h.parts h.is_packet in
    let elements : g.elements ≡ h.elements =
    one_list h.parts.block g.elements h.elements (subst (λ (p : PacketParts). AreElementsOf p.block g.elements) parts g.are_elements) h.are_elements in
    let size : g.body_len ≡ h.body_len =
    g.body_len_is
    ∙ ap (λ (p : PacketParts). max (length (body_of_block p.block)) (whole_words (length (elements_bytes form (rewritten_elements goes comes g.elements))))) parts
    ∙ ap (λ (es : List Element). max (length (body_of_block h.parts.block)) (whole_words (length (elements_bytes form (rewritten_elements goes comes es))))) elements
    ∙ sym h.body_len_is in
    let sources : length g.parts.sources ≡ length h.parts.sources = ap (λ (p : PacketParts). length p.sources) parts in
    let payload : length g.parts.payload ≡ length h.parts.payload = ap (λ (p : PacketParts). length p.payload) parts in
    (size, omega (arith, g.len_is, h.len_is, size, sources, payload))

-- ---- elements whose ids the form can't carry

long-not_zero : (form : ExtensionsForm) (id : ℕ) → IsLongId (Some form) id → id ≡ 0 → ⊥
long-not_zero OneByte id long same = omega (arith, long, same)
long-not_zero TwoByte id long same = long

long-not_written : (form : ExtensionsForm) (element : Element) → IsLongId (Some form) element.0 → IsWritable form element → ⊥
long-not_written OneByte element long writable = omega (arith, writable.1.0, long)
long-not_written TwoByte element long writable = long

-- they aren't among those of the id 0, and so it can't carry all others
long-not_carried : (form : ExtensionsForm) (elements : List Element) → Any (λ element. IsLongId (Some form) element.0) elements → AllByRecursion (IsWritable form) (without 0 elements) → ⊥
long-not_carried form [] (k, x, within, is, long) carried = omega (arith, within)
long-not_carried form (element ∷ elements) (zero, x, within, is, long) carried = by_test (has_id 0 element) refl carried
  where
    here : IsLongId (Some form) element.0
    here = subst (λ (e : Element). IsLongId (Some form) e.0) (sym is) long

    by_test : (b : Bool) → has_id 0 element ≡ b → AllByRecursion (IsWritable form) (cond (not b) (element ∷ without 0 elements) (without 0 elements)) → ⊥
    by_test true same all = long-not_zero form element.0 here (eqb-true element.0 0 same)
    by_test false other all = long-not_written form element here all.0
long-not_carried form (element ∷ elements) (suc k, x, within, is, long) carried = long-not_carried form elements (k, x, omega arith, is, long) (by_test (has_id 0 element) carried)
  where
    by_test : (b : Bool) → AllByRecursion (IsWritable form) (cond (not b) (element ∷ without 0 elements) (without 0 elements)) → AllByRecursion (IsWritable form) (without 0 elements)
    by_test true all = all
    by_test false all = all.1

-- the two-byte form carries each element, so a long id is none only in the one-byte form
all-two_byte : (form : ExtensionsForm) (elements : List Element) → AllByRecursion (IsElement form) elements → AllByRecursion (IsWritable TwoByte) (without 0 elements)
all-two_byte OneByte elements each = wide_each (without 0 elements) (writable_without OneByte elements each)
all-two_byte TwoByte elements each = writable_without TwoByte elements each

long-in_form : (was form : ExtensionsForm) (elements : List Element) → AllByRecursion (IsElement was) elements → (AllByRecursion (IsWritable form) (without 0 elements) → ⊥)
    → Any (λ element. 14 < element.0) elements → Any (λ element. IsLongId (Some form) element.0) elements
long-in_form was OneByte elements each uncarried long = long
long-in_form was TwoByte elements each uncarried long = absurd (uncarried (all-two_byte was elements each))

long-of_form : (form : ExtensionsForm) (elements : List Element) → Any (λ element. IsLongId (Some form) element.0) elements → Any (λ element. 14 < element.0) elements
long-of_form OneByte elements long = long
long-of_form TwoByte elements long = absurd long.4

pub long-uncarried : (bytes : List ℕ) (form : ExtensionsForm) → HasLongIds bytes form → HasUncarried bytes form
long-uncarried bytes form has = record {
  parts = has.parts;
  elements = has.elements;
  is_packet = has.is_packet;
  are_elements = has.are_elements;
  uncarried = long-not_carried form has.elements has.long;
}

module _ (bytes : List ℕ) (form : ExtensionsForm) (goes : ℕ) (comes : List Element) (rewritten : IsRewritten bytes form goes comes) where
  abbrev words : ℕ
  words = whole_words (length (elements_bytes form (rewritten_elements goes comes rewritten.elements)))

  pub rewritten-fit : length (elements_bytes form (rewritten_elements goes comes rewritten.elements)) ≤ rewritten.body_len
  rewritten-fit =
      let w = whole-words (length (elements_bytes form (rewritten_elements goes comes rewritten.elements))) in
      omega (arith, rewritten.body_len_is, w.1)

  pub rewritten-fits : length (body_of_block rewritten.parts.block) ≤ rewritten.body_len
  rewritten-fits = let is : rewritten.body_len ≡ max (length (body_of_block rewritten.parts.block)) words = rewritten.body_len_is in omega (arith, is)

  pub rewritten-whole : rewritten.body_len % 4 ≡ 0
  rewritten-whole =
      let is : rewritten.body_len ≡ max (length (body_of_block rewritten.parts.block)) words = rewritten.body_len_is in
      let here : words % 4 ≡ 0 = (whole-words (length (elements_bytes form (rewritten_elements goes comes rewritten.elements)))).0 in
      let parts = rewritten.parts in
      let was : length (body_of_block parts.block) % 4 ≡ 0 = whole-announced parts.has_extension parts.block parts.other_block rewritten.is_packet.part rewritten.is_packet.part_is in
      omega (arith, is, here, was)

  -- an element that the form can't carry is none of these
  none-uncarried : CarriesNot bytes form goes comes → ⊥
  none-uncarried has =
      let parts : rewritten.parts ≡ has.parts = sym (one_packet bytes rewritten.parts rewritten.is_packet) ∙ one_packet bytes has.parts has.is_packet in
      let elements : rewritten.elements ≡ has.elements =
      one_list has.parts.block rewritten.elements has.elements (subst (λ (p : PacketParts). AreElementsOf p.block rewritten.elements) parts rewritten.are_elements) has.are_elements in
      has.uncarried (subst (λ (es : List Element). AllByRecursion (IsWritable form) (rewritten_elements goes comes es)) elements rewritten.are_carried)

  none_before_long : (room : ℕ) (cause : NotPut) → put_place cause < 7 → StopsRewriting bytes room form goes comes cause → ⊥
  none_before_long room LongId before fact = none-uncarried fact.1
  none_before_long room OneByteOnly before fact = none-uncarried fact
  none_before_long room LongBlock before fact = omega arith
  none_before_long room (NoRoom needed) before fact = omega arith
  none_before_long room cause before fact = fact

  pub first-long : (room : ℕ) → 4 * 65535 < rewritten.body_len → IsFirstBy put_place (StopsRewriting bytes room form goes comes) LongBlock
  first-long room long = record { applies = (rewritten, long); none_before = none_before_long room }

  module _ (few : rewritten.body_len ≤ 4 * 65535) where
    none_before_room : (room : ℕ) (cause : NotPut) → put_place cause < 8 → StopsRewriting bytes room form goes comes cause → ⊥
    none_before_room room LongBlock before fact = let same = same-rewritten bytes form goes comes rewritten fact.0 in omega (arith, same.0, fact.1)
    none_before_room room (NoRoom needed) before fact = omega arith
    none_before_room room cause before fact = none_before_long room cause (omega arith) fact

    pub first-no_room : (room needed : ℕ) → needed ≡ rewritten.len → room < needed → IsFirstBy put_place (StopsRewriting bytes room form goes comes) (NoRoom needed)
    first-no_room room needed needed-is short = record { applies = (rewritten, needed-is, short); none_before = none_before_room room }

    pub none_at_all : (room : ℕ) → rewritten.len ≤ room → (cause : NotPut) → StopsRewriting bytes room form goes comes cause → ⊥
    none_at_all room fits (NoRoom needed) fact = let same = same-rewritten bytes form goes comes rewritten fact.0 in omega (arith, same.1, fact.1, fact.2)
    none_at_all room fits cause fact = none_before_room room cause (omega arith) fact

-- ---- what is found

-- the elements that are surveyed are those of the body where it lies
pub surveyed : (bytes : List ℕ) (parts : PacketParts) (goes : ℕ) (plan : Plan) (is : IsPlan bytes parts goes plan)
    → AreElements plan.form (take (plan.payload_at - (plan.payload_at - plan.body_len)) (drop (plan.payload_at - plan.body_len) bytes)) is.survey_is.elements
surveyed bytes parts goes plan is =
    subst (λ (b : List ℕ). AreElements plan.form b is.survey_is.elements)
    (sym (body-before bytes parts is.is_packet parts.block plan.payload_at plan.body_len refl is.payload_is is.body_is)) is.survey_is.are_elements

module _ (bytes : List ℕ) (parts : PacketParts) (goes : ℕ) (plan : Plan) (is : IsPlan bytes parts goes plan) (comes : List Element) (writable : AllByRecursion (IsWritable plan.new_form) comes) where
  abbrev elements : List Element
  elements = is.survey_is.elements

  pub are-in_packet : AreElementsOf parts.block elements
  are-in_packet = block-elements parts.block elements plan.new_form plan.form is.was_form is.survey_is.are_elements

  abbrev pub new-rewritten : AllByRecursion (IsWritable plan.new_form) (rewritten_elements goes comes elements) → IsRewritten bytes plan.new_form goes comes
  new-rewritten carried =
      let body_len : ℕ = max (length (body_of_block parts.block)) (whole_words (length (elements_bytes plan.new_form (rewritten_elements goes comes elements)))) in
      record {
        parts = parts;
        elements = elements;
        body_len = body_len;
        len = 12 + 4 * length parts.sources + (4 + body_len) + length parts.payload;
        is_packet = is.is_packet;
        no_other = is.no_other;
        are_elements = are-in_packet;
        are_carried = carried;
        body_len_is = refl;
        len_is = refl;
      }

  -- how many bytes the body gets, as it is reckoned
  pub body_len-reckoned : (carried : AllByRecursion (IsWritable plan.new_form) (rewritten_elements goes comes elements)) (count words len : ℕ)
      → count ≡ length (elements_bytes plan.new_form (rewritten_elements goes comes elements)) → words ≡ whole_words count → len ≡ max words plan.body_len → len ≡ (new-rewritten carried).body_len
  body_len-reckoned carried count words len count-is words-is len-is =
      let all : words ≡ whole_words (length (elements_bytes plan.new_form (rewritten_elements goes comes elements))) = words-is ∙ ap whole_words count-is in
      omega (arith, len-is, all, is.body_is)

  module _ (uncarried : AllByRecursion (IsWritable plan.new_form) (rewritten_elements goes comes elements) → ⊥) where
    carries-not : CarriesNot bytes plan.new_form goes comes
    carries-not = record { parts = parts; elements = elements; is_packet = is.is_packet; are_elements = are-in_packet; uncarried = uncarried }

    has-long_ids : Any (λ element. 14 < element.0) elements → HasLongIds bytes plan.new_form
    has-long_ids long = record {
      parts = parts;
      elements = elements;
      is_packet = is.is_packet;
      are_elements = are-in_packet;
      long = long-in_form plan.form plan.new_form elements (AreElements-each plan.form (body_of_block parts.block) elements is.survey_is.are_elements)
          (λ all. uncarried (each-among (IsWritable plan.new_form) goes comes (without 0 elements) writable all)) long;
    }

    -- where none has a long id, none of the packet has one that the form can't carry
    no_long_ids : (Any (λ element. 14 < element.0) elements → ⊥) → HasLongIds bytes plan.new_form → ⊥
    no_long_ids none has =
        let one : parts ≡ has.parts = sym (one_packet bytes parts is.is_packet) ∙ one_packet bytes has.parts has.is_packet in
        let same : elements ≡ has.elements =
        one_list has.parts.block elements has.elements (subst (λ (p : PacketParts). AreElementsOf p.block elements) one are-in_packet) has.are_elements in
        none (long-of_form plan.new_form elements (subst (λ (es : List Element). Any (λ element. IsLongId (Some plan.new_form) element.0) es) (sym same) has.long))

    none_before_ids : (room : ℕ) (cause : NotPut) → put_place cause < 5 → StopsRewriting bytes room plan.new_form goes comes cause → ⊥
    none_before_ids room LongId before fact = omega arith
    none_before_ids room OneByteOnly before fact = omega arith
    none_before_ids room LongBlock before fact = omega arith
    none_before_ids room (NoRoom needed) before fact = omega arith
    none_before_ids room cause before fact = fact

    none_before_uncarried : (HasLongIds bytes plan.new_form → ⊥) → (room : ℕ) (cause : NotPut) → put_place cause < 6 → StopsRewriting bytes room plan.new_form goes comes cause → ⊥
    none_before_uncarried short room LongId before fact = short fact.0
    none_before_uncarried short room cause before fact = none_before_ids room cause (omega arith) fact

    pub first-long_id : (room : ℕ) → Any (λ element. 14 < element.0) elements → IsFirstBy put_place (StopsRewriting bytes room plan.new_form goes comes) LongId
    first-long_id room long = record { applies = (has-long_ids long, carries-not); none_before = none_before_ids room }

    pub first-uncarried : (room : ℕ) → (Any (λ element. 14 < element.0) elements → ⊥) → IsFirstBy put_place (StopsRewriting bytes room plan.new_form goes comes) OneByteOnly
    first-uncarried room none = record { applies = carries-not; none_before = none_before_uncarried (no_long_ids none) room }

-- a block takes no more than its body and the word of its form and its length
block_len-within : (block : Option (ExtensionsForm × List ℕ)) → block_len block ≤ 4 + length (body_of_block block)
block_len-within None = omega arith
block_len-within (Some block) = omega arith

-- the new length, as it is reckoned, and the packet becomes no shorter
pub rewritten-len : (buf : List ℕ) (len : ℕ) (parts : PacketParts) (goes : ℕ) (plan : Plan) (is : IsPlan (take len buf) parts goes plan) (form : ExtensionsForm) (comes : List Element)
    (rewritten : IsRewritten (take len buf) form goes comes) (body_len : ℕ) → len ≤ length buf → body_len ≡ rewritten.body_len
    → (plan.payload_at ≤ len) × (plan.block_at + 4 + body_len + (len - plan.payload_at) ≡ rewritten.len) × (len ≤ rewritten.len)
rewritten-len buf len parts goes plan is form comes rewritten body_len within body_len-is =
    let all = len-is buf len rewritten.parts rewritten.is_packet within in
    let start = sources_end-is (take len buf) rewritten.parts rewritten.is_packet in
    let same : parts ≡ rewritten.parts = sym (one_packet (take len buf) parts is.is_packet) ∙ one_packet (take len buf) rewritten.parts rewritten.is_packet in
    let payload : plan.payload_at ≡ header_len_of rewritten.parts = is.payload_is ∙ ap header_len_of same in
    let none : block_len rewritten.parts.other_block ≡ 0 = ap (λ (other : Option (ℕ × List ℕ)). block_len other) rewritten.no_other in (
      omega (arith, all, payload),
      omega (arith, all, start, payload, is.block_is, body_len-is, rewritten.len_is),
      omega (arith, all, rewritten.len_is, rewritten-fits (take len buf) form goes comes rewritten, block_len-within rewritten.parts.block, none),
    )

-- a packet that stays as long has a body that is no longer
pub short-kept : (bytes : List ℕ) (goes : ℕ) (plan : Plan) (form : ExtensionsForm) (comes : List Element) (rewritten : IsRewritten bytes form goes comes) → IsPlan bytes rewritten.parts goes plan
    → rewritten.len ≡ length bytes → rewritten.body_len ≤ 262140
short-kept bytes goes plan form comes rewritten is as_long =
    let none : block_len rewritten.parts.other_block ≡ 0 = ap (λ (other : Option (ℕ × List ℕ)). block_len other) rewritten.no_other in
    omega (arith, as_long, rewritten.len_is, length-packet bytes rewritten.parts rewritten.is_packet, block_len-within rewritten.parts.block, is.body_is, is.few, none)
