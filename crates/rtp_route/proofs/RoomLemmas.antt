-- Where there is room for each element that is put, none is refused.
use Rattle.std.proofs.Common.{◌≡◌, ◌≢◌, ℕ, ◌+◌, ◌-◌, ◌*◌, ◌≤◌, Bool, true, false, if◌then◌else◌, All, List, [], ◌∷◌, ◌++◌, length, length-append, take, replicate, Option, Some, None, refl, sym, ap, subst, ◌∙◌, arith}
use Rattle.std.proofs.lemmas.List.{length-replicate}
use Rattle.std.proofs.lemmas.List.Elements.{All-head, All-tail}
use Rattle.std.proofs.lemmas.Option.{same_Some}
use Rattle.rtp_ext.specs.declared.form.ExtensionsForm.{ExtensionsForm}
use Rattle.rtp_ext.specs.declared.form.ExtensionsForm.TheVariants.{OneByte, TwoByte}
use Rattle.rtp_ext.specs.Elements.{Element, elements_bytes, AreElements}
use Rattle.rtp_ext.specs.ElementsInPlace.{HasNone}
use Rattle.rtp_ext.specs.PutElement.{needed_form, allowed_form}
use Rattle.rtp_ext.specs.ElementsInARow.{IsWritable, serves_one_byte}
use Rattle.rtp_ext.proofs.ServingFormLemmas.{IsWritable-one}
use Rattle.rtp_wire.specs.declared.packet.not_put.NotPut.{NotPut}
use Rattle.rtp_wire.specs.declared.packet.not_put.NotPut.TheVariants.{CutPacket, ZeroId, LongData, NotAPacket, OtherForm, LongId, OneByteOnly, LongBlock, NoRoom}
use Rattle.rtp_wire.specs.Packet.{PacketParts, IsPacket}
use Rattle.rtp_wire.specs.PacketElements.{AreElementsOf}
use Rattle.rtp_wire.specs.PutIntoPacket.{form_of_block, body_of_block, elements_with, IsGrowth, IsBodyWith, in_place, anew, PutsElement, IsLongId, AppliesToPut}
use Rattle.rtp_wire.proofs.PacketLemmas.{no_packet}
use Rattle.rtp_wire.proofs.PartsLemmas.{no_other_form}
use Rattle.rtp_route.specs.NotPutAmong.{AppliesInRoom, ArePutInRoom}
use Rattle.rtp_route.specs.Routing.{IsFormAfter}
use Rattle.rtp_route.proofs.StartLemmas.{same_parts, same_elements}
use Rattle.rtp_route.proofs.SameElementsLemmas.{set-length}
use Rattle.rtp_route.proofs.WideLemmas.{wide, wide-more, each-wide, wide-with}

-- ---- the form that an element needs

pub narrow-needed : (block : Option ExtensionsForm) (new : Element) → needed_form block new ≡ OneByte → IsWritable OneByte new
narrow-needed block new narrow = by_block block narrow
  where
    by_serving : (serves : Bool) → serves_one_byte new ≡ serves → (if serves then OneByte else TwoByte) ≡ OneByte → IsWritable OneByte new
    by_serving true is one = IsWritable-one new is
    by_serving false is one = absurd cc

    by_block : (b : Option ExtensionsForm) → needed_form b new ≡ OneByte → IsWritable OneByte new
    by_block None one = by_serving (serves_one_byte new) refl one
    by_block (Some OneByte) one = by_serving (serves_one_byte new) refl one
    by_block (Some TwoByte) one = absurd cc

-- no id is too long for the one form that is allowed
no-long_id : (allowed block : Option ExtensionsForm) (new : Element) (form : ExtensionsForm) → allowed_form allowed (needed_form block new) ≡ Some form → IsLongId allowed new.0 → ⊥
no-long_id None block new form is long = long
no-long_id (Some TwoByte) block new form is long = long
no-long_id (Some OneByte) block new form is long = by_needed (needed_form block new) refl is
  where
    by_needed : (needed : ExtensionsForm) → needed_form block new ≡ needed → allowed_form (Some OneByte) needed ≡ Some form → ⊥
    by_needed OneByte one served =
        let can = narrow-needed block new one in
        omega (arith, can.1.0, long)
    by_needed TwoByte two served = absurd cc

-- ---- room for all steps

-- a packet with these elements, into which these others are put: no body has more than so many bytes
pub record HasRoom (room most : ℕ) (parts : PacketParts) (elements news : List Element) : Type 0 where
  pub no_other : parts.other_block ≡ None
  pub no_payload : length parts.payload ≡ 0
  pub short_body : length (body_of_block parts.block) ≤ most
  pub short_row : wide elements + wide news + 3 ≤ most
  pub fits : 16 + 4 * length parts.sources + most ≤ room
  pub few : most ≤ 262140

module _ (room most : ℕ) (bytes : List ℕ) (parts : PacketParts) (elements : List Element) (new : Element) (news : List Element) (allowed : Option ExtensionsForm)
    (is : IsPacket bytes parts) (are : AreElementsOf parts.block elements) (has : HasRoom room most parts elements (new ∷ news)) where
  row-short : (form : ExtensionsForm) → length (elements_bytes form (elements_with new elements)) + 3 ≤ most
  row-short form = omega (arith, each-wide form (elements_with new elements), wide-with new elements, has.short_row, wide-more new news)

  module _ (g : IsGrowth bytes new allowed) where
    parts-are : g.parts ≡ parts
    parts-are = same_parts bytes g.parts parts g.is_packet is

    elements-are : g.elements ≡ elements
    elements-are = same_elements parts.block g.elements elements (subst (λ (p : PacketParts). AreElementsOf p.block g.elements) parts-are g.are_elements) are

    row-short-here : length (elements_bytes g.form (elements_with new g.elements)) + 3 ≤ most
    row-short-here = subst (λ (es : List Element). length (elements_bytes g.form (elements_with new es)) + 3 ≤ most) (sym elements-are) (row-short g.form)

    body-was : length (body_of_block g.parts.block) ≤ most
    body-was = subst (λ (p : PacketParts). length (body_of_block p.block) ≤ most) (sym parts-are) has.short_body

    growth-short : g.body_len ≤ most
    growth-short = omega (arith, g.body_len_is, row-short-here, body-was)

    growth-fits : g.len ≤ room
    growth-fits =
        omega (arith, g.len_is, growth-short, has.fits, has.no_payload, ap (λ (p : PacketParts). length p.sources) parts-are, ap (λ (p : PacketParts). length p.payload) parts-are)

    body-short : (body : List ℕ) → IsBodyWith g.parts.block g.elements new g.form g.body_len body → length body ≤ most
    body-short body (in_place here set) = omega (arith, body-was, set-length g.form new.0 new.1 (body_of_block g.parts.block) body set)
    body-short body (anew not_here is_row) =
        let row : List ℕ = elements_bytes g.form (elements_with new g.elements) in
        omega (
          arith,
          growth-short,
          row-short-here,
          ap length is_row,
          length-append row (replicate (g.body_len - length row) 0),
          length-replicate {A = ℕ} (g.body_len - length row) 0,
        )

  -- an element that has room isn't refused
  none-applies : (form : ExtensionsForm) (cause : NotPut) → new.0 ≢ 0 → length new.1 ≤ 255 → allowed_form allowed (needed_form (form_of_block parts.block) new) ≡ Some form
      → (buf : List ℕ) (len : ℕ) → length buf ≡ room → len ≤ room → IsPacket (take len buf) parts → ((g : IsGrowth (take len buf) new allowed) → (g.body_len ≤ most) × (g.len ≤ room))
      → AppliesToPut buf len new allowed cause → ⊥
  none-applies form CutPacket some short can buf len long within here grows fact = omega (arith, long, within, fact)
  none-applies form ZeroId some short can buf len long within here grows fact = some fact
  none-applies form LongData some short can buf len long within here grows fact = omega (arith, short, fact)
  none-applies form (NotAPacket cause) some short can buf len long within here grows fact = no_packet (take len buf) cause parts fact.applies here
  none-applies form OtherForm some short can buf len long within here grows fact = no_other_form (take len buf) parts here has.no_other fact
  none-applies form LongId some short can buf len long within here grows fact = no-long_id allowed (form_of_block parts.block) new form can fact
  none-applies form OneByteOnly some short can buf len long within here grows fact =
      let none : Some form ≡ None =
      sym can ∙ ap (λ (p : PacketParts). allowed_form allowed (needed_form (form_of_block p.block) new)) (same_parts (take len buf) parts fact.0 here fact.1) ∙ fact.2 in
      absurd cc
  none-applies form LongBlock some short can buf len long within here grows fact = omega (arith, has.few, (grows fact.0).0, fact.1)
  none-applies form (NoRoom needed) some short can buf len long within here grows fact = omega (arith, (grows fact.0).1, fact.1, fact.2, long)

none-in-room : (room most : ℕ) (bytes : List ℕ) (parts : PacketParts) (elements : List Element) (new : Element) (news : List Element) (allowed : Option ExtensionsForm)
    (is : IsPacket bytes parts) (are : AreElementsOf parts.block elements) (has : HasRoom room most parts elements (new ∷ news))
    (form : ExtensionsForm) (cause : NotPut) → new.0 ≢ 0 → length new.1 ≤ 255 → allowed_form allowed (needed_form (form_of_block parts.block) new) ≡ Some form
    → AppliesInRoom room bytes new allowed cause → ⊥
none-in-room room most bytes parts elements new news allowed is are has form cause some short can fact =
    let here : IsPacket (take fact.1 fact.0) parts = subst (λ (b : List ℕ). IsPacket b parts) (sym fact.4) is in
    none-applies room most bytes parts elements new news allowed is are has form cause some short can fact.0 fact.1 fact.2 fact.3 here
    (λ g. (growth-short room most (take fact.1 fact.0) parts elements new news allowed here are has g, growth-fits room most (take fact.1 fact.0) parts elements new news allowed here are has g))
    fact.5

-- the room once one is put
room-put : (room most : ℕ) (bytes : List ℕ) (parts : PacketParts) (elements : List Element) (new : Element) (news : List Element) (allowed : Option ExtensionsForm) (buf : List ℕ) (len : ℕ)
    (is : IsPacket bytes parts) (are : AreElementsOf parts.block elements) (has : HasRoom room most parts elements (new ∷ news)) (puts : PutsElement bytes new allowed buf len)
    → HasRoom room most (record parts { has_extension = true; block = Some (puts.growth.form, puts.body) }) (elements_with new elements) news
room-put room most bytes parts elements new news allowed buf len is are has puts = record {
  no_other = has.no_other;
  no_payload = has.no_payload;
  short_body = body-short room most bytes parts elements new news allowed is are has puts.growth puts.body puts.body_is;
  short_row = omega (arith, wide-with new elements, has.short_row, wide-more new news);
  fits = has.fits;
  few = has.few;
}

-- of those that are put one after another none is refused
pub none-among : (before : List Element) (element : Element) (after : List Element) (room most : ℕ) (allowed : Option ExtensionsForm) (bytes packet : List ℕ) (parts : PacketParts) (elements : List Element)
    (form : Option ExtensionsForm) (cause : NotPut) → IsPacket bytes parts → AreElementsOf parts.block elements → HasRoom room most parts elements (before ++ element ∷ after)
    → HasNone (before ++ element ∷ after) 0 → All (λ (e : Element). length e.1 ≤ 255) (before ++ element ∷ after)
    → IsFormAfter allowed (form_of_block parts.block) (before ++ element ∷ after) form → ArePutInRoom room bytes before allowed packet → AppliesInRoom room packet element allowed cause → ⊥
none-among [] element after room most allowed bytes packet parts elements form cause is are has ids short forms put fact =
    none-in-room room most bytes parts elements element after allowed is are has forms.0 cause (All-head (λ (e : Element). e.0 ≢ 0) element after ids)
    (All-head (λ (e : Element). length e.1 ≤ 255) element after short) forms.1 (subst (λ (b : List ℕ). AppliesInRoom room b element allowed cause) put fact)
none-among (new ∷ before) element after room most allowed bytes packet parts elements form cause is are has ids short forms put fact =
    let news : List Element = before ++ element ∷ after in
    let puts : PutsElement bytes new allowed put.0 put.1 = put.2 in
    let growth = puts.growth in
    let p_is : growth.parts ≡ parts = same_parts bytes growth.parts parts growth.is_packet is in
    let es_is : growth.elements ≡ elements =
    same_elements parts.block growth.elements elements (subst (λ (p : PacketParts). AreElementsOf p.block growth.elements) p_is growth.are_elements) are in
    let next : PacketParts = record parts { has_extension = true; block = Some (growth.form, puts.body) } in
    let next_is : IsPacket (take put.1 put.0) next =
    subst (λ (p : PacketParts). IsPacket (take put.1 put.0) (record p { has_extension = true; block = Some (growth.form, puts.body) })) p_is puts.is_packet in
    let next_are : AreElementsOf next.block (elements_with new elements) = subst (λ (es : List Element). AreElements growth.form puts.body (elements_with new es)) es_is puts.are_elements in
    let same : forms.0 ≡ growth.form =
    same_Some _ _ (sym forms.1 ∙ ap (λ (p : PacketParts). allowed_form allowed (needed_form (form_of_block p.block) new)) (sym p_is) ∙ growth.form_is) in
    none-among before element after room most allowed (take put.1 put.0) packet next (elements_with new elements) form cause next_is next_are
    (room-put room most bytes parts elements new news allowed put.0 put.1 is are has puts) (All-tail (λ (e : Element). e.0 ≢ 0) new news ids)
    (All-tail (λ (e : Element). length e.1 ≤ 255) new news short) (subst (λ (f : ExtensionsForm). IsFormAfter allowed (Some f) news form) same forms.2) put.4 fact
