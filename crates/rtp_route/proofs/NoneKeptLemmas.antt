-- Where there is room for each step of the calls, none of them is refused.
use Rattle.std.proofs.Common.{◌≡◌, ℕ, ◌+◌, ◌*◌, ◌≤◌, inl, inr, All, List, [], ◌∷◌, ◌++◌, length, max, Option, Some, None, sym, ap, subst, ◌∙◌, arith, append-nil}
use Rattle.std.specs.List.{filter_map, AllByRecursion}
use Rattle.rtp_ext.specs.declared.form.ExtensionsForm.{ExtensionsForm}
use Rattle.rtp_ext.specs.declared.form.ExtensionsForm.TheVariants.{OneByte, TwoByte}
use Rattle.rtp_ext.specs.Elements.{Element, IsElement, AreElements}
use Rattle.rtp_ext.specs.ElementsInPlace.{HasNone, renumbered}
use Rattle.rtp_ext.specs.PutElement.{without}
use Rattle.rtp_ext.specs.ElementsInARow.{IsWritable}
use Rattle.rtp_ext.specs.WrittenBlock.{whole_words}
use Rattle.rtp_ext.proofs.AnewLemmas.{AreElements-each, writable_without}
use Rattle.rtp_ext.proofs.NarrowLemmas.{wide_each}
use Rattle.rtp_wire.specs.declared.packet.fields.Fields.{Fields}
use Rattle.rtp_wire.specs.declared.packet.not_put.NotPut.{NotPut}
use Rattle.rtp_wire.specs.declared.packet.not_put.NotPut.TheVariants.{CutPacket, ZeroId, LongData, NotAPacket, OtherForm, LongId, OneByteOnly, LongBlock, NoRoom}
use Rattle.rtp_wire.specs.GivenFields.{with_header_fields}
use Rattle.rtp_wire.specs.Packet.{PacketParts, IsPacket, block_len}
use Rattle.rtp_wire.specs.PacketElements.{AreElementsOf}
use Rattle.rtp_wire.specs.PutIntoPacket.{form_of_block, body_of_block}
use Rattle.rtp_wire.specs.RemadeBlock.{IsRemade, HasUncarried, KeepsFromForm}
use Rattle.rtp_wire.proofs.PartsLemmas.{length-packet, no_other_form}
use Rattle.rtp_wire.proofs.ResizedLemmas.{no_other-announced}
use Rattle.rtp_route.specs.declared.not_routed.NotRouted.{NotRouted}
use Rattle.rtp_route.specs.declared.not_routed.NotRouted.TheVariants.{ManyElements, RepeatedId, LongId as NotRouted-LongId, NotPut as NotRouted-NotPut}
use Rattle.rtp_route.specs.NotPutAmong.{IsNotPutAmong}
use Rattle.rtp_route.specs.NotRouted.{HasLongId, KeepsFromNewIds, KeepsFromRouting}
use Rattle.rtp_route.specs.Routing.{CarriesIds, IsFormForIds, own_form, two_byte_form, IsFormAfter}
use Rattle.rtp_route.proofs.StartLemmas.{same_parts, same_elements, HasStart, in_own, in_two_byte, start-is, IsStarted, started}
use Rattle.rtp_route.proofs.WideLemmas.{wide, wide-body, wide-renumbered, wide-without}
use Rattle.rtp_route.proofs.RoomLemmas.{HasRoom, none-among}

-- the two-byte form carries what a block has
all-two_byte : (form : ExtensionsForm) (elements : List Element) → AllByRecursion (IsElement form) elements → AllByRecursion (IsWritable TwoByte) (without 0 elements)
all-two_byte OneByte elements each = wide_each (without 0 elements) (writable_without OneByte elements each)
all-two_byte TwoByte elements each = writable_without TwoByte elements each

module _ (old : List ℕ) (parts : PacketParts) (is : IsPacket old parts) (no_payload : length parts.payload ≡ 0) (was : ExtensionsForm) (body : List ℕ) (some : parts.block ≡ Some (was, body))
    (elements : List Element) (are : AreElements was body elements) (fields : Fields) (ids : ℕ → Option ℕ) (news : List Element) (allowed : Option ExtensionsForm) (start : Option ExtensionsForm)
    (start_fits : IsFormForIds allowed ids (Some (was, body)) elements start) (form : ExtensionsForm) (forms : IsFormAfter allowed start news (Some form)) (no_zero : HasNone news 0)
    (short : All (λ (e : Element). length e.1 ≤ 255) news) (room : ℕ) (within : 2 * length old + 3 + wide news ≤ room) (few : 2 * length old + 3 + wide news ≤ 262140) where
  abbrev most : ℕ
  most = 2 * length body + wide news + 3

  are-elements : AreElementsOf parts.block elements
  are-elements = subst (λ (b : Option (ExtensionsForm × List ℕ)). AreElementsOf b elements) (sym some) are

  start-of_block : IsFormForIds allowed ids parts.block elements start
  start-of_block = subst (λ (b : Option (ExtensionsForm × List ℕ)). IsFormForIds allowed ids b elements start) (sym some) start_fits

  no-other : parts.other_block ≡ None
  no-other = no_other-announced parts.has_extension parts.block parts.other_block is.part was is.part_is (ap form_of_block some)

  sizes : length old ≡ 16 + 4 * length parts.sources + length body
  sizes = omega (arith, length-packet old parts is, no_payload, ap block_len some, ap block_len no-other)

  body-is : length (body_of_block parts.block) ≡ length body
  body-is = ap (λ (b : Option (ExtensionsForm × List ℕ)). length (body_of_block b)) some

  -- ---- the two-byte form that it gets

  row-few : whole_words (wide (without 0 elements)) ≤ 2 * length body + 3
  row-few = omega (arith, wide-without 0 elements, wide-body was body elements are)

  start-short : (block : Option (ExtensionsForm × List ℕ)) → HasStart allowed ids parts.block elements block → length (body_of_block block) ≤ most
  start-short block (in_own carried same long) = omega (arith, long, body-is)
  start-short block (in_two_byte not_carried is_allowed same long) = omega (arith, long, body-is, row-few)

  made-short : (m : IsRemade old TwoByte []) → (m.body_len ≤ most) × (m.len ≤ room)
  made-short m =
      let parts_are : m.parts ≡ parts = same_parts old m.parts parts m.is_packet is in
      let elements_are : m.elements ≡ elements =
      same_elements parts.block m.elements elements (subst (λ (p : PacketParts). AreElementsOf p.block m.elements) parts_are m.are_elements) are-elements in
      let row_is : without 0 m.elements ++ [] ≡ without 0 elements = append-nil (without 0 m.elements) ∙ ap (without 0) elements_are in
      let long : m.body_len ≡ max (length body) (whole_words (wide (without 0 elements))) =
      m.body_len_is
      ∙ ap (λ (n : ℕ). max n (whole_words (wide (without 0 m.elements ++ [])))) (ap (λ (p : PacketParts). length (body_of_block p.block)) parts_are ∙ body-is)
      ∙ ap (λ (es : List Element). max (length body) (whole_words (wide es))) row_is in (
        omega (arith, long, row-few),
        omega (
          arith,
          m.len_is,
          long,
          row-few,
          sizes,
          within,
          no_payload,
          ap (λ (p : PacketParts). length p.sources) parts_are,
          ap (λ (p : PacketParts). length p.payload) parts_are,
        ),
      )

  none-long : (m : HasUncarried old TwoByte) → ⊥
  none-long m =
      let parts_are : m.parts ≡ parts = same_parts old m.parts parts m.is_packet is in
      let elements_are : m.elements ≡ elements =
      same_elements parts.block m.elements elements (subst (λ (p : PacketParts). AreElementsOf p.block m.elements) parts_are m.are_elements) are-elements in
      m.uncarried (subst (λ (es : List Element). AllByRecursion (IsWritable TwoByte) (without 0 es)) (sym elements_are) (all-two_byte was elements (AreElements-each was body elements are)))

  -- nothing keeps it from that
  none-form : (cause : NotPut) → KeepsFromForm old room (Some OneByte) TwoByte cause → ⊥
  none-form CutPacket fact = fact
  none-form ZeroId fact = fact
  none-form LongData fact = fact
  none-form (NotAPacket cause) fact = fact
  none-form OtherForm fact = no_other_form old parts is no-other fact
  none-form LongId fact = fact.1.long.4
  none-form OneByteOnly fact = none-long fact.1
  none-form LongBlock fact = omega (arith, few, sizes, (made-short fact.1.0).0, fact.1.1)
  none-form (NoRoom needed) fact = omega (arith, (made-short fact.1.0).1, fact.1.1, fact.1.2)

  -- ---- the elements that are put

  start-room : (bytes : List ℕ) (s : IsStarted old allowed fields ids parts elements bytes)
      → HasRoom room most (record (with_header_fields fields parts) { block = s.block }) (filter_map (renumbered ids) elements) news
  start-room bytes s = record {
    no_other = no-other;
    no_payload = no_payload;
    short_body = start-short s.block s.has;
    short_row = omega (arith, wide-renumbered ids elements, wide-body was body elements are);
    fits = omega (arith, within, sizes);
    few = omega (arith, few, sizes);
  }

  none-put : (bytes : List ℕ) (cause : NotPut) → IsStarted old allowed fields ids parts elements bytes → IsNotPutAmong bytes news allowed room cause → ⊥
  none-put bytes cause s not_put =
      let split : news ≡ not_put.before ++ not_put.element ∷ not_put.after = not_put.in_order in
      let form_was : start ≡ form_of_block s.block = sym (start-is allowed ids parts.block elements s.block start s.has start-of_block) in
      none-among not_put.before not_put.element not_put.after room most allowed bytes not_put.packet (record (with_header_fields fields parts) { block = s.block })
      (filter_map (renumbered ids) elements) (Some form) cause s.is_packet s.are_elements
      (subst (HasRoom room most (record (with_header_fields fields parts) { block = s.block }) (filter_map (renumbered ids) elements)) split (start-room bytes s))
      (subst (λ (es : List Element). HasNone es 0) split no_zero) (subst (All (λ (e : Element). length e.1 ≤ 255)) split short)
      (subst (λ (es : List Element). IsFormAfter allowed (form_of_block s.block) es (Some form)) split
      (subst (λ (f : Option ExtensionsForm). IsFormAfter allowed f news (Some form)) form_was forms))
      not_put.are_put not_put.cause_is.applies

  -- ---- none of the calls is refused

  not-carried : HasLongId old ids → CarriesIds ids parts.block elements → ⊥
  not-carried long carried =
      let parts_are : parts ≡ long.parts = same_parts old parts long.parts is long.is_packet in
      let there : AreElementsOf parts.block long.elements = subst (λ (p : PacketParts). AreElementsOf p.block long.elements) (sym parts_are) long.are_elements in
      let elements_are : elements ≡ long.elements = same_elements parts.block elements long.elements are-elements there in
      long.not_carried (subst (λ (es : List Element). CarriesIds ids long.parts.block es) elements_are (subst (λ (p : PacketParts). CarriesIds ids p.block elements) parts_are carried))

  none-ids : (cause : NotRouted) → KeepsFromNewIds old ids allowed room cause → IsFormForIds allowed ids parts.block elements start → ⊥
  none-ids ManyElements kept fits = kept
  none-ids RepeatedId kept fits = kept
  none-ids NotRouted-LongId kept (own_form carried form_is) = not-carried kept.0 carried
  none-ids NotRouted-LongId kept (two_byte_form long is_allowed form_is) = is_allowed kept.1
  none-ids (NotRouted-NotPut cause) kept (own_form carried form_is) = not-carried kept.long carried
  none-ids (NotRouted-NotPut cause) kept (two_byte_form long is_allowed form_is) = none-form cause kept.cause_is.applies

  pub none-kept : (cause : NotRouted) → KeepsFromRouting old fields ids news allowed room cause → ⊥
  none-kept ManyElements kept = kept
  none-kept RepeatedId kept = kept
  none-kept NotRouted-LongId kept = none-ids NotRouted-LongId kept.1 start-of_block
  none-kept (NotRouted-NotPut cause) (inl none) = omega (arith, within, none.1)
  none-kept (NotRouted-NotPut cause) (inr (inl kept)) = none-ids (NotRouted-NotPut cause) kept.1 start-of_block
  none-kept (NotRouted-NotPut cause) (inr (inr kept)) =
      let set = kept.2 in
      let parts_are : set.parts ≡ parts = same_parts old set.parts parts set.was_packet is in
      let elements_are : set.elements ≡ elements =
      same_elements parts.block set.elements elements (subst (λ (p : PacketParts). AreElementsOf p.block set.elements) parts_are set.were_elements) are-elements in
      none-put kept.0 cause
      (subst (λ (es : List Element). IsStarted old allowed fields ids parts es kept.0) elements_are
      (subst (λ (p : PacketParts). IsStarted old allowed fields ids p set.elements kept.0) parts_are (started old fields ids allowed kept.0 set))) kept.3
