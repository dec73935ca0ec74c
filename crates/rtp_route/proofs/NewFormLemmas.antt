-- A block that gets the two-byte form for its new ids, and why it may not.
use Rattle.std.proofs.Common.{◌≡◌, ◌≢◌, ◌↔◌, ℕ, ◌+◌, ◌≤◌, Bool, true, false, IsTrue, All, List, [], ◌++◌, length, take, drop, max, Option, Some, None, IfSome, refl, sym, ap, subst, ◌∙◌, arith, append-nil}
use Rattle.std.specs.Bool.{OnTrue}
use Rattle.std.proofs.lemmas.Bool.{false≢true}
use Rattle.std.proofs.lemmas.List.{take-append-drop}
use Rattle.rtp_ext.specs.declared.form.ExtensionsForm.{ExtensionsForm}
use Rattle.rtp_ext.specs.declared.form.ExtensionsForm.TheVariants.{OneByte, TwoByte}
use Rattle.rtp_ext.specs.Elements.{Element, IsElement, AreElements, elements_bytes}
use Rattle.rtp_ext.specs.ElementsInPlace.{CanRenumber}
use Rattle.rtp_ext.specs.PutElement.{without}
use Rattle.rtp_ext.specs.WrittenBlock.{whole_words}
use Rattle.rtp_ext.proofs.NewIdLemmas.{All-IsElement}
use Rattle.rtp_wire.specs.declared.packet.not_put.NotPut.{NotPut}
use Rattle.rtp_wire.specs.declared.packet.not_put.NotPut.TheVariants.{CutPacket, ZeroId, LongData, NotAPacket, OtherForm, LongId, OneByteOnly, LongBlock, NoRoom}
use Rattle.rtp_wire.specs.Packet.{PacketParts, IsPacket}
use Rattle.rtp_wire.specs.PacketElements.{AreElementsOf}
use Rattle.rtp_wire.specs.PartsAt.{HasLayout}
use Rattle.rtp_wire.specs.PutIntoPacket.{form_of_block, body_of_block}
use Rattle.rtp_wire.specs.RemadeBlock.{IsRemade, RemakesBlock, KeepsFromForm}
use Rattle.rtp_route.specs.declared.not_routed.NotRouted.{NotRouted}
use Rattle.rtp_route.specs.declared.not_routed.NotRouted.TheVariants.{ManyElements, RepeatedId, LongId as NotRouted-LongId, NotPut as NotRouted-NotPut}
use Rattle.rtp_route.specs.Calls.{IsUnderNewIds, IsChangedAndRenumbered}
use Rattle.rtp_route.specs.NotRouted.{HasLongId, KeepsFromNewIds}
use Rattle.rtp_route.specs.Routing.{CarriesIds}
use Rattle.rtp_route.proofs.StartLemmas.{same_parts, same_elements}

-- the front of a buffer that didn't change
pub kept-front : (buf front : List ℕ) (len : ℕ) → front ≡ take len buf → front ++ drop len buf ≡ buf
kept-front buf front len same = ap (λ (b : List ℕ). b ++ drop len buf) same ∙ take-append-drop len buf

-- ---- new ids of 1 to 255

can-two : (id : Option ℕ) (element : Element) → IfSome id (λ new. (1 ≤ new) × (new ≤ 255)) → IsElement TwoByte element → IfSome id (λ new. IsElement TwoByte (new, element.1))
can-two None element each is = tt
can-two (Some id) element each is = (each.0, each.1, is.2)

-- a header alone has no payload
pub no-payload : (bytes : List ℕ) (form : Option ExtensionsForm) → HasLayout bytes (length bytes) form → (parts : PacketParts) → IsPacket bytes parts → length parts.payload ≡ 0
no-payload bytes form held parts is = omega (arith, held.len_is, ap (λ (p : PacketParts). length p.payload) (same_parts bytes parts held.parts is held.is_packet))

module _ (ids : ℕ → Option ℕ) (each : (id : ℕ) → IfSome (ids id) (λ new. (1 ≤ new) × (new ≤ 255))) where
  -- the two-byte form can carry them
  carried-two : (body : List ℕ) (elements : List Element) → AreElements TwoByte body elements → All (CanRenumber TwoByte ids) elements
  carried-two body elements are k d there = can-two _ _ (each _) (All-IsElement TwoByte body elements are k d there)

  -- so it is the one-byte form that can't
  narrow : (block : Option (ExtensionsForm × List ℕ)) (elements : List Element) → AreElementsOf block elements → (CarriesIds ids block elements → ⊥) → form_of_block block ≡ Some OneByte
  narrow None elements are not_carried = absurd (not_carried tt)
  narrow (Some (OneByte, body)) elements are not_carried = refl
  narrow (Some (TwoByte, body)) elements are not_carried = absurd (not_carried (carried-two body elements are))

  pub narrow-layout : (bytes : List ℕ) (len : ℕ) (form : Option ExtensionsForm) → HasLayout bytes len form → HasLongId bytes ids → HasLayout bytes len (Some OneByte)
  narrow-layout bytes len form held long = record {
    parts = long.parts;
    is_packet = long.is_packet;
    form_is = sym (narrow long.parts.block long.elements long.are_elements long.not_carried);
    len_is = ap (λ (n : ℕ). len + n) (ap (λ (p : PacketParts). length p.payload) (same_parts bytes long.parts held.parts long.is_packet held.is_packet)) ∙ held.len_is;
  }

  -- a block that was made anew in the two-byte form gets them
  module _ (zero : ids 0 ≡ None) (allowed : Option ExtensionsForm) (bytes buf new : List ℕ) (len : ℕ) (parts : PacketParts) (elements : List Element) (is : IsPacket bytes parts)
      (are : AreElementsOf parts.block elements) (not_carried : CarriesIds ids parts.block elements → ⊥) (is_allowed : allowed ≢ Some OneByte) (changed : RemakesBlock bytes TwoByte [] buf len) where
    abbrev parts_now : PacketParts
    parts_now = record parts { has_extension = true; block = Some (TwoByte, changed.body) }

    parts-are : changed.remade.parts ≡ parts
    parts-are = same_parts bytes changed.remade.parts parts changed.remade.is_packet is

    elements-are : changed.remade.elements ≡ elements
    elements-are =
        same_elements parts.block changed.remade.elements elements (subst (λ (p : PacketParts). AreElementsOf p.block changed.remade.elements) parts-are changed.remade.are_elements) are

    is-now : IsPacket (take len buf) parts_now
    is-now = subst (λ (p : PacketParts). IsPacket (take len buf) (record p { has_extension = true; block = Some (TwoByte, changed.body) })) parts-are changed.is_packet

    are-now : AreElements TwoByte changed.body (without 0 elements)
    are-now =
        subst (AreElements TwoByte changed.body) (append-nil (without 0 changed.remade.elements) ∙ ap (without 0) elements-are) changed.are_elements

    pub layout-now : length parts.payload ≡ 0 → HasLayout (take len buf) (length (take len buf)) (Some TwoByte)
    layout-now none = record { parts = parts_now; is_packet = is-now; form_is = refl; len_is = omega (arith, none) }

    pub changed-and-renumbered : (answer : Bool) → ((p : PacketParts) (es : List Element) → IsPacket (take len buf) p → AreElementsOf p.block es → IsTrue answer ↔ CarriesIds ids p.block es)
        → ((p : PacketParts) (es : List Element) → IsPacket (take len buf) p → AreElementsOf p.block es → OnTrue answer (IsUnderNewIds ids es (take len buf) p new))
        → IsChangedAndRenumbered allowed ids elements bytes parts new
    changed-and-renumbered answer answers renumbers = record {
      not_carried = not_carried;
      is_allowed = is_allowed;
      no_zero = zero;
      buf = buf;
      len = len;
      changed = changed;
      renumbered = under answer ((answers parts_now (without 0 elements) is-now are-now).1 (carried-two changed.body (without 0 elements) are-now)) (renumbers parts_now (without 0 elements) is-now are-now);
    }
      where
        under : (b : Bool) → IsTrue b → OnTrue b (IsUnderNewIds ids (without 0 elements) (take len buf) parts_now new) → IsUnderNewIds ids (without 0 elements) (take len buf) parts_now new
        under true holds is = is
        under false holds is = absurd (false≢true holds)

-- ---- the causes of two packets that have one block

-- their blocks are the same, and their sources and payloads as long
pub record HaveOneBlock (p q : PacketParts) : Type 0 where
  pub blocks : q.block ≡ p.block
  pub others : q.other_block ≡ p.other_block
  pub sources : length q.sources ≡ length p.sources
  pub payloads : length q.payload ≡ length p.payload

pub one_block-back : (p q : PacketParts) → HaveOneBlock p q → HaveOneBlock q p
one_block-back p q one = record { blocks = sym one.blocks; others = sym one.others; sources = sym one.sources; payloads = sym one.payloads }

module _ (here there : List ℕ) (p q : PacketParts) (is_p : IsPacket here p) (is_q : IsPacket there q) (one : HaveOneBlock p q) where
  elements-there : (parts : PacketParts) (elements : List Element) → IsPacket here parts → AreElementsOf parts.block elements → AreElementsOf q.block elements
  elements-there parts elements is are =
      subst (λ (b : Option (ExtensionsForm × List ℕ)). AreElementsOf b elements) (ap (λ (s : PacketParts). s.block) (same_parts here parts p is is_p) ∙ sym one.blocks) are

  remade-there : (form : ExtensionsForm) (added : List Element) (m : IsRemade here form added) → (n : IsRemade there form added) × (n.body_len ≡ m.body_len) × (n.len ≡ m.len)
  remade-there form added m =
      let p_is : m.parts ≡ p = same_parts here m.parts p m.is_packet is_p in (
        record {
          parts = q;
          elements = m.elements;
          body_len = m.body_len;
          len = m.len;
          is_packet = is_q;
          no_other = one.others ∙ ap (λ (s : PacketParts). s.other_block) (sym p_is) ∙ m.no_other;
          are_elements = elements-there m.parts m.elements m.is_packet m.are_elements;
          are_carried = m.are_carried;
          body_len_is = m.body_len_is
              ∙ ap (λ (b : Option (ExtensionsForm × List ℕ)). max (length (body_of_block b)) (whole_words (length (elements_bytes form (without 0 m.elements ++ added)))))
              (ap (λ (s : PacketParts). s.block) p_is ∙ sym one.blocks);
          len_is = omega (arith, m.len_is, ap (λ (s : PacketParts). length s.sources) p_is, ap (λ (s : PacketParts). length s.payload) p_is, one.sources, one.payloads);
        },
        refl,
        refl,
      )

  kept-there : (room : ℕ) (was : Option ExtensionsForm) (form : ExtensionsForm) (cause : NotPut) → KeepsFromForm here room was form cause → KeepsFromForm there room was form cause
  kept-there room was form CutPacket fact = fact
  kept-there room was form ZeroId fact = fact
  kept-there room was form LongData fact = fact
  kept-there room was form (NotAPacket cause) fact = fact
  kept-there room was form OtherForm fact = record {
    parts = q;
    is_packet = is_q;
    other = fact.other;
    other_is = one.others ∙ ap (λ (s : PacketParts). s.other_block) (same_parts here p fact.parts is_p fact.is_packet) ∙ fact.other_is;
  }
  kept-there room was form LongId fact = (
    fact.0,
    record {
      parts = q;
      elements = fact.1.elements;
      is_packet = is_q;
      are_elements = elements-there fact.1.parts fact.1.elements fact.1.is_packet fact.1.are_elements;
      long = fact.1.long;
    },
  )
  kept-there room was form OneByteOnly fact = (
    fact.0,
    record {
      parts = q;
      elements = fact.1.elements;
      is_packet = is_q;
      are_elements = elements-there fact.1.parts fact.1.elements fact.1.is_packet fact.1.are_elements;
      uncarried = fact.1.uncarried;
    },
  )
  kept-there room was form LongBlock fact =
      let n = remade-there form [] fact.1.0 in
      (fact.0, (n.0, omega (arith, n.1, fact.1.1)))
  kept-there room was form (NoRoom needed) fact =
      let n = remade-there form [] fact.1.0 in
      (fact.0, (n.0, fact.1.1 ∙ sym n.2, fact.1.2))

  long-there : (ids : ℕ → Option ℕ) → HasLongId here ids → HasLongId there ids
  long-there ids long = record {
    parts = q;
    elements = long.elements;
    is_packet = is_q;
    are_elements = elements-there long.parts long.elements long.is_packet long.are_elements;
    not_carried = λ carried.
        long.not_carried (subst (λ (b : Option (ExtensionsForm × List ℕ)). CarriesIds ids b long.elements)
        (one.blocks ∙ ap (λ (s : PacketParts). s.block) (same_parts here p long.parts is_p long.is_packet)) carried);
  }

pub kept_ids-there : (here there : List ℕ) (p q : PacketParts) → IsPacket here p → IsPacket there q → HaveOneBlock p q → (ids : ℕ → Option ℕ) (allowed : Option ExtensionsForm) (room : ℕ) (cause : NotRouted)
    → KeepsFromNewIds here ids allowed room cause → KeepsFromNewIds there ids allowed room cause
kept_ids-there here there p q is_p is_q one ids allowed room ManyElements kept = kept
kept_ids-there here there p q is_p is_q one ids allowed room RepeatedId kept = kept
kept_ids-there here there p q is_p is_q one ids allowed room NotRouted-LongId kept = (long-there here there p q is_p is_q one ids kept.0, kept.1)
kept_ids-there here there p q is_p is_q one ids allowed room (NotRouted-NotPut cause) kept = record {
  long = long-there here there p q is_p is_q one ids kept.long;
  is_allowed = kept.is_allowed;
  cause_is = record {
    applies = kept-there here there p q is_p is_q one room (Some OneByte) TwoByte cause kept.cause_is.applies;
    none_before = λ earlier before fact.
        kept.cause_is.none_before earlier before (kept-there there here q p is_q is_p (one_block-back p q one) room (Some OneByte) TwoByte earlier fact);
  };
}

-- nothing keeps from new ids that can be carried
pub none-long : (bytes : List ℕ) (ids : ℕ → Option ℕ) (allowed : Option ExtensionsForm) (room : ℕ) → (HasLongId bytes ids → ⊥) → (cause : NotRouted) → KeepsFromNewIds bytes ids allowed room cause → ⊥
none-long bytes ids allowed room none ManyElements kept = kept
none-long bytes ids allowed room none RepeatedId kept = kept
none-long bytes ids allowed room none NotRouted-LongId kept = none kept.0
none-long bytes ids allowed room none (NotRouted-NotPut cause) kept = none kept.long

-- nor where their form is allowed and can be had
pub none-new_ids : (bytes : List ℕ) (ids : ℕ → Option ℕ) (allowed : Option ExtensionsForm) (room : ℕ) → allowed ≢ Some OneByte
    → ((cause : NotPut) → KeepsFromForm bytes room (Some OneByte) TwoByte cause → ⊥) → (cause : NotRouted) → KeepsFromNewIds bytes ids allowed room cause → ⊥
none-new_ids bytes ids allowed room is_allowed none ManyElements kept = kept
none-new_ids bytes ids allowed room is_allowed none RepeatedId kept = kept
none-new_ids bytes ids allowed room is_allowed none NotRouted-LongId kept = is_allowed kept.1
none-new_ids bytes ids allowed room is_allowed none (NotRouted-NotPut cause) kept = none cause kept.cause_is.applies
