-- What an element that is put into a packet makes of the buffer, and why it may not be put.
use Rattle.std.proofs.Common.{◌≡◌, ℕ, ◌+◌, ◌<◌, ◌≤◌, true, List, [], ◌∷◌, ◌++◌, length, take, drop, max, Option, Some, None, sym, ap, subst, ◌∙◌, arith, length-drop}
use Rattle.std.specs.Prelude.{Result, IfErr}
use Rattle.std.proofs.lemmas.Result.{IfErr-weaker}
use Rattle.std.specs.List.{AllByRecursion}
use Rattle.rtp_wire.specs.PacketElements.{AreElementsOf}
use Rattle.std.proofs.lemmas.List.{take-append-le, drop-append-le}
use Rattle.std.proofs.lemmas.Option.{none-some, same_Some}
use Rattle.rtp_ext.specs.declared.form.ExtensionsForm.{ExtensionsForm}
use Rattle.rtp_ext.specs.Elements.{Element, elements_bytes}
use Rattle.rtp_ext.specs.ElementsInARow.{IsWritable}
use Rattle.rtp_ext.specs.PutElement.{rewritten_elements, without, needed_form, allowed_form}
use Rattle.rtp_ext.specs.WrittenBlock.{whole_words}
use Rattle.rtp_wire.specs.declared.packet.rtp_packet_buf.RtpPacketBuf.{RtpPacketBuf}
use Rattle.rtp_wire.specs.declared.packet.not_put.NotPut.{NotPut}
use Rattle.rtp_wire.specs.declared.packet.not_put.NotPut.TheVariants.{CutPacket, NotAPacket, ZeroId, LongData, OtherForm, LongId, OneByteOnly, LongBlock, NoRoom}
use Rattle.rtp_wire.specs.NotAHeader.{sources_end}
use Rattle.rtp_wire.specs.NotAPacket.{IsFirstBy}
use Rattle.rtp_wire.specs.Packet.{PacketParts, IsPacket}
use Rattle.rtp_wire.specs.PacketBuf.{bytes_of, parts_within}
use Rattle.rtp_wire.specs.PutIntoPacket.{IsGrowth, PutsElement, IsSetInPlace, anew, form_of_block, body_of_block, elements_with, AppliesToPut, put_place}
use Rattle.rtp_wire.specs.RewrittenBlock.{StopsForm, IsRewritten, RewritesBlock, CarriesNot, StopsRewriting}
use Rattle.rtp_wire.proofs.PacketLemmas.{one_packet, no_packet}
use Rattle.rtp_wire.proofs.PacketBufLemmas.{is_packet}
use Rattle.rtp_wire.proofs.ResizedLemmas.{sources_end-is}
use Rattle.rtp_wire.proofs.PutPlanLemmas.{no_long_id, carried-with}
use Rattle.rtp_wire.proofs.RewrittenLemmas.{each-among}
use Rattle.rtp_wire.proofs.PartsLemmas.{no_other_form}

-- ---- causes that come one after the other

-- causes that apply together have the same first one
pub cause-to : {A : Type 0} (P Q : NotPut → Type 0) → ((cause : NotPut) → P cause → Q cause) → ((cause : NotPut) → Q cause → P cause) → (result : Result A NotPut)
    → IfErr result (IsFirstBy put_place P) → IfErr result (IsFirstBy put_place Q)
cause-to {A} P Q to from result fact =
    IfErr-weaker result (IsFirstBy put_place P) (IsFirstBy put_place Q)
    (λ cause first. record { applies = to cause first.applies; none_before = λ earlier before fact. first.none_before earlier before (from earlier fact) }) fact

-- where they stand in the order of looking
form-places : (bytes : List ℕ) (element : Element) (allowed : Option ExtensionsForm) (cause : NotPut) → StopsForm bytes element allowed cause → put_place cause < 7
form-places bytes element allowed OtherForm fact = omega arith
form-places bytes element allowed LongId fact = omega arith
form-places bytes element allowed OneByteOnly fact = omega arith
form-places bytes element allowed cause fact = absurd fact

-- the first of them is the first of more causes, of which no others come before
pub first-form : (bytes found : List ℕ) (element : Element) (allowed : Option ExtensionsForm) (Q : NotPut → Type 0) (cause : NotPut) → found ≡ bytes
    → ((cause : NotPut) → StopsForm bytes element allowed cause → Q cause) → ((cause : NotPut) → put_place cause < 7 → Q cause → StopsForm bytes element allowed cause)
    → IsFirstBy put_place (StopsForm found element allowed) cause → IsFirstBy put_place Q cause
first-form bytes found element allowed Q cause same to from stops =
    let first = subst (λ (b : List ℕ). IsFirstBy put_place (StopsForm b element allowed) cause) same stops in
    let place = form-places bytes element allowed cause first.applies in
    record { applies = to cause first.applies; none_before = λ earlier before fact. first.none_before earlier before (from earlier (omega (arith, before, place)) fact) }

-- ---- why an element isn't put

module _ (packet : RtpPacketBuf) (element : Element) (allowed : Option ExtensionsForm) where
  abbrev bytes : List ℕ
  bytes = bytes_of packet

  abbrev parts : PacketParts
  parts = parts_within packet

  module _ (above : 1 ≤ element.0) (short : length element.1 ≤ 255) where
    -- its block has no form that can carry it
    pub form-to_put : (cause : NotPut) → StopsForm bytes element allowed cause → AppliesToPut packet.buf.now packet.len element allowed cause
    form-to_put OtherForm fact = fact
    form-to_put LongId fact = fact
    form-to_put OneByteOnly fact = fact
    form-to_put cause fact = absurd fact

    pub put-to_form : (cause : NotPut) → put_place cause < 7 → AppliesToPut packet.buf.now packet.len element allowed cause → StopsForm bytes element allowed cause
    put-to_form CutPacket before fact = let within = packet.room in omega (arith, fact)
    put-to_form ZeroId before fact = omega (arith, above, fact)
    put-to_form LongData before fact = omega (arith, short, fact)
    put-to_form (NotAPacket cause) before fact = absurd (no_packet bytes cause parts fact.applies (is_packet packet))
    put-to_form OtherForm before fact = fact
    put-to_form LongId before fact = fact
    put-to_form OneByteOnly before fact = fact
    put-to_form LongBlock before fact = omega arith
    put-to_form (NoRoom needed) before fact = omega arith

    module _ (no_other : parts.other_block ≡ None) (form : ExtensionsForm) (some : allowed_form allowed (needed_form (form_of_block parts.block) element) ≡ Some form) (writable : IsWritable form element) where
      pub form-of : (others : PacketParts) → IsPacket bytes others → allowed_form allowed (needed_form (form_of_block others.block) element) ≡ Some form
      form-of others are =
          ap (λ (p : PacketParts). allowed_form allowed (needed_form (form_of_block p.block) element)) (sym (one_packet bytes others are) ∙ one_packet bytes parts (is_packet packet)) ∙ some

      pub carried : (others : PacketParts) (elements : List Element) → IsPacket bytes others → AreElementsOf others.block elements
          → AllByRecursion (IsWritable form) (rewritten_elements element.0 (element ∷ []) elements)
      carried others elements packet are =
          each-among (IsWritable form) element.0 (element ∷ []) (without 0 elements) (writable, tt) (carried-with others.block elements element allowed form are (form-of others packet))

      -- what the packet becomes is the same
      abbrev pub growth-of : IsRewritten bytes form element.0 (element ∷ []) → IsGrowth bytes element allowed
      growth-of rewritten = record {
        parts = rewritten.parts;
        elements = rewritten.elements;
        form = form;
        body_len = rewritten.body_len;
        len = rewritten.len;
        is_packet = rewritten.is_packet;
        no_other = rewritten.no_other;
        are_elements = rewritten.are_elements;
        form_is = form-of rewritten.parts rewritten.is_packet;
        body_len_is = rewritten.body_len_is;
        len_is = rewritten.len_is;
      }

      abbrev pub of-growth : IsGrowth bytes element allowed → IsRewritten bytes form element.0 (element ∷ [])
      of-growth growth =
          let same : growth.form ≡ form = same_Some _ _ (sym growth.form_is ∙ form-of growth.parts growth.is_packet) in
          record {
            parts = growth.parts;
            elements = growth.elements;
            body_len = growth.body_len;
            len = growth.len;
            is_packet = growth.is_packet;
            no_other = growth.no_other;
            are_elements = growth.are_elements;
            are_carried = carried growth.parts growth.elements growth.is_packet growth.are_elements;
            body_len_is = growth.body_len_is
                ∙ ap (λ (f : ExtensionsForm). max (length (body_of_block growth.parts.block)) (whole_words (length (elements_bytes f (elements_with element growth.elements))))) same;
            len_is = growth.len_is;
          }

      carries-all : CarriesNot bytes form element.0 (element ∷ []) → ⊥
      carries-all has = has.uncarried (carried has.parts has.elements has.is_packet has.are_elements)

      pub rewriting-to_put : (cause : NotPut) → StopsRewriting bytes (length packet.buf.now) form element.0 (element ∷ []) cause → AppliesToPut packet.buf.now packet.len element allowed cause
      rewriting-to_put LongId fact = absurd (carries-all fact.1)
      rewriting-to_put OneByteOnly fact = absurd (carries-all fact)
      rewriting-to_put LongBlock fact = (growth-of fact.0, fact.1)
      rewriting-to_put (NoRoom needed) fact = (growth-of fact.0, fact.1, fact.2)
      rewriting-to_put cause fact = absurd fact

      pub put-to_rewriting : (cause : NotPut) → AppliesToPut packet.buf.now packet.len element allowed cause → StopsRewriting bytes (length packet.buf.now) form element.0 (element ∷ []) cause
      put-to_rewriting OtherForm fact = absurd (no_other_form bytes parts (is_packet packet) no_other fact)
      put-to_rewriting LongId fact = absurd (no_long_id (form_of_block parts.block) allowed element form some fact)
      put-to_rewriting OneByteOnly fact = absurd (none-some form (sym fact.2 ∙ form-of fact.0 fact.1))
      put-to_rewriting LongBlock fact = (of-growth fact.0, fact.1)
      put-to_rewriting (NoRoom needed) fact = (of-growth fact.0, fact.1, fact.2)
      put-to_rewriting cause fact = absurd (put-to_form cause (omega arith) fact)

      -- and so is the packet
      pub PutsElement-rewritten : (new : List ℕ) (new_len : ℕ) → (made : RewritesBlock bytes form element.0 (element ∷ []) new new_len)
          → (IsSetInPlace made.rewritten.parts.block made.rewritten.elements element form → ⊥) → PutsElement bytes element allowed new new_len
      PutsElement-rewritten new new_len made other = record {
        growth = growth-of made.rewritten;
        body = made.body;
        len_is = made.len_is;
        body_is = anew other made.body_is;
        is_packet = made.is_packet;
        are_elements = made.are_elements;
        word_is = made.word_is;
        new_word_is = made.new_word_is;
      }

-- ---- the buffer

-- bytes behind the packet
pub PutsElement-front : (old : List ℕ) (element : Element) (allowed : Option ExtensionsForm) (new rest : List ℕ) (len : ℕ) → len ≡ length new → PutsElement old element allowed new len
    → PutsElement old element allowed (new ++ rest) len
PutsElement-front old element allowed new rest len len-is puts =
    let growth = puts.growth in
    let long : sources_end old + 2 ≤ length new = omega (arith, sources_end-is old growth.parts growth.is_packet, puts.len_is, growth.len_is) in
    record {
      growth = growth;
      body = puts.body;
      len_is = puts.len_is;
      body_is = puts.body_is;
      is_packet = subst (λ (xs : List ℕ). IsPacket xs (record growth.parts { has_extension = true; block = Some (growth.form, puts.body) })) (sym (take-append-le len new rest (omega arith))) puts.is_packet;
      are_elements = puts.are_elements;
      word_is = λ some. take-append-le (sources_end old + 2) new rest long ∙ puts.word_is some;
      new_word_is = λ other.
          ap (take 2) (drop-append-le (sources_end old) new rest (omega (arith, long)))
          ∙ take-append-le 2 (drop (sources_end old) new) rest (omega (arith, long, length-drop (sources_end old) new)) ∙ puts.new_word_is other;
    }
