-- A header that is made once, and what other fields and data make of it.
use Rattle.std.proofs.Common.{◌≡◌, ℕ, ◌+◌, ◌-◌, ◌*◌, Bool, ◌&&◌, nat_le, cond, List, [], ◌∷◌, ◌++◌, length, take, drop, map, Option, Some, None, IsSome, refl, sym, ap, subst, ◌∙◌, arith, All, ◌≤◌, take_at, length-take}
use Rattle.std.specs.List.{AllByRecursion, filter_map}
use Rattle.std.proofs.lemmas.List.{length-map, take_all}
use Rattle.std.proofs.lemmas.Option.{none-some}
use Rattle.std.specs.Borrow.{Bor}
use Rattle.rtp_base.specs.Overwriting.{overwritten}
use Rattle.rtp_ext.specs.declared.form.ExtensionsForm.{ExtensionsForm}
use Rattle.rtp_ext.specs.declared.form.ExtensionsForm.TheVariants.{OneByte, TwoByte}
use Rattle.rtp_ext.specs.Elements.{Element, IsElement, elements_bytes, AreElements}
use Rattle.rtp_ext.specs.ElementsInPlace.{HasNone, renumbered}
use Rattle.rtp_ext.specs.PutElement.{without, needed_form, allowed_form}
use Rattle.rtp_ext.specs.WrittenBlock.{filled}
use Rattle.rtp_ext.proofs.NewIdLemmas.{All-IsElement}
use Rattle.rtp_wire.specs.declared.packet.fields.Fields.{Fields}
use Rattle.rtp_wire.specs.ChangedPacket.{ChangesOnly}
use Rattle.rtp_wire.specs.Packet.{PacketParts, IsPacket, header_len_of}
use Rattle.rtp_wire.specs.PacketElements.{AreElementsOf}
use Rattle.rtp_route.specs.declared.slots.Slot.{Slot}
use Rattle.rtp_route.specs.Calls.{IsRoutedByCalls, no_fields, header_in}
use Rattle.rtp_route.specs.Routing.{put_all, IsFormAfter, extension_after, row_in, routed_elements, routed_parts, word_bytes, IsRouted}
use Rattle.rtp_wire.specs.declared.packet.rtp_packet.RtpPacket.{RtpPacket}
use Rattle.rtp_wire.specs.PartsOf.{parts_of, datagram_of}
use Rattle.rtp_wire.proofs.PacketLemmas.{one_packet}
use Rattle.rtp_wire.proofs.PartsLemmas.{length-packet, IsPacket-found}
use Rattle.rtp_route.specs.declared.template.HeaderTemplate.{HeaderTemplate}
use Rattle.rtp_route.specs.Template.{with_data, HaveOwnIds, HasOnly, HasRow, data_lengths, slot_lengths, filled_in, AreSlots, LiesInHeader, body_start_of}
use Rattle.rtp_route.specs.GroupHeader.{IsGroupHeader, IsFilledIn}
use Rattle.rtp_route.specs.TemplateOf.{header_of, slots_in, lengths_of, IsTemplate}
use Rattle.rtp_route.proofs.ByCallsLemmas.{front-put}
use Rattle.rtp_route.proofs.BodyLemmas.{has-body}
use Rattle.rtp_route.proofs.RoutingLemmas.{routed-of}
use Rattle.rtp_route.proofs.OnlyLemmas.{elements-by_turns, filled-elements, only-put_all}
use Rattle.rtp_route.proofs.WordLemmas.{word_of, word_in_front, from_twelve}
use Rattle.rtp_route.proofs.SetDataLemmas.{all_set, sets, put_all-data, element-alike, middle, elements-set}
use Rattle.rtp_route.proofs.SlotLemmas.{slots-stay, write-slots, filled-sets_length, slots-lengths}

-- ---- elements with other data of the same length

needed-alike : (block : Option ExtensionsForm) (id : ℕ) (bytes was : List ℕ) → length bytes ≡ length was → needed_form block (id, bytes) ≡ needed_form block (id, was)
needed-alike None id bytes was same = ap (λ (k : ℕ). cond ((nat_le 1 id && nat_le id 14) && (nat_le 1 k && nat_le k 16)) OneByte TwoByte) same
needed-alike (Some OneByte) id bytes was same = ap (λ (k : ℕ). cond ((nat_le 1 id && nat_le id 14) && (nat_le 1 k && nat_le k 16)) OneByte TwoByte) same
needed-alike (Some TwoByte) id bytes was same = refl

form-alike : (allowed block : Option ExtensionsForm) (news : List Element) (contents : List (List ℕ)) (form : Option ExtensionsForm) → map length contents ≡ data_lengths news
    → IsFormAfter allowed block news form → IsFormAfter allowed block (with_data news contents) form
form-alike allowed block [] contents form same is = is
form-alike allowed block (new ∷ news) [] form same is = absurd cc
form-alike allowed block (new ∷ news) (bytes ∷ contents) form same is =
    let here : length bytes ≡ length new.1 = cc in
    let rest : map length contents ≡ data_lengths news = cc in
    (is.0, ap (allowed_form allowed) (needed-alike block new.0 bytes new.1 here) ∙ is.1, form-alike allowed (Some is.0) news contents form rest is.2)

extension-alike : (news : List Element) (contents : List (List ℕ)) (extension : Bool) → map length contents ≡ data_lengths news → extension_after (with_data news contents) extension ≡ extension_after news extension
extension-alike [] contents extension same = refl
extension-alike (new ∷ news) [] extension same = absurd cc
extension-alike (new ∷ news) (bytes ∷ contents) extension same = refl

-- what is put leaves a form
form-some : (allowed block : Option ExtensionsForm) (new : Element) (news : List Element) → IsFormAfter allowed block (new ∷ news) None → ⊥
form-some allowed block new [] is = let no : None ≡ Some is.0 = is.2 in absurd cc
form-some allowed block new (other ∷ news) is = form-some allowed (Some is.0) other news is.2

no_news : (allowed block : Option ExtensionsForm) (news : List Element) → IsFormAfter allowed block news None → news ≡ []
no_news allowed block [] is = refl
no_news allowed block (new ∷ news) is = absurd (form-some allowed block new news is)

-- ---- elements of which the form can carry each

elements-sets : (form : ExtensionsForm) (start : ℕ) (elements news : List Element) (slots : List Slot) (contents : List (List ℕ)) → AreSlots form start elements news slots → HaveOwnIds news
    → map length contents ≡ data_lengths news → AllByRecursion (IsElement form) elements → AllByRecursion (IsElement form) (sets news contents elements)
elements-sets form start elements [] slots contents are own same all = all
elements-sets form start elements (new ∷ news) slots [] are own same all = all
elements-sets form start elements (new ∷ news) [] (bytes ∷ contents) are own same all = absurd are
elements-sets form start elements (new ∷ news) (slot ∷ slots) (bytes ∷ contents) are own same all =
    let here : length bytes ≡ length new.1 = cc in
    let rest : map length contents ≡ data_lengths news = cc in
    let is : IsElement form new = middle (IsElement form) are.0.before new are.0.after (subst (AllByRecursion (IsElement form)) are.0.in_order all) in
    elements-sets form start (all_set new.0 bytes elements) news slots contents (slots-stay form start elements new slot bytes news slots are.0 here own.0 are.1) own.1 rest
    (elements-set form new.0 bytes elements (element-alike form new.0 bytes new.1 here is) all)

-- ---- the header with fields and data of a receiver

-- the word of the form stays where the fixed part changes
word-set : (old new : List ℕ) (was parts : PacketParts) → IsPacket old was → IsPacket new parts → length parts.sources ≡ length was.sources → ChangesOnly 1 12 old new → word_bytes new ≡ word_bytes old
word-set old new was parts old_is new_is same only =
    let s : ℕ = 12 + 4 * length was.sources in
    word_of new parts new_is
    ∙ ap (λ (k : ℕ). take 2 (drop (12 + 4 * k) new)) same
    ∙ ap (take 2) (from_twelve s new (omega arith) ∙ ap (drop (s - 12)) only.after_is ∙ sym (from_twelve s old (omega arith)))
    ∙ sym (word_of old was old_is)

-- the parts of the header with the fields set
abbrev set_parts : Fields → (ℕ → Option ℕ) → List Element → Option ExtensionsForm → List Element → PacketParts → PacketParts
set_parts fields ids news form elements parts = record (routed_parts fields ids news form elements parts) { payload = [] }

filled-with : (old : List ℕ) (ids : ℕ → Option ℕ) (news : List Element) (allowed : Option ExtensionsForm) (header : List ℕ) (slots : List Slot) (fields : Fields) (contents : List (List ℕ)) (set : List ℕ)
    (is : IsGroupHeader old ids news allowed header slots) (form : Option ExtensionsForm) → is.routed.form ≡ form → map length contents ≡ data_lengths news
    → IsPacket set (set_parts fields ids news is.routed.form is.routed.elements is.routed.parts) → ChangesOnly 1 12 header set
    → IsRouted old fields ids (with_data news contents) allowed (filled_in slots contents set)
filled-with old ids [] allowed header [] fields contents set is None none same packet only = record {
  parts = is.routed.parts;
  elements = is.routed.elements;
  start = is.routed.start;
  form = is.routed.form;
  was_packet = is.routed.was_packet;
  were_elements = is.routed.were_elements;
  start_is = is.routed.start_is;
  form_is = is.routed.form_is;
  is_packet = packet;
  are_elements = is.routed.are_elements;
  word_is = record {
    word_is = λ f is_form. absurd (none-some f (sym none ∙ is_form));
    new_word_is = λ f is_form. absurd (none-some f (sym none ∙ is_form));
  };
}
filled-with old ids [] allowed header (slot ∷ slots) fields contents set is None none same packet only = let no = is.lengths_are in absurd cc
filled-with old ids (new ∷ news) allowed header slots fields contents set is None none same packet only =
    absurd (form-some allowed is.routed.start new news (subst (IsFormAfter allowed is.routed.start (new ∷ news)) none is.routed.form_is))
filled-with old ids news allowed header slots fields contents set is (Some form) some same packet only =
    let routed = is.routed in
    let parts = routed.parts in
    let es : List Element = without 0 (filter_map (renumbered ids) routed.elements) in
    let xs : List Element = put_all news es in
    let now : List Element = sets news contents xs in
    let old_parts : PacketParts = set_parts fields ids news routed.form routed.elements parts in
    let block : row_in routed.form xs ≡ Some (form, filled (elements_bytes form xs)) = ap (λ (f : Option ExtensionsForm). row_in f xs) some in
    let body = has-body set old_parts form (filled (elements_bytes form xs)) packet refl block in
    let start : body_start_of parts ≡ length body.front = sym body.long in
    let slots_are : AreSlots form (length body.front) xs news slots = subst (λ (k : ℕ). AreSlots form k xs news slots) start (is.slots_are form some) in
    let bytes_are : filled_in slots contents set ≡ body.front ++ filled (elements_bytes form now) =
    ap (filled_in slots contents) body.bytes_are ∙ write-slots form body.front xs news slots contents slots_are is.own same in
    let number : length contents ≡ length news = sym (length-map contents length) ∙ ap length same ∙ length-map news (λ (e : Element). length e.1) in
    let put_is : put_all (with_data news contents) es ≡ now = put_all-data news contents es is.own number in
    let were : AreElements form (filled (elements_bytes form xs)) xs = subst (λ (b : Option (ExtensionsForm × List ℕ)). AreElementsOf b xs) block routed.are_elements in
    let all = elements-by_turns form xs (All-IsElement form (filled (elements_bytes form xs)) xs were) in
    let all_now = elements-sets form (length body.front) xs news slots contents slots_are is.own same all in
    let now_block : row_in routed.form (put_all (with_data news contents) es) ≡ Some (form, filled (elements_bytes form now)) =
    ap (λ (f : Option ExtensionsForm). row_in f (put_all (with_data news contents) es)) some ∙ ap (λ (zs : List Element). Some (form, filled (elements_bytes form zs))) put_is in
    let long : length (filled (elements_bytes form now)) ≡ length (filled (elements_bytes form xs)) = filled-sets_length form (length body.front) xs news slots contents slots_are is.own same in
    let made : IsPacket (body.front ++ filled (elements_bytes form now)) (record old_parts { block = Some (form, filled (elements_bytes form now)) }) = body.other (filled (elements_bytes form now)) long in
    let extension : extension_after (with_data news contents) parts.has_extension ≡ extension_after news parts.has_extension = extension-alike news contents parts.has_extension same in
    let new_parts : PacketParts = set_parts fields ids (with_data news contents) routed.form routed.elements parts in
    let is_now : IsPacket (filled_in slots contents set) new_parts =
    subst (λ (b : List ℕ). IsPacket b new_parts) (sym bytes_are)
    (subst (λ (x : Bool). IsPacket (body.front ++ filled (elements_bytes form now)) (record new_parts { has_extension = x })) (sym extension)
    (subst (λ (b : Option (ExtensionsForm × List ℕ)). IsPacket (body.front ++ filled (elements_bytes form now)) (record old_parts { block = b })) (sym now_block) made)) in
    let s : ℕ = 12 + 4 * length parts.sources in
    let word : word_bytes (filled_in slots contents set) ≡ word_bytes header =
    word_of (filled_in slots contents set) new_parts is_now
    ∙ ap (λ (b : List ℕ). take 2 (drop s b)) bytes_are
    ∙ word_in_front s body.front (filled (elements_bytes form now)) (omega (arith, body.long))
    ∙ sym (word_in_front s body.front (filled (elements_bytes form xs)) (omega (arith, body.long)))
    ∙ ap (λ (b : List ℕ). take 2 (drop s b)) (sym body.bytes_are)
    ∙ sym (word_of set old_parts packet)
    ∙ word-set header set _ old_parts routed.is_packet packet refl only in
    record {
      parts = parts;
      elements = routed.elements;
      start = routed.start;
      form = routed.form;
      was_packet = routed.was_packet;
      were_elements = routed.were_elements;
      start_is = routed.start_is;
      form_is = form-alike allowed routed.start news contents routed.form same routed.form_is;
      is_packet = is_now;
      are_elements = subst (λ (b : Option (ExtensionsForm × List ℕ)). AreElementsOf b (put_all (with_data news contents) es)) (sym now_block)
          (subst (λ (zs : List Element). AreElements form (filled (elements_bytes form now)) zs) (sym put_is) (filled-elements form now all_now));
      word_is = record {
        word_is = λ f is_form was. word ∙ routed.word_is.word_is f is_form was;
        new_word_is = λ f is_form other. word ∙ routed.word_is.new_word_is f is_form other;
      };
    }

-- the header of a group, filled in, is the packet's for a receiver
pub routed-filled : (old : List ℕ) (ids : ℕ → Option ℕ) (news : List Element) (allowed : Option ExtensionsForm) (header : List ℕ) (slots : List Slot) (fields : Fields) (contents : List (List ℕ)) (new : List ℕ)
    → IsGroupHeader old ids news allowed header slots → map length contents ≡ slot_lengths slots → IsFilledIn header slots fields contents new → IsRouted old fields ids (with_data news contents) allowed new
routed-filled old ids news allowed header slots fields contents new is same filled =
    let routed = is.routed in
    let parts : PacketParts = set_parts no_fields ids news routed.form routed.elements routed.parts in
    subst (IsRouted old fields ids (with_data news contents) allowed) (sym filled.filled)
    (filled-with old ids news allowed header slots fields contents filled.set is routed.form refl (same ∙ is.lengths_are) (filled.is_packet parts routed.is_packet) filled.only)

-- ---- in the terms of the calls

pub lengths-of : (contents : List (Bor (List ℕ))) → map length (map (λ (b : Bor (List ℕ)). b.now) contents) ≡ map (λ (b : Bor (List ℕ)). length b.now) contents
lengths-of [] = refl
lengths-of (bytes ∷ contents) = ap (λ (ks : List ℕ). length bytes.now ∷ ks) (lengths-of contents)

pub whole-put : (buf new front : List ℕ) → new ≡ overwritten buf 0 front → length front ≡ length new → new ≡ front
whole-put buf new front is same = sym (take_all (length front) new (omega (arith, same))) ∙ front-put buf new front is

-- a header that is put at the front of a buffer of its length
pub copied-header : (packet : RtpPacket) (header buf new : List ℕ) → IsPacket header (record (parts_of packet) { payload = [] }) → datagram_of packet ≡ header ++ (parts_of packet).payload
    → new ≡ overwritten buf 0 header → length new ≡ header_len_of (parts_of packet) → new ≡ header_in packet
copied-header packet header buf new alone front put room =
    let long : header_len_of (parts_of packet) ≡ length header = omega (arith, length-packet header _ alone) in
    whole-put buf new header put (omega (arith, room, long))
    ∙ sym (ap (take (header_len_of (parts_of packet))) front ∙ take_at header (parts_of packet).payload (header_len_of (parts_of packet)) (sym long))

-- a header that is routed is all of its bytes
pub routed-length : (old : List ℕ) (fields : Fields) (ids : ℕ → Option ℕ) (news : List Element) (allowed : Option ExtensionsForm) (packet : RtpPacket) → IsRouted old fields ids news allowed (datagram_of packet)
    → header_len_of (parts_of packet) ≡ length (datagram_of packet)
routed-length old fields ids news allowed packet is =
    let parts_is : parts_of packet ≡ set_parts fields ids news is.form is.elements is.parts = one_packet (datagram_of packet) _ is.is_packet in
    let none : length (parts_of packet).payload ≡ 0 = ap (λ (p : PacketParts). length p.payload) parts_is in
    omega (arith, none, length-packet (datagram_of packet) (parts_of packet) (IsPacket-found packet))

-- places that end within its bytes lie in it
pub within-header : (packet header : RtpPacket) (buf : List ℕ) (len : ℕ) (ids : ℕ → Option ℕ) (news : List Element) (allowed : Option ExtensionsForm) (slots : List Slot) → datagram_of header ≡ take len buf
    → len ≤ length buf → IsRouted (datagram_of packet) no_fields ids news allowed (take len buf) → All (λ (slot : Slot). slot.start + slot.len ≤ len) slots → All (LiesInHeader (parts_of header)) slots
within-header packet header buf len ids news allowed slots bytes room routed within =
    let long = routed-length (datagram_of packet) no_fields ids news allowed header (subst (IsRouted (datagram_of packet) no_fields ids news allowed) (sym bytes) routed) in
    λ k d there. omega (arith, within k d there, long, ap length bytes, length-take len buf, room)

-- so it is that of the calls
pub routed-alone : (packet header : RtpPacket) (fields : Fields) (ids : ℕ → Option ℕ) (news : List Element) (allowed : Option ExtensionsForm) (buf : List ℕ) (len : ℕ) → fields ≡ no_fields → HasNone news 0
    → IsRoutedByCalls (header_in packet) fields ids news allowed buf len → datagram_of header ≡ take len buf → IsRouted (datagram_of packet) no_fields ids news allowed (datagram_of header)
routed-alone packet header fields ids news allowed buf len none no_zero calls bytes =
    subst (IsRouted (datagram_of packet) no_fields ids news allowed) (sym bytes)
    (subst (λ (f : Fields). IsRouted (datagram_of packet) f ids news allowed (take len buf)) none (routed-of packet buf len fields ids news allowed no_zero calls))

whole-header : (old : List ℕ) (ids : ℕ → Option ℕ) (news : List Element) (allowed : Option ExtensionsForm) (template : HeaderTemplate) → IsTemplate old ids news allowed template
    → header_in template.header ≡ header_of template
whole-header old ids news allowed template is =
    let long : header_len_of (parts_of template.header) ≡ length (header_of template) = routed-length old no_fields ids news allowed template.header is.routed in
    take_all (header_len_of (parts_of template.header)) (header_of template) (omega (arith, long))

-- the header that is written for a receiver
pub written-with : (old : List ℕ) (ids : ℕ → Option ℕ) (news : List Element) (allowed : Option ExtensionsForm) (template : HeaderTemplate) (fields : Fields) (contents : List (List ℕ)) (new : List ℕ)
    → IsTemplate old ids news allowed template → map length contents ≡ lengths_of template → IsFilledIn (header_in template.header) (slots_in template) fields contents new
    → IsRouted old fields ids (with_data news contents) allowed new
written-with old ids news allowed template fields contents new is same filled =
    routed-filled old ids news allowed (header_of template) (slots_in template) fields contents new is same
    (subst (λ (b : List ℕ). IsFilledIn b (slots_in template) fields contents new) (whole-header old ids news allowed template is) filled)

-- what is found of places
abbrev Finds : RtpPacket → List Element → ℕ → Option (List Slot) → Type 0
Finds header news count result = (form : ExtensionsForm) (row : List Element) → HasRow (parts_of header) form row → AllByRecursion (HasOnly row) news
    → (slots : List Slot) × (result ≡ Some slots) × AreSlots form (body_start_of (parts_of header)) row news (take count slots)

row-there : (old : List ℕ) (ids : ℕ → Option ℕ) (news : List Element) (allowed : Option ExtensionsForm) (header : RtpPacket) (routed : IsRouted old no_fields ids news allowed (datagram_of header))
    (form : ExtensionsForm) → routed.form ≡ Some form → HasRow (parts_of header) form (routed_elements ids news routed.elements)
row-there old ids news allowed header routed form some =
    let xs : List Element = routed_elements ids news routed.elements in
    let parts_is : parts_of header ≡ set_parts no_fields ids news routed.form routed.elements routed.parts = one_packet (datagram_of header) _ routed.is_packet in
    let block : row_in routed.form xs ≡ Some (form, filled (elements_bytes form xs)) = ap (λ (f : Option ExtensionsForm). row_in f xs) some in
    record {
      block_is = ap (λ (p : PacketParts). p.block) parts_is ∙ block;
      are_elements = subst (λ (b : Option (ExtensionsForm × List ℕ)). AreElementsOf b xs) block routed.are_elements;
    }

-- places are found
pub slots-there : (old : List ℕ) (ids : ℕ → Option ℕ) (news : List Element) (allowed : Option ExtensionsForm) (header : RtpPacket) (count : ℕ) (result : Option (List Slot))
    → IsRouted old no_fields ids news allowed (datagram_of header) → HaveOwnIds news → Finds header news count result → (news ≡ [] → IsSome result) → IsSome result
slots-there old ids news allowed header count result routed own found none = by_form routed.form refl
  where
    by_form : (form : Option ExtensionsForm) → routed.form ≡ form → IsSome result
    by_form None is = none (no_news allowed routed.start news (subst (IsFormAfter allowed routed.start news) is routed.form_is))
    by_form (Some form) is =
        let es : List Element = without 0 (filter_map (renumbered ids) routed.elements) in
        let slots = found form (put_all news es) (row-there old ids news allowed header routed form is) (only-put_all news es own) in
        subst IsSome (sym slots.1) refl

-- the header that is made of a packet, with these places in it
pub group-made : (old : List ℕ) (ids : ℕ → Option ℕ) (news : List Element) (allowed : Option ExtensionsForm) (header : RtpPacket) (all : List Slot) (number : ℕ)
    → IsRouted old no_fields ids news allowed (datagram_of header) → HaveOwnIds news → number ≡ length news → Finds header news number (Some all)
    → IsGroupHeader old ids news allowed (datagram_of header) (take number all)
group-made old ids news allowed header all number routed own count found =
    let es : List Element = without 0 (filter_map (renumbered ids) routed.elements) in
    let xs : List Element = put_all news es in
    let parts_is : parts_of header ≡ set_parts no_fields ids news routed.form routed.elements routed.parts = one_packet (datagram_of header) _ routed.is_packet in
    let there : (form : ExtensionsForm) → routed.form ≡ Some form → AreSlots form (body_start_of routed.parts) xs news (take number all) =
    λ form some.
    let found_slots = found form xs (row-there old ids news allowed header routed form some) (only-put_all news es own) in
    let same : all ≡ found_slots.0 = some_list all found_slots.0 found_slots.1 in
    subst (λ (p : PacketParts). AreSlots form (body_start_of p) xs news (take number all)) parts_is
    (subst (λ (slots : List Slot). AreSlots form (body_start_of (parts_of header)) xs news (take number slots)) (sym same) found_slots.2) in
    record {
      routed = routed;
      own = own;
      lengths_are = lengths routed.form refl there;
      slots_are = there;
    }
  where
    some_list : (a b : List Slot) → Some a ≡ Some b → a ≡ b
    some_list a b same = cc

    none_put : (form : Option ExtensionsForm) (put : List Element) → IsFormAfter allowed routed.start put form → form ≡ None → (count : ℕ) → count ≡ length put
        → slot_lengths (take count all) ≡ data_lengths put
    none_put form [] is none count zero_is = ap (λ (k : ℕ). slot_lengths (take k all)) zero_is
    none_put form (new ∷ more) is none count zero_is = absurd (form-some allowed routed.start new more (subst (IsFormAfter allowed routed.start (new ∷ more)) none is))

    lengths : (form : Option ExtensionsForm) → routed.form ≡ form
        → ((f : ExtensionsForm) → routed.form ≡ Some f → AreSlots f (body_start_of routed.parts) (put_all news (without 0 (filter_map (renumbered ids) routed.elements))) news (take number all))
        → slot_lengths (take number all) ≡ data_lengths news
    lengths None none there = none_put routed.form news routed.form_is none number count
    lengths (Some f) some there = slots-lengths f (body_start_of routed.parts) (put_all news (without 0 (filter_map (renumbered ids) routed.elements))) news (take number all) (there f some)
