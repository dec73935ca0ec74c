-- A packet in which the data of an element are set where they lie.
use Rattle.rtp_wire.proofs.Common.{◌≡◌, ℕ, ◌+◌, ◌-◌, ◌*◌, ◌≤◌, Bool, true, false, List, [], ◌∷◌, ◌++◌, length, take, drop, Option, Some, None, refl, sym, ap, subst, ◌∙◌, arith, append_assoc, length-append, length-drop, length-take-le, take_at, drop_at, slice_index, concat, flat_map, filter_map, take-append-drop, take_all, take-put_mid_below, put_mid, ExtensionsForm, IsFormWord, Element, AreElements, element_bytes, elements_bytes, piece_bytes, SetsLast, put_element, IsSole, sole-no_zero, IsBlock, word_at, sources_end, PacketParts, IsFirstByte, IsFixedPart, IsAnnounced, IsAnnouncedBlock, IsPacket, block_len, header_len_of, IsGrowth, PutsElement, in_place, form_of_block, body_of_block, elements_with, IsFormOfBody}
use Rattle.rtp_wire.proofs.BlockLemmas.{word_at-take}
use Rattle.rtp_wire.proofs.PartsLemmas.{announced, length-announced, length-packet}
use Rattle.rtp_wire.proofs.ResizedLemmas.{head_of, length-head, sources_end-is, no_other-announced, extension-announced, whole-announced}

-- the elements of a body take no more than it
pieces-fit : (form : ExtensionsForm) (pieces : List (Option Element)) → length (elements_bytes form (filter_map (λ piece. piece) pieces)) ≤ length (flat_map (piece_bytes form) pieces)
pieces-fit form [] = omega arith
pieces-fit form (None ∷ pieces) = omega (arith, pieces-fit form pieces, length-append (0 ∷ []) (flat_map (piece_bytes form) pieces))
pieces-fit form (Some element ∷ pieces) =
    omega (
      arith,
      pieces-fit form pieces,
      length-append (element_bytes form element) (flat_map (piece_bytes form) pieces),
      length-append (element_bytes form element) (elements_bytes form (filter_map (λ piece. piece) pieces)),
    )

pub elements-within : (form : ExtensionsForm) (body : List ℕ) (elements : List Element) → AreElements form body elements → length (elements_bytes form elements) ≤ length body
elements-within form body elements are =
    omega (
      arith,
      pieces-fit form are.pieces,
      ap (λ (es : List Element). length (elements_bytes form es)) are.elements_are,
      ap length are.body_is,
      length-append (flat_map (piece_bytes form) are.pieces) are.tail,
    )

pub form-announced : (block : Option (ExtensionsForm × List ℕ)) (new_form form : ExtensionsForm) → IsFormOfBody block new_form form → form_of_block block ≡ Some new_form → form ≡ new_form
form-announced None new_form form is some = is
form-announced (Some block) new_form form is some = is ∙ cc

pub block_len-announced : (block : Option (ExtensionsForm × List ℕ)) (form : ExtensionsForm) → form_of_block block ≡ Some form → block_len block ≡ 4 + length (body_of_block block)
block_len-announced None form some = absurd cc
block_len-announced (Some block) form some = refl

-- a block with another body of this length
IsBlock-set : (x : Bool) (block : Option (ExtensionsForm × List ℕ)) (part body : List ℕ) (form : ExtensionsForm) → IsAnnounced x block part → form_of_block block ≡ Some form
    → length body ≡ length (body_of_block block) → IsBlock (take 4 part ++ body) form body
IsBlock-set false None part body form is some as_long = absurd cc
IsBlock-set false (Some block) part body form is some as_long = absurd is
IsBlock-set true None part body form is some as_long = absurd is
IsBlock-set true (Some (was, old)) part body form is some as_long =
    let words : length part ≡ 4 + 4 * word_at part 2 = is.words in
    let four : length (take 4 part) ≡ 4 = length-take-le 4 part (omega arith) in
    let front : take 4 (take 4 part ++ body) ≡ take 4 part = take_at (take 4 part) body 4 four in
    let word : (offset : ℕ) → offset + 2 ≤ 4 → word_at (take 4 part ++ body) offset ≡ word_at part offset =
    λ offset within. sym (word_at-take (take 4 part ++ body) offset 4 within) ∙ ap (λ (xs : List ℕ). word_at xs offset) front ∙ word_at-take part offset 4 within in
    let same : was ≡ form = cc in
    record {
      form_is = subst (λ (w : ℕ). IsFormWord w form) (sym (word 0 (omega arith))) (subst (IsFormWord (word_at part 0)) same is.form_is);
      words = omega (arith, word 2 (omega arith), length-append (take 4 part) body, four, as_long, ap length is.body_is, length-drop 4 part);
      body_is = sym (drop_at (take 4 part) body 4 four);
    }

body-announced_is : (x : Bool) (block : Option (ExtensionsForm × List ℕ)) (part : List ℕ) (form : ExtensionsForm) → IsAnnounced x block part → form_of_block block ≡ Some form
    → drop 4 part ≡ body_of_block block
body-announced_is false None part form is some = absurd cc
body-announced_is false (Some block) part form is some = absurd is
body-announced_is true None part form is some = absurd is
body-announced_is true (Some (was, old)) part form is some = sym is.body_is

IsFixedPart-same : (fixed : List ℕ) (parts : PacketParts) (block : Option (ExtensionsForm × List ℕ)) → parts.has_extension ≡ true → IsFixedPart fixed parts
    → IsFixedPart fixed (record parts { has_extension = true; block = block })
IsFixedPart-same fixed parts block x is = record {
  twelve = is.twelve;
  first_is = subst (λ (b : Bool). IsFirstByte (slice_index fixed 0) parts.has_padding b (length parts.sources)) x is.first_is;
  second_is = is.second_is;
  number_is = is.number_is;
  timestamp_is = is.timestamp_is;
  ssrc_is = is.ssrc_is;
}

module _ (bytes : List ℕ) (parts : PacketParts) (is : IsPacket bytes parts) (form : ExtensionsForm) (some : form_of_block parts.block ≡ Some form)
    (block_at payload_at : ℕ) (block-is : block_at ≡ sources_end bytes) (payload-is : payload_at ≡ header_len_of parts) where
  abbrev front : List ℕ
  front = head_of bytes parts is ++ take 4 is.part

  no_other : parts.other_block ≡ None
  no_other = no_other-announced parts.has_extension parts.block parts.other_block is.part form is.part_is some

  no_bytes : block_len parts.other_block ≡ 0
  no_bytes = ap (λ (other : Option (ℕ × List ℕ)). block_len other) no_other

  part_is : IsAnnounced parts.has_extension parts.block is.part
  part_is = announced parts.has_extension parts.block parts.other_block is.part no_other is.part_is

  long-part : length is.part ≡ 4 + length (body_of_block parts.block)
  long-part = length-announced parts.has_extension parts.block is.part part_is ∙ block_len-announced parts.block form some

  length-front : length front ≡ block_at + 4
  length-front = omega (arith, length-append (head_of bytes parts is) (take 4 is.part), length-head bytes parts is, length-take-le 4 is.part (omega (arith, long-part)), block-is)

  pub body-ends : (block_at + 4 ≤ payload_at) × (payload_at ≤ length bytes) × (payload_at - (block_at + 4) ≡ length (body_of_block parts.block))
  body-ends = (
    omega (arith, block-is, payload-is, sources_end-is bytes parts is, block_len-announced parts.block form some, no_bytes),
    omega (arith, payload-is, length-packet bytes parts is),
    omega (arith, block-is, payload-is, sources_end-is bytes parts is, block_len-announced parts.block form some, no_bytes),
  )

  bytes-split : bytes ≡ front ++ (body_of_block parts.block ++ parts.payload)
  bytes-split =
      is.in_order
      ∙ ap (λ (xs : List ℕ). is.fixed ++ (concat is.groups ++ (xs ++ parts.payload))) (sym (take-append-drop 4 is.part))
      ∙ ap (λ (xs : List ℕ). is.fixed ++ (concat is.groups ++ ((take 4 is.part ++ xs) ++ parts.payload))) (body-announced_is parts.has_extension parts.block is.part form part_is some)
      ∙ simp append_assoc

  pub body-here : take (payload_at - (block_at + 4)) (drop (block_at + 4) bytes) ≡ body_of_block parts.block
  body-here =
      ap (λ (k : ℕ). take k (drop (block_at + 4) bytes)) body-ends.2
      ∙ ap (take (length (body_of_block parts.block))) (ap (drop (block_at + 4)) bytes-split ∙ drop_at front (body_of_block parts.block ++ parts.payload) (block_at + 4) length-front)
      ∙ take_at (body_of_block parts.block) parts.payload (length (body_of_block parts.block)) refl

  -- the body stays as it was
  pub put_mid-same : (body : List ℕ) → body ≡ take (payload_at - (block_at + 4)) (drop (block_at + 4) bytes) → put_mid (block_at + 4) (payload_at - (block_at + 4)) bytes body ≡ bytes
  put_mid-same body same =
      ap (λ (xs : List ℕ). take (block_at + 4) bytes ++ (xs ++ drop (payload_at - (block_at + 4)) (drop (block_at + 4) bytes))) same
      ∙ ap (λ (xs : List ℕ). take (block_at + 4) bytes ++ xs) (take-append-drop (payload_at - (block_at + 4)) (drop (block_at + 4) bytes))
      ∙ take-append-drop (block_at + 4) bytes

  module _ (body : List ℕ) (as_long : length body ≡ length (body_of_block parts.block)) where
    abbrev new : List ℕ
    new = put_mid (block_at + 4) (payload_at - (block_at + 4)) bytes body

    new-split : new ≡ front ++ (body ++ parts.payload)
    new-split =
        ap (λ (xs : List ℕ). xs ++ (body ++ drop (payload_at - (block_at + 4)) (drop (block_at + 4) bytes)))
        (ap (take (block_at + 4)) bytes-split ∙ take_at front (body_of_block parts.block ++ parts.payload) (block_at + 4) length-front)
        ∙ ap (λ (xs : List ℕ). front ++ (body ++ xs))
        (ap (λ (k : ℕ). drop k (drop (block_at + 4) bytes)) body-ends.2
        ∙ ap (drop (length (body_of_block parts.block))) (ap (drop (block_at + 4)) bytes-split ∙ drop_at front (body_of_block parts.block ++ parts.payload) (block_at + 4) length-front)
        ∙ drop_at (body_of_block parts.block) parts.payload (length (body_of_block parts.block)) refl)

    pub length-new : length new ≡ length bytes
    length-new = omega (
      arith,
      ap length new-split,
      ap length bytes-split,
      length-append front (body ++ parts.payload),
      length-append front (body_of_block parts.block ++ parts.payload),
      length-append body parts.payload,
      length-append (body_of_block parts.block) parts.payload,
      as_long,
    )

    pub IsPacket-new : IsPacket new (record parts { has_extension = true; block = Some (form, body) })
    IsPacket-new = record {
      fixed = is.fixed;
      groups = is.groups;
      part = take 4 is.part ++ body;
      in_order = new-split ∙ simp append_assoc;
      fixed_is = IsFixedPart-same is.fixed parts (Some (form, body)) (extension-announced parts.has_extension parts.block parts.other_block is.part form is.part_is some) is.fixed_is;
      sources_are = is.sources_are;
      part_is = subst (λ (other : Option (ℕ × List ℕ)). IsAnnouncedBlock true (Some (form, body)) other (take 4 is.part ++ body)) (sym no_other)
          (IsBlock-set parts.has_extension parts.block is.part body form part_is some as_long);
    }

    pub IsPacket-set : (n : ℕ) → n ≡ length bytes → IsPacket (take n new) (record parts { has_extension = true; block = Some (form, body) })
    IsPacket-set n is-len =
        subst (λ (xs : List ℕ). IsPacket xs (record parts { has_extension = true; block = Some (form, body) })) (sym (take_all n new (omega (arith, length-new)))) IsPacket-new

    pub word-set : take (sources_end bytes + 2) new ≡ take (sources_end bytes + 2) bytes
    word-set = take-put_mid_below (block_at + 4) (payload_at - (block_at + 4)) bytes body (sources_end bytes + 2) (omega arith) (omega (arith, body-ends.0, body-ends.1))

-- the body ends where the payload begins
pub body-before : (bytes : List ℕ) (parts : PacketParts) (is : IsPacket bytes parts) (block : Option (ExtensionsForm × List ℕ)) (payload_at n : ℕ) → parts.block ≡ block
    → payload_at ≡ header_len_of parts → n ≡ length (body_of_block parts.block) → take (payload_at - (payload_at - n)) (drop (payload_at - n) bytes) ≡ body_of_block parts.block
body-before bytes parts is None payload_at n none payload-is n-is =
    let nothing : n ≡ 0 = n-is ∙ ap (λ (b : Option (ExtensionsForm × List ℕ)). length (body_of_block b)) none in
    let cut : payload_at - (payload_at - n) ≡ 0 = omega arith in
    ap (λ (k : ℕ). take k (drop (payload_at - n) bytes)) cut ∙ sym (ap body_of_block none)
body-before bytes parts is (Some block) payload_at n some payload-is n-is =
    let form : form_of_block parts.block ≡ Some block.0 = ap form_of_block some in
    let ends = body-ends bytes parts is block.0 form (sources_end bytes) payload_at refl payload-is in
    let start : payload_at - n ≡ sources_end bytes + 4 = omega (arith, ends.0, ends.2, n-is) in
    ap (λ (k : ℕ). take (payload_at - k) (drop k bytes)) start ∙ body-here bytes parts is block.0 form (sources_end bytes) payload_at refl payload-is

-- what the packet then is
pub PutsElement-set : (bytes : List ℕ) (element : Element) (allowed : Option ExtensionsForm) (growth : IsGrowth bytes element allowed) (form : ExtensionsForm) (block_at payload_at : ℕ)
    → (some : form_of_block growth.parts.block ≡ Some form) → block_at ≡ sources_end bytes → payload_at ≡ header_len_of growth.parts → form ≡ growth.form
    → (body : List ℕ) → length body ≡ length (body_of_block growth.parts.block) → 1 ≤ element.0 → IsSole growth.elements element
    → SetsLast form element.0 element.1 (body_of_block growth.parts.block) body → AreElements form body (put_element element growth.elements)
    → PutsElement bytes element allowed (put_mid (block_at + 4) (payload_at - (block_at + 4)) bytes body) (length bytes)
PutsElement-set bytes element allowed growth form block_at payload_at some block-is payload-is form-is body as_long above sole sets are =
    let parts = growth.parts in
    let with-is : elements_with element growth.elements ≡ put_element element growth.elements =
    ap (put_element element) (sole-no_zero element.0 element.1 growth.elements above sole) in
    let here : AreElements growth.form body (elements_with element growth.elements) =
    subst (λ (f : ExtensionsForm). AreElements f body (elements_with element growth.elements)) form-is
    (subst (AreElements form body) (sym with-is) are) in
    let few = elements-within growth.form body (elements_with element growth.elements) here in
    let whole = whole-announced parts.has_extension parts.block parts.other_block growth.is_packet.part growth.is_packet.part_is in
    let size : growth.body_len ≡ length body = omega (arith, growth.body_len_is, few, whole, as_long) in
    record {
      growth = growth;
      body = body;
      len_is = omega (arith, growth.len_is, size, as_long, length-packet bytes parts growth.is_packet, block_len-announced parts.block form some, ap (λ (other : Option (ℕ × List ℕ)). block_len other) growth.no_other);
      body_is = in_place (some ∙ ap (λ (f : ExtensionsForm). Some f) form-is, sole) (subst (λ (f : ExtensionsForm). SetsLast f element.0 element.1 (body_of_block parts.block) body) form-is sets);
      is_packet = subst (λ (f : ExtensionsForm). IsPacket (take (length bytes) (put_mid (block_at + 4) (payload_at - (block_at + 4)) bytes body)) (record parts { has_extension = true; block = Some (f, body) })) form-is
          (IsPacket-set bytes parts growth.is_packet form some block_at payload_at block-is payload-is body as_long (length bytes) refl);
      are_elements = here;
      word_is = λ _. word-set bytes parts growth.is_packet form some block_at payload_at block-is payload-is body as_long;
      new_word_is = λ other. absurd (other (some ∙ ap (λ (f : ExtensionsForm). Some f) form-is));
    }
