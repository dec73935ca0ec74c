-- A packet whose block is made as short as its elements allow.
use Rattle.rtp_wire.proofs.Common.{◌≡◌, ℕ, ◌+◌, ◌-◌, ◌*◌, ◌%◌, ◌≤◌, Bool, true, List, [], ◌++◌, length, take, drop, replicate, Option, Some, None, refl, sym, ap, subst, ◌∙◌, arith, length-append, length-take-le, slice_range, take-append-drop, take-take, take_all, take-append-le, take-replicate, length-replicate, take-append-add, put_mid, ExtensionsForm, Element, IsElement, AreElements, elements_bytes, without, row_to, IsCompacted, padding_of, whole_words, filled, AreElements-each, without-each, sources_end, PacketParts, IsPacket, header_len_of, block_len, AreElementsOf, form_of_block, body_of_block, compact_block, Compacts, resized}
use Rattle.rtp_ext.proofs.WrittenElementsLemmas.{AreElements-in_a_row}
use Rattle.rtp_wire.proofs.PartsLemmas.{length-packet}
use Rattle.rtp_wire.proofs.ResizedLemmas.{sources_end-is, no_other-announced, extension-announced, whole-announced}
use Rattle.rtp_wire.proofs.GrowthLemmas.{IsLaid, IsLaid-announced, middle-laid, length-middle, word-new as word-laid, IsPacket-new as IsPacket-laid}
use Rattle.rtp_wire.proofs.SetInPlaceLemmas.{block_len-announced, body-ends, body-here, length-new, IsPacket-new, word-set}

-- ---- the elements in a row

-- the front of a row with zeros
take-row : (form : ExtensionsForm) (elements : List Element) (n len : ℕ) → n ≡ whole_words (length (elements_bytes form elements)) → n ≤ len
    → take n (row_to form elements len) ≡ filled (elements_bytes form elements)
take-row form elements n len n-is fits =
    let row : List ℕ = elements_bytes form elements in
    let zeros : List ℕ = replicate (len - length row) 0 in
    let split : n ≡ length row + padding_of (length row) = n-is in
    ap (λ (k : ℕ). take k (row ++ zeros)) split
    ∙ take-append-add row zeros (padding_of (length row))
    ∙ ap (λ (xs : List ℕ). row ++ xs) (take-replicate (padding_of (length row)) (len - length row) 0 (omega arith))

compact-announced : (block : Option (ExtensionsForm × List ℕ)) (elements : List Element) (form : ExtensionsForm) → form_of_block block ≡ Some form
    → compact_block elements block ≡ Some (form, filled (elements_bytes form (without 0 elements)))
compact-announced None elements form some = absurd cc
compact-announced (Some block) elements form some =
    let same : block.0 ≡ form = cc in ap (λ (f : ExtensionsForm). Some (f, filled (elements_bytes f (without 0 elements)))) same

elements-announced : (block : Option (ExtensionsForm × List ℕ)) (elements : List Element) (form : ExtensionsForm) → form_of_block block ≡ Some form
    → AreElements form (body_of_block block) elements → AreElementsOf block elements
elements-announced None elements form some are = absurd cc
elements-announced (Some block) elements form some are = let same : block.0 ≡ form = cc in subst (λ (f : ExtensionsForm). AreElements f block.1 elements) (sym same) are

-- ---- the packet

module _ (bytes : List ℕ) (parts : PacketParts) (is : IsPacket bytes parts) (form : ExtensionsForm) (some : form_of_block parts.block ≡ Some form)
    (block_at payload_at : ℕ) (block-is : block_at ≡ sources_end bytes) (payload-is : payload_at ≡ header_len_of parts) (count n : ℕ) (row : List ℕ)
    (taken : IsCompacted form (take (payload_at - (block_at + 4)) (drop (block_at + 4) bytes)) row count)
    (words : n ≡ whole_words count) where
  abbrev moved : List ℕ
  moved = put_mid (block_at + 4) (payload_at - (block_at + 4)) bytes row

  abbrev body : List ℕ
  body = body_of_block parts.block

  elements-are : AreElements form body taken.elements
  elements-are = subst (λ (b : List ℕ). AreElements form b taken.elements) (body-here bytes parts is form some block_at payload_at block-is payload-is) taken.are_elements

  abbrev kept : List Element
  kept = without 0 taken.elements

  length-body : length (take (payload_at - (block_at + 4)) (drop (block_at + 4) bytes)) ≡ length body
  length-body = ap length (body-here bytes parts is form some block_at payload_at block-is payload-is)

  row-is : row ≡ row_to form kept (length body)
  row-is = taken.new_is ∙ ap (row_to form kept) length-body

  n-is : n ≡ whole_words (length (elements_bytes form kept))
  n-is = words ∙ ap whole_words taken.len_is

  body-whole : length body % 4 ≡ 0
  body-whole = whole-announced parts.has_extension parts.block parts.other_block is.part is.part_is

  pub n-within : n ≤ length body
  n-within = omega (arith, taken.within, length-body, body-whole)

  length-row : length row ≡ length body
  length-row =
      omega (
        arith,
        ap length row-is,
        taken.len_is,
        taken.within,
        length-body,
        length-append (elements_bytes form kept) (replicate (length body - length (elements_bytes form kept)) 0),
        length-replicate {A = ℕ} (length body - length (elements_bytes form kept)) 0,
      )

  -- the packet with the row and all zeros
  abbrev between : PacketParts
  between = record parts { has_extension = true; block = Some (form, row) }

  pub length-moved : length moved ≡ length bytes
  length-moved = length-new bytes parts is form some block_at payload_at block-is payload-is row length-row

  is-between : IsPacket moved between
  is-between = IsPacket-new bytes parts is form some block_at payload_at block-is payload-is row length-row

  all : take (length bytes) moved ≡ moved
  all = take_all (length bytes) moved (omega (arith, length-moved))

  is-front : IsPacket (take (length bytes) moved) between
  is-front = subst (λ (xs : List ℕ). IsPacket xs between) (sym all) is-between

  start-is : block_at ≡ sources_end moved
  start-is = block-is ∙ sources_end-is bytes parts is ∙ sym (sources_end-is moved between is-between)

  start-front : block_at ≡ sources_end (take (length bytes) moved)
  start-front = start-is ∙ ap sources_end (sym all)

  payload-front : payload_at ≡ header_len_of between
  payload-front = omega (arith, payload-is, length-row, block_len-announced parts.block form some)

  pub room : block_at + 4 + n + (length bytes - payload_at) ≤ length moved
  room =
      let ends = body-ends bytes parts is form some block_at payload_at block-is payload-is in
      omega (arith, ends.0, ends.1, ends.2, n-within, length-moved)

  module _ (laid : List ℕ) (laid-is : laid ≡ resized moved (length bytes) block_at payload_at n) (few : n ≤ 262140) where
    is-laid : IsLaid moved (length bytes) between is-front form block_at n laid
    is-laid = IsLaid-announced moved (length bytes) between is-front (omega (arith, length-moved)) block_at start-front payload_at payload-front n room form laid refl laid-is

    middle : List ℕ
    middle = slice_range moved (block_at + 4) (block_at + 4 + n)

    middle-is : middle ≡ filled (elements_bytes form kept)
    unfolding middle
    middle-is =
        let cut : block_at + 4 + n - (block_at + 4) ≡ n = omega arith in
        let here : take (payload_at - (block_at + 4)) (drop (block_at + 4) moved) ≡ row =
        body-here moved between is-between form refl block_at payload_at start-is payload-front in
        let ends = body-ends bytes parts is form some block_at payload_at block-is payload-is in
        ap (λ (k : ℕ). take k (drop (block_at + 4) moved)) cut
        ∙ sym (take-take n (payload_at - (block_at + 4)) (drop (block_at + 4) moved) (omega (arith, ends.2, n-within)))
        ∙ ap (take n) (here ∙ row-is)
        ∙ take-row form kept n (length body) n-is n-within

    long : length middle ≡ n
    unfolding middle
    long = length-middle moved (length bytes) between is-front (omega (arith, length-moved)) block_at start-front payload_at payload-front n room form laid is-laid

    same-laid : put_mid (block_at + 4) (block_at + 4 + n - (block_at + 4)) laid middle ≡ laid
    unfolding middle
    same-laid =
        ap (λ (xs : List ℕ). take (block_at + 4) laid ++ (xs ++ drop (block_at + 4 + n - (block_at + 4)) (drop (block_at + 4) laid)))
        (sym (middle-laid moved (length bytes) between is-front (omega (arith, length-moved)) block_at start-front payload_at payload-front n room form laid is-laid))
        ∙ ap (λ (xs : List ℕ). take (block_at + 4) laid ++ xs) (take-append-drop (block_at + 4 + n - (block_at + 4)) (drop (block_at + 4) laid))
        ∙ take-append-drop (block_at + 4) laid

    pub Compacts-made : Compacts bytes laid (block_at + 4 + n + (length bytes - payload_at))
    Compacts-made =
        let size : block_at + 4 + n + (length bytes - payload_at) ≡ 12 + 4 * length parts.sources + (4 + n) + length parts.payload =
        omega (arith, block-is, sources_end-is bytes parts is, length-packet bytes parts is, payload-is) in
        let x : parts.has_extension ≡ true = extension-announced parts.has_extension parts.block parts.other_block is.part form is.part_is some in
        let block : compact_block taken.elements parts.block ≡ Some (form, middle) =
        compact-announced parts.block taken.elements form some ∙ ap (λ (b : List ℕ). Some (form, b)) (sym middle-is) in
        let with-x : record parts { has_extension = true; block = Some (form, middle) } ≡ record parts { block = compact_block taken.elements parts.block } =
        ap (λ (b : Bool). record parts { has_extension = b; block = Some (form, middle) }) (sym x)
        ∙ ap (λ (b : Option (ExtensionsForm × List ℕ)). record parts { block = b }) (sym block) in
        let packet : IsPacket (take (block_at + 4 + n + (length bytes - payload_at)) laid) (record parts { has_extension = true; block = Some (form, middle) }) =
        subst (λ (xs : List ℕ). IsPacket (take (block_at + 4 + n + (length bytes - payload_at)) xs) (record parts { has_extension = true; block = Some (form, middle) })) same-laid
        (IsPacket-laid moved (length bytes) between is-front (omega (arith, length-moved)) block_at start-front payload_at payload-front n room form laid is-laid middle long
        (block_at + 4 + n + (length bytes - payload_at)) (no_other-announced parts.has_extension parts.block parts.other_block is.part form is.part_is some) size (omega (arith, words)) few) in
        let start : sources_end (take (length bytes) moved) + 2 ≡ sources_end bytes + 2 = omega (arith, start-front, block-is) in
        let word : take (sources_end (take (length bytes) moved) + 2) (put_mid (block_at + 4) (block_at + 4 + n - (block_at + 4)) laid middle) ≡ take (sources_end (take (length bytes) moved) + 2) moved =
        word-laid moved (length bytes) between is-front (omega (arith, length-moved)) block_at start-front payload_at payload-front n room form laid is-laid middle long refl in
        record {
          parts = parts;
          elements = taken.elements;
          was_packet = is;
          were_elements = elements-announced parts.block taken.elements form some elements-are;
          is_packet = subst (IsPacket (take (block_at + 4 + n + (length bytes - payload_at)) laid)) with-x packet;
          are_elements = subst (λ (b : Option (ExtensionsForm × List ℕ)). AreElementsOf b kept) (sym (compact-announced parts.block taken.elements form some))
              (AreElements-in_a_row form kept (padding_of (length (elements_bytes form kept)))
              (without-each (IsElement form) 0 taken.elements (AreElements-each form body taken.elements elements-are)));
          word_is = λ _ _.
              ap (take (sources_end bytes + 2)) (sym same-laid)
              ∙ subst (λ (k : ℕ). take k (put_mid (block_at + 4) (block_at + 4 + n - (block_at + 4)) laid middle) ≡ take k moved) start word
              ∙ word-set bytes parts is form some block_at payload_at block-is payload-is row length-row;
        }

-- without a block
no-block : (block : Option (ExtensionsForm × List ℕ)) → form_of_block block ≡ None → block ≡ None
no-block None none = refl
no-block (Some block) none = absurd cc

pub Compacts-nothing : (bytes : List ℕ) (parts : PacketParts) → IsPacket bytes parts → form_of_block parts.block ≡ None → Compacts bytes bytes (length bytes)
Compacts-nothing bytes parts is none =
    let block : parts.block ≡ None = no-block parts.block none in
    let same : compact_block [] parts.block ≡ parts.block = ap (compact_block []) block ∙ sym block in
    record {
      parts = parts;
      elements = [];
      was_packet = is;
      were_elements = subst (λ (b : Option (ExtensionsForm × List ℕ)). AreElementsOf b []) (sym block) refl;
      is_packet = subst (λ (xs : List ℕ). IsPacket xs (record parts { block = compact_block [] parts.block })) (sym (take_all (length bytes) bytes (omega arith)))
          (subst (λ (b : Option (ExtensionsForm × List ℕ)). IsPacket bytes (record parts { block = b })) (sym same) is);
      are_elements = subst (λ (b : Option (ExtensionsForm × List ℕ)). AreElementsOf b []) (sym (same ∙ block)) refl;
      word_is = λ _ _. refl;
    }

-- ---- bytes behind the packet

compact-some : (block : Option (ExtensionsForm × List ℕ)) (elements : List Element) (form : ExtensionsForm) → form_of_block block ≡ Some form → 4 ≤ block_len (compact_block elements block)
compact-some None elements form some = absurd cc
compact-some (Some block) elements form some = omega arith

pub Compacts-front : (old new rest : List ℕ) (len : ℕ) → len ≤ length new → Compacts old new len → Compacts old (new ++ rest) len
Compacts-front old new rest len within is =
    let parts : PacketParts = record is.parts { block = compact_block is.elements is.parts.block } in
    let same : take len (new ++ rest) ≡ take len new = take-append-le len new rest within in
    record {
      parts = is.parts;
      elements = is.elements;
      was_packet = is.was_packet;
      were_elements = is.were_elements;
      is_packet = subst (λ (xs : List ℕ). IsPacket xs parts) (sym same) is.is_packet;
      are_elements = is.are_elements;
      word_is = λ form some.
          let long = length-packet (take len new) parts is.is_packet in
          let four = compact-some is.parts.block is.elements form some in
          let start = sources_end-is old is.parts is.was_packet in
          take-append-le (sources_end old + 2) new rest (omega (arith, long, four, start, length-take-le len new within)) ∙ is.word_is form some;
    }
