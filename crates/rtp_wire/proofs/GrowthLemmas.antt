-- What an element that is put into a packet makes of it.
use Rattle.rtp_wire.proofs.Common.{◌≡◌, ℕ, ◌+◌, ◌-◌, ◌*◌, ◌/◌, ◌%◌, ◌≤◌, Bool, true, List, ◌++◌, length, take, drop, Some, None, refl, sym, ap, subst, ◌∙◌, arith, append_assoc, length-append, length-drop, length-take-le, take_at, drop_at, slice_index, slice_range, concat, w16, from_be_bytes, to_be_bytes, take-add, drop-drop, put_mid, ExtensionsForm, IsFormWord, form_word, sources_end, PacketParts, IsPacket, IsFirstByte, header_len_of, form_of_block, with_extension_bit, resized}
use Rattle.rtp_base.specs.Overwriting.{overwritten}
use Rattle.rtp_wire.proofs.BlockLaidLemmas.{length-with_extension_bit, with_extension_bit-append, with_extension_bit-same, IsFormWord-written, IsPacket-laid}
use Rattle.rtp_wire.proofs.ResizedLemmas.{head_of, length-head, sources_end-is, extension-announced, take-head, IsFormWord-here, resized-pieces, len-is}

-- ---- the block in front of its body

-- the buffer before the body is made: X is set, and the block is announced in this form, with so many bytes of body, which are those that stood there
pub record IsLaid (buf : List ℕ) (len : ℕ) (parts : PacketParts) (is : IsPacket (take len buf) parts) (form : ExtensionsForm) (block_at n : ℕ) (laid : List ℕ) : Type 0 where
  pub word : List ℕ
  pub rest : List ℕ
  pub two : length word ≡ 2
  pub is_word : IsFormWord (from_be_bytes w16 word) form
  pub laid_is : laid ≡ with_extension_bit (head_of (take len buf) parts is) ++ (word ++ (to_be_bytes w16 (n / 4) ++ (slice_range buf (block_at + 4) (block_at + 4 + n) ++ (parts.payload ++ rest))))
  pub rest_is : rest ≡ drop (block_at + 4 + n + length parts.payload) buf
  pub word_stays : form_of_block parts.block ≡ Some form → with_extension_bit (head_of (take len buf) parts is) ++ word ≡ take (block_at + 2) buf
  pub new_word : (form_of_block parts.block ≡ Some form → ⊥) → word ≡ to_be_bytes w16 (form_word form)

module _ (buf : List ℕ) (len : ℕ) (parts : PacketParts) (is : IsPacket (take len buf) parts) (within : len ≤ length buf)
    (block_at : ℕ) (block-is : block_at ≡ sources_end (take len buf)) (payload_at : ℕ) (payload-is : payload_at ≡ header_len_of parts) where
  abbrev bytes : List ℕ
  bytes = take len buf

  abbrev head : List ℕ
  head = head_of bytes parts is

  some-head : 1 ≤ length head
  some-head = omega (arith, length-head bytes parts is, sources_end-is bytes parts is)

  -- X of a packet with a block is set already
  head-same : (form : ExtensionsForm) → form_of_block parts.block ≡ Some form → with_extension_bit head ≡ head
  head-same form some =
      let x : parts.has_extension ≡ true = extension-announced parts.has_extension parts.block parts.other_block is.part form is.part_is some in
      with_extension_bit-append is.fixed (concat is.groups) (let t = is.fixed_is.twelve in omega arith)
      ∙ ap (λ (xs : List ℕ). xs ++ concat is.groups)
      (with_extension_bit-same is.fixed parts.has_padding (length parts.sources)
      (subst (λ (b : Bool). IsFirstByte (slice_index is.fixed 0) parts.has_padding b (length parts.sources)) x is.fixed_is.first_is))

  module _ (n : ℕ) (room : block_at + 4 + n + (len - payload_at) ≤ length buf) where
    abbrev rest : List ℕ
    rest = drop (block_at + 4 + n + (len - payload_at)) buf

    abbrev middle : List ℕ
    middle = slice_range buf (block_at + 4) (block_at + 4 + n)

    abbrev after : List ℕ
    after = to_be_bytes w16 (n / 4) ++ (middle ++ (parts.payload ++ rest))

    two-here : length (take 2 (drop block_at buf)) ≡ 2
    two-here = length-take-le 2 (drop block_at buf) (omega (arith, length-drop block_at buf))

    rest-is : rest ≡ drop (block_at + 4 + n + length parts.payload) buf
    rest-is = let count : len - payload_at ≡ length parts.payload = omega (arith, len-is buf len parts is within) in ap (λ (k : ℕ). drop (block_at + 4 + n + k) buf) count

    pub IsLaid-announced : (form : ExtensionsForm) (laid : List ℕ) → form_of_block parts.block ≡ Some form → laid ≡ resized buf len block_at payload_at n
        → IsLaid buf len parts is form block_at n laid
    IsLaid-announced form laid some laid-is = record {
      word = take 2 (drop block_at buf);
      rest = rest;
      two = two-here;
      is_word = IsFormWord-here buf len parts is within block_at block-is form some;
      laid_is = laid-is ∙ resized-pieces buf len parts is within block_at block-is payload_at payload-is n (omega arith)
          ∙ ap (λ (xs : List ℕ). xs ++ (take 2 (drop block_at buf) ++ after)) (sym (head-same form some));
      rest_is = rest-is;
      word_stays = λ same.
          ap (λ (xs : List ℕ). xs ++ take 2 (drop block_at buf)) (head-same form some ∙ sym (take-head buf len parts is within block_at block-is))
          ∙ sym (take-add block_at 2 buf);
      new_word = λ other. absurd (other some);
    }

    pub IsLaid-new : (form : ExtensionsForm) (laid : List ℕ) → (form_of_block parts.block ≡ Some form → ⊥)
        → laid ≡ overwritten (with_extension_bit (resized buf len block_at payload_at n)) block_at (to_be_bytes w16 (form_word form)) → IsLaid buf len parts is form block_at n laid
    unfolding overwritten
    IsLaid-new form laid other laid-is =
        let here : List ℕ = take 2 (drop block_at buf) in
        let word : List ℕ = to_be_bytes w16 (form_word form) in
        let extended : with_extension_bit (resized buf len block_at payload_at n) ≡ with_extension_bit head ++ (here ++ after) =
        ap with_extension_bit (resized-pieces buf len parts is within block_at block-is payload_at payload-is n (omega arith)) ∙ with_extension_bit-append head (here ++ after) some-head in
        let long : length (with_extension_bit head) ≡ block_at = length-with_extension_bit head ∙ length-head bytes parts is ∙ sym block-is in
        let end : block_at + length word ≡ block_at + 2 = ap (λ (k : ℕ). block_at + k) refl in
        let left : drop (block_at + 2) (with_extension_bit head ++ (here ++ after)) ≡ after =
        sym (drop-drop 2 block_at (with_extension_bit head ++ (here ++ after)))
        ∙ ap (drop 2) (drop_at (with_extension_bit head) (here ++ after) block_at long) ∙ drop_at here after 2 two-here in
        record {
          word = word;
          rest = rest;
          two = refl;
          is_word = IsFormWord-written form;
          laid_is = laid-is ∙ ap (λ (xs : List ℕ). overwritten xs block_at word) extended
              ∙ ap (λ (xs : List ℕ). xs ++ (word ++ drop (block_at + length word) (with_extension_bit head ++ (here ++ after)))) (take_at (with_extension_bit head) (here ++ after) block_at long)
              ∙ ap (λ (k : ℕ). with_extension_bit head ++ (word ++ drop k (with_extension_bit head ++ (here ++ after)))) end
              ∙ ap (λ (xs : List ℕ). with_extension_bit head ++ (word ++ xs)) left;
          rest_is = rest-is;
          word_stays = λ same. absurd (other same);
          new_word = λ _. refl;
        }

    -- ---- the body in its place

    module _ (form : ExtensionsForm) (laid : List ℕ) (is_laid : IsLaid buf len parts is form block_at n laid) where
      abbrev front : List ℕ
      front = with_extension_bit head ++ (is_laid.word ++ to_be_bytes w16 (n / 4))

      abbrev end : ℕ
      end = block_at + 4 + n

      length-front : length front ≡ block_at + 4
      length-front =
          let number : length (to_be_bytes w16 (n / 4)) ≡ 2 = refl in
          omega (
            arith,
            length-append (with_extension_bit head) (is_laid.word ++ to_be_bytes w16 (n / 4)),
            length-append is_laid.word (to_be_bytes w16 (n / 4)),
            length-with_extension_bit head,
            length-head bytes parts is,
            is_laid.two,
          )

      pub length-middle : length middle ≡ n
      length-middle =
          let cut : block_at + 4 + n - (block_at + 4) ≡ n = omega arith in
          ap (λ (k : ℕ). length (take k (drop (block_at + 4) buf))) cut ∙ length-take-le n (drop (block_at + 4) buf) (omega (arith, length-drop (block_at + 4) buf))

      laid_front : laid ≡ front ++ (middle ++ (parts.payload ++ is_laid.rest))
      laid_front = is_laid.laid_is ∙ simp append_assoc

      -- what stands where the body is to be
      pub middle-laid : take (end - (block_at + 4)) (drop (block_at + 4) laid) ≡ middle
      middle-laid =
          let cut : end - (block_at + 4) ≡ n = omega arith in
          ap (λ (k : ℕ). take k (drop (block_at + 4) laid)) cut
          ∙ ap (take n) (ap (drop (block_at + 4)) laid_front ∙ drop_at front (middle ++ (parts.payload ++ is_laid.rest)) (block_at + 4) length-front)
          ∙ take_at middle (parts.payload ++ is_laid.rest) n length-middle

      module _ (body : List ℕ) (as_long : length body ≡ n) where
        abbrev new : List ℕ
        new = put_mid (block_at + 4) (end - (block_at + 4)) laid body

        new-is : new ≡ front ++ (body ++ (parts.payload ++ is_laid.rest))
        new-is =
            let cut : end - (block_at + 4) ≡ n = omega arith in
            let kept : take (block_at + 4) laid ≡ front = ap (take (block_at + 4)) laid_front ∙ take_at front (middle ++ (parts.payload ++ is_laid.rest)) (block_at + 4) length-front in
            let left : drop (end - (block_at + 4)) (drop (block_at + 4) laid) ≡ parts.payload ++ is_laid.rest =
            ap (λ (k : ℕ). drop k (drop (block_at + 4) laid)) cut
            ∙ ap (drop n) (ap (drop (block_at + 4)) laid_front ∙ drop_at front (middle ++ (parts.payload ++ is_laid.rest)) (block_at + 4) length-front)
            ∙ drop_at middle (parts.payload ++ is_laid.rest) n length-middle in
            ap (λ (xs : List ℕ). xs ++ (body ++ drop (end - (block_at + 4)) (drop (block_at + 4) laid))) kept ∙ ap (λ (xs : List ℕ). front ++ (body ++ xs)) left

        pub IsPacket-new : (size : ℕ) → parts.other_block ≡ None → size ≡ 12 + 4 * length parts.sources + (4 + n) + length parts.payload → n % 4 ≡ 0 → n ≤ 262140
            → IsPacket (take size new) (record parts { has_extension = true; block = Some (form, body) })
        IsPacket-new size none size-is whole few =
            IsPacket-laid bytes new is_laid.rest parts is form is_laid.word body size none is_laid.two is_laid.is_word (omega (arith, as_long)) (omega (arith, as_long))
            (new-is ∙ ap (λ (k : ℕ). (with_extension_bit head ++ (is_laid.word ++ to_be_bytes w16 (k / 4))) ++ (body ++ (parts.payload ++ is_laid.rest))) (sym as_long) ∙ simp append_assoc)
            (omega (arith, as_long, size-is))

        pub behind-new : (size : ℕ) → size ≡ 12 + 4 * length parts.sources + (4 + n) + length parts.payload → drop size new ≡ drop size buf
        behind-new size size-is =
            let all : List ℕ = front ++ (body ++ parts.payload) in
            let split : new ≡ all ++ is_laid.rest = new-is ∙ simp append_assoc in
            let long : length all ≡ size = omega (arith, length-append front (body ++ parts.payload), length-append body parts.payload, length-front, as_long, size-is, sources_end-is bytes parts is) in
            let here : block_at + 4 + n + length parts.payload ≡ size = omega (arith, size-is, sources_end-is bytes parts is) in
            ap (drop size) split ∙ drop_at all is_laid.rest size long ∙ is_laid.rest_is ∙ ap (λ (k : ℕ). drop k buf) here

        pub word-new : form_of_block parts.block ≡ Some form → take (sources_end bytes + 2) new ≡ take (sources_end bytes + 2) buf
        word-new some =
            let first : List ℕ = with_extension_bit head ++ is_laid.word in
            let second : List ℕ = to_be_bytes w16 (n / 4) ++ (body ++ (parts.payload ++ is_laid.rest)) in
            let split : new ≡ first ++ second = new-is ∙ simp append_assoc in
            let long : length first ≡ sources_end bytes + 2 = omega (arith, length-append (with_extension_bit head) is_laid.word, length-with_extension_bit head, length-head bytes parts is, is_laid.two) in
            let here : block_at + 2 ≡ sources_end bytes + 2 = omega arith in
            ap (take (sources_end bytes + 2)) split ∙ take_at first second (sources_end bytes + 2) long ∙ is_laid.word_stays some ∙ ap (λ (k : ℕ). take k buf) here

        pub written-new : (form_of_block parts.block ≡ Some form → ⊥) → take 2 (drop (sources_end bytes) new) ≡ to_be_bytes w16 (form_word form)
        written-new other =
            let second : List ℕ = to_be_bytes w16 (n / 4) ++ (body ++ (parts.payload ++ is_laid.rest)) in
            let split : new ≡ with_extension_bit head ++ (is_laid.word ++ second) = new-is ∙ simp append_assoc in
            let long : length (with_extension_bit head) ≡ sources_end bytes = length-with_extension_bit head ∙ length-head bytes parts is in
            ap (take 2) (ap (drop (sources_end bytes)) split ∙ drop_at (with_extension_bit head) (is_laid.word ++ second) (sources_end bytes) long)
            ∙ take_at is_laid.word second 2 is_laid.two ∙ is_laid.new_word other
