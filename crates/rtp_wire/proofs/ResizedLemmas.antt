-- The pieces of a packet in a buffer, and the buffer once its block has a body of another length.
use Rattle.rtp_wire.proofs.Common.{◌≡◌, ℕ, ◌+◌, ◌-◌, ◌*◌, ◌/◌, ◌%◌, ◌≤◌, Bool, true, false, List, ◌++◌, length, take, drop, Option, Some, None, refl, sym, ap, subst, ◌∙◌, arith, append_assoc, length-append, length-drop, length-take-le, take_at, drop_at, slice_range, concat, w16, w32, from_be_bytes, to_be_bytes, length-map, take-append-drop, drop-drop, take-take, take-append-le, drop-append-le, none-some, take-add, paste, ExtensionsForm, IsFormWord, sources_end, PacketParts, IsAnnouncedBlock, IsPacket, header_len_of, block_len, form_of_block, body_of_block}
use Rattle.rtp_base.specs.Overwriting.{overwritten}
use Rattle.rtp_wire.specs.GrowingPacket.{resized}
use Rattle.rtp_wire.proofs.GroupLemmas.{length-concat}
use Rattle.rtp_wire.proofs.PacketLemmas.{one_packet}
use Rattle.rtp_wire.proofs.PacketParts.{sources_len}
use Rattle.rtp_wire.proofs.PartsLemmas.{length-announced_block, length-packet}

-- what `copy_within` of the payload leaves, with the number of words
pub resized-put : (buf moved new words : List ℕ) (len block_at payload_at body_len new_at : ℕ) → payload_at ≤ len → len ≤ length buf → block_at + 4 + body_len + (len - payload_at) ≤ length buf
    → new_at ≡ block_at + 4 + body_len → moved ≡ paste buf new_at (drop payload_at buf) (len - payload_at) → words ≡ to_be_bytes w16 (body_len / 4) → new ≡ overwritten moved (block_at + 2) words
    → new ≡ resized buf len block_at payload_at body_len
unfolding resized overwritten
resized-put buf moved new words len block_at payload_at body_len new_at order within room at-is moved-is words-is new-is =
    let n : ℕ = block_at + 4 + body_len in
    let payload : List ℕ = slice_range buf payload_at len in
    let rest : List ℕ = drop (n + (len - payload_at)) buf in
    let two : length words ≡ 2 = ap length words-is in
    let parts : moved ≡ take n buf ++ (payload ++ rest) =
    moved-is ∙ ap (λ (k : ℕ). take k buf ++ payload ++ drop (k + (len - payload_at)) buf) at-is ∙ append_assoc (take n buf) payload rest in
    let long : length (take n buf) ≡ n = length-take-le n buf (omega arith) in
    let front : take (block_at + 2) moved ≡ take (block_at + 2) buf =
    ap (take (block_at + 2)) parts ∙ take-append-le (block_at + 2) (take n buf) (payload ++ rest) (omega arith) ∙ take-take (block_at + 2) n buf (omega arith) in
    let start : block_at + 2 + length words ≡ block_at + 4 = omega arith in
    let inner : n ≡ block_at + 4 + body_len = refl in
    let cut : block_at + 4 + body_len - (block_at + 4) ≡ body_len = omega arith in
    let split : take n buf ≡ take (block_at + 4) buf ++ take body_len (drop (block_at + 4) buf) = take-add (block_at + 4) body_len buf in
    let head : length (take (block_at + 4) buf) ≡ block_at + 4 = length-take-le (block_at + 4) buf (omega arith) in
    let after : drop (block_at + 4) moved ≡ take body_len (drop (block_at + 4) buf) ++ (payload ++ rest) =
    ap (drop (block_at + 4)) (parts ∙ ap (λ (xs : List ℕ). xs ++ (payload ++ rest)) split ∙ append_assoc (take (block_at + 4) buf) (take body_len (drop (block_at + 4) buf)) (payload ++ rest))
    ∙ drop_at (take (block_at + 4) buf) (take body_len (drop (block_at + 4) buf) ++ (payload ++ rest)) (block_at + 4) head in
    new-is
    ∙ ap (λ (k : ℕ). take (block_at + 2) moved ++ (words ++ drop k moved)) start
    ∙ ap (λ (xs : List ℕ). xs ++ (words ++ drop (block_at + 4) moved)) front
    ∙ ap (λ (xs : List ℕ). take (block_at + 2) buf ++ (words ++ xs)) after
    ∙ ap (λ (xs : List ℕ). take (block_at + 2) buf ++ (xs ++ (take body_len (drop (block_at + 4) buf) ++ (payload ++ rest)))) words-is
    ∙ ap (λ (k : ℕ). take (block_at + 2) buf ++ (to_be_bytes w16 (body_len / 4) ++ (take k (drop (block_at + 4) buf) ++ (payload ++ rest)))) (sym cut)

-- ---- the pieces of a packet at the front of a buffer

-- the fixed part and the CSRC list
abbrev pub head_of : (bytes : List ℕ) (parts : PacketParts) → IsPacket bytes parts → List ℕ
head_of bytes parts is = is.fixed ++ concat is.groups

pub sources_end-is : (bytes : List ℕ) (parts : PacketParts) → IsPacket bytes parts → sources_end bytes ≡ 12 + 4 * length parts.sources
sources_end-is bytes parts is = omega (arith, ap (λ (p : PacketParts). length p.sources) (one_packet bytes parts is), sources_len bytes)

pub length-head : (bytes : List ℕ) (parts : PacketParts) (is : IsPacket bytes parts) → length (head_of bytes parts is) ≡ sources_end bytes
length-head bytes parts is =
    let number : length is.groups ≡ length parts.sources = sym (ap length is.sources_are.numbers_are ∙ length-map is.groups (from_be_bytes w32)) in
    omega (arith, length-append is.fixed (concat is.groups), length-concat is.groups is.sources_are.of_four, is.fixed_is.twelve, number, sources_end-is bytes parts is)

-- what X announces is in the block
body-announced : (x : Bool) (block : Option (ExtensionsForm × List ℕ)) (other : Option (ℕ × List ℕ)) (part after : List ℕ) → IsAnnouncedBlock x block other part
    → take (length (body_of_block block)) (drop 4 (part ++ after)) ≡ body_of_block block
body-announced x None other part after is = refl
body-announced x (Some block) (Some other) part after is = absurd (none-some block (sym is.1))
body-announced false (Some block) None part after is = absurd is
body-announced true (Some (form, body)) None part after is =
    let words = is.words in
    ap (take (length body)) (drop-append-le 4 part after (omega arith) ∙ ap (λ (xs : List ℕ). xs ++ after) (sym is.body_is)) ∙ take_at body after (length body) refl

pub whole-announced : (x : Bool) (block : Option (ExtensionsForm × List ℕ)) (other : Option (ℕ × List ℕ)) (part : List ℕ) → IsAnnouncedBlock x block other part → length (body_of_block block) % 4 ≡ 0
whole-announced x None other part is = refl
whole-announced x (Some block) (Some other) part is = absurd (none-some block (sym is.1))
whole-announced false (Some block) None part is = absurd is
whole-announced true (Some (form, body)) None part is = let words = is.words in omega (arith, ap length is.body_is, length-drop 4 part)

-- a block of one of the two forms is the only one
pub no_other-announced : (x : Bool) (block : Option (ExtensionsForm × List ℕ)) (other : Option (ℕ × List ℕ)) (part : List ℕ) (form : ExtensionsForm) → IsAnnouncedBlock x block other part
    → form_of_block block ≡ Some form → other ≡ None
no_other-announced x block None part form is some = refl
no_other-announced x None (Some other) part form is some = absurd cc
no_other-announced x (Some block) (Some other) part form is some = absurd (none-some block (sym is.1))

pub extension-announced : (x : Bool) (block : Option (ExtensionsForm × List ℕ)) (other : Option (ℕ × List ℕ)) (part : List ℕ) (form : ExtensionsForm) → IsAnnouncedBlock x block other part
    → form_of_block block ≡ Some form → x ≡ true
extension-announced x None other part form is some = absurd cc
extension-announced x (Some block) (Some other) part form is some = is.0
extension-announced false (Some block) None part form is some = absurd is
extension-announced true (Some block) None part form is some = refl

word-announced : (x : Bool) (block : Option (ExtensionsForm × List ℕ)) (other : Option (ℕ × List ℕ)) (part after : List ℕ) (form : ExtensionsForm) → IsAnnouncedBlock x block other part
    → form_of_block block ≡ Some form → IsFormWord (from_be_bytes w16 (take 2 (part ++ after))) form
word-announced x None other part after form is some = absurd cc
word-announced x (Some block) (Some other) part after form is some = absurd (none-some block (sym is.1))
word-announced false (Some block) None part after form is some = absurd is
word-announced true (Some (was, body)) None part after form is some =
    let words = is.words in
    let same : was ≡ form = cc in
    subst (λ (f : ExtensionsForm). IsFormWord (from_be_bytes w16 (take 2 (part ++ after))) f) same
    (subst (λ (xs : List ℕ). IsFormWord (from_be_bytes w16 xs) was) (sym (take-append-le 2 part after (omega arith))) is.form_is)

-- how many bytes the block takes
pub block_len-body : (block : Option (ExtensionsForm × List ℕ)) → length (body_of_block block) ≤ block_len block
block_len-body None = omega arith
block_len-body (Some block) = omega arith

module _ (buf : List ℕ) (len : ℕ) (parts : PacketParts) (is : IsPacket (take len buf) parts) (within : len ≤ length buf) where
  pub pieces : buf ≡ head_of (take len buf) parts is ++ (is.part ++ (parts.payload ++ drop len buf))
  pieces = sym (take-append-drop len buf) ∙ ap (λ (xs : List ℕ). xs ++ drop len buf) is.in_order ∙ simp append_assoc

  pub len-is : header_len_of parts + length parts.payload ≡ len
  len-is = length-packet (take len buf) parts is ∙ length-take-le len buf within

  module _ (block_at : ℕ) (block-is : block_at ≡ sources_end (take len buf)) where
    long : length (head_of (take len buf) parts is) ≡ block_at
    long = length-head (take len buf) parts is ∙ sym block-is

    pub take-head : take block_at buf ≡ head_of (take len buf) parts is
    take-head = ap (take block_at) pieces ∙ take_at (head_of (take len buf) parts is) (is.part ++ (parts.payload ++ drop len buf)) block_at long

    pub after_head : drop block_at buf ≡ is.part ++ (parts.payload ++ drop len buf)
    after_head = ap (drop block_at) pieces ∙ drop_at (head_of (take len buf) parts is) (is.part ++ (parts.payload ++ drop len buf)) block_at long

    -- the body stands at the front of the room for the new one
    pub take-body : (n : ℕ) → length (body_of_block parts.block) ≤ n → take (length (body_of_block parts.block)) (slice_range buf (block_at + 4) (block_at + 4 + n)) ≡ body_of_block parts.block
    take-body n fits =
        let count : ℕ = length (body_of_block parts.block) in
        let cut : block_at + 4 + n - (block_at + 4) ≡ n = omega arith in
        ap (λ (k : ℕ). take count (take k (drop (block_at + 4) buf))) cut
        ∙ take-take count n (drop (block_at + 4) buf) fits
        ∙ ap (take count) (sym (drop-drop 4 block_at buf) ∙ ap (drop 4) after_head)
        ∙ body-announced parts.has_extension parts.block parts.other_block is.part (parts.payload ++ drop len buf) is.part_is

    pub IsFormWord-here : (form : ExtensionsForm) → form_of_block parts.block ≡ Some form → IsFormWord (from_be_bytes w16 (take 2 (drop block_at buf))) form
    IsFormWord-here form some =
        subst (λ (xs : List ℕ). IsFormWord (from_be_bytes w16 (take 2 xs)) form) (sym after_head)
        (word-announced parts.has_extension parts.block parts.other_block is.part (parts.payload ++ drop len buf) form is.part_is some)

    module _ (payload_at : ℕ) (payload-is : payload_at ≡ header_len_of parts) where
      pub payload-here : slice_range buf payload_at len ≡ parts.payload
      payload-here =
          let head : List ℕ = head_of (take len buf) parts is in
          let split : buf ≡ (head ++ is.part) ++ (parts.payload ++ drop len buf) = pieces ∙ sym (append_assoc head is.part (parts.payload ++ drop len buf)) in
          let part : length is.part ≡ block_len parts.block + block_len parts.other_block = length-announced_block parts.has_extension parts.block parts.other_block is.part is.part_is in
          let end : length (head ++ is.part) ≡ payload_at = omega (arith, length-append head is.part, length-head (take len buf) parts is, sources_end-is (take len buf) parts is, part, payload-is) in
          let count : length parts.payload ≡ len - payload_at = omega (arith, len-is, payload-is) in
          ap (take (len - payload_at)) (ap (drop payload_at) split ∙ drop_at (head ++ is.part) (parts.payload ++ drop len buf) payload_at end)
          ∙ take_at parts.payload (drop len buf) (len - payload_at) count

      pub resized-pieces : (n : ℕ) → block_at + 4 + n ≤ length buf
          → resized buf len block_at payload_at n
          ≡ head_of (take len buf) parts is ++ (take 2 (drop block_at buf) ++ (to_be_bytes w16 (n / 4)
          ++ (slice_range buf (block_at + 4) (block_at + 4 + n) ++ (parts.payload ++ drop (block_at + 4 + n + (len - payload_at)) buf))))
      unfolding resized
      resized-pieces n room =
          let after : List ℕ = to_be_bytes w16 (n / 4) ++ (slice_range buf (block_at + 4) (block_at + 4 + n) ++ (parts.payload ++ drop (block_at + 4 + n + (len - payload_at)) buf)) in
          ap (λ (xs : List ℕ). take (block_at + 2) buf ++ (to_be_bytes w16 (n / 4) ++ (slice_range buf (block_at + 4) (block_at + 4 + n) ++ (xs ++ drop (block_at + 4 + n + (len - payload_at)) buf)))) payload-here
          ∙ ap (λ (xs : List ℕ). xs ++ after) (take-add block_at 2 buf ∙ ap (λ (xs : List ℕ). xs ++ take 2 (drop block_at buf)) take-head)
          ∙ append_assoc (head_of (take len buf) parts is) (take 2 (drop block_at buf)) after
