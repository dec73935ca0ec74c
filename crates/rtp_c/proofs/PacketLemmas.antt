-- Where the parts of a packet lie in its bytes.
use Rattle.rtp_c.proofs.Common.{◌≡◌, ℕ, ◌+◌, ◌-◌, List, [], ◌++◌, length, take, drop, Bool, true, false, Option, Some, None, refl, sym, ap, ◌∙◌, append_assoc, append-nil, length-append, take_at, drop_at, arith, concat, take-append-drop, ExtensionsForm, PacketParts, IsPacket, IsAnnouncedBlock, header_len_of, length-packet, slice_at, body_of_any}

-- bytes between others
pub middle : (bytes before it after : List ℕ) (offset len : ℕ) → bytes ≡ before ++ (it ++ after) → length before ≡ offset → length it ≡ len → slice_at bytes offset len ≡ it
middle bytes before it after offset len in_order offset-is len-is =
    let n : offset + len - offset ≡ len = omega arith in
    ap (λ (k : ℕ). take k (drop offset bytes)) n
    ∙ ap (λ (xs : List ℕ). take len (drop offset xs)) in_order
    ∙ ap (take len) (drop_at before (it ++ after) offset offset-is)
    ∙ take_at it after len len-is

-- what X announces ends in the body of the block
body_ends : (x : Bool) (block : Option (ExtensionsForm × List ℕ)) (other : Option (ℕ × List ℕ)) (part : List ℕ) → IsAnnouncedBlock x block other part
    → (head : List ℕ) × (part ≡ head ++ body_of_any block other)
body_ends false None None part is = ([], is)
body_ends false (Some block) None part is = absurd is
body_ends true None None part is = absurd is
body_ends true (Some block) None part is = (take 4 part, sym (ap (λ (xs : List ℕ). take 4 part ++ xs) is.body_is ∙ take-append-drop 4 part))
body_ends x block (Some other) part is = (take 4 part, sym (ap (λ (xs : List ℕ). take 4 part ++ xs) is.2.body_is ∙ take-append-drop 4 part))

-- all before the body of the block, the body, and the payload
pub record LiesInOrder (bytes : List ℕ) (parts : PacketParts) : Type 0 where
  pub front : List ℕ
  pub in_order : bytes ≡ front ++ (body_of_any parts.block parts.other_block ++ parts.payload)

pub LiesInOrder-packet : (bytes : List ℕ) (parts : PacketParts) → IsPacket bytes parts → LiesInOrder bytes parts
LiesInOrder-packet bytes parts is =
    let cut = body_ends parts.has_extension parts.block parts.other_block is.part is.part_is in
    let head = cut.0 in
    let body = body_of_any parts.block parts.other_block in
    let groups = concat is.groups in
    record {
      front = is.fixed ++ (groups ++ head);
      in_order =
          is.in_order
          ∙ ap (λ (part : List ℕ). is.fixed ++ (groups ++ (part ++ parts.payload))) cut.1
          ∙ ap (λ (xs : List ℕ). is.fixed ++ (groups ++ xs)) (append_assoc head body parts.payload)
          ∙ ap (λ (xs : List ℕ). is.fixed ++ xs) (sym (append_assoc groups head (body ++ parts.payload)))
          ∙ sym (append_assoc is.fixed (groups ++ head) (body ++ parts.payload));
    }

-- how long all of it is
pub lengths : (bytes : List ℕ) (parts : PacketParts) (is : LiesInOrder bytes parts) → length bytes ≡ length is.front + length (body_of_any parts.block parts.other_block) + length parts.payload
lengths bytes parts is =
    let body = body_of_any parts.block parts.other_block in
    omega (arith, ap length is.in_order, length-append is.front (body ++ parts.payload), length-append body parts.payload)

pub front_len : (bytes : List ℕ) (parts : PacketParts) → IsPacket bytes parts → (is : LiesInOrder bytes parts)
    → length is.front + length (body_of_any parts.block parts.other_block) ≡ header_len_of parts
front_len bytes parts packet is = omega (arith, lengths bytes parts is, length-packet bytes parts packet)

-- the body of the block ends where the header does
pub body-at : (bytes : List ℕ) (parts : PacketParts) → IsPacket bytes parts → (offset : ℕ) → offset + length (body_of_any parts.block parts.other_block) ≡ header_len_of parts
    → slice_at bytes offset (length (body_of_any parts.block parts.other_block)) ≡ body_of_any parts.block parts.other_block
body-at bytes parts packet offset ends =
    let is = LiesInOrder-packet bytes parts packet in
    middle bytes is.front (body_of_any parts.block parts.other_block) parts.payload offset _ is.in_order (omega (arith, front_len bytes parts packet is, ends)) refl

-- the payload begins there
pub payload-at : (bytes : List ℕ) (parts : PacketParts) → IsPacket bytes parts → slice_at bytes (header_len_of parts) (length parts.payload) ≡ parts.payload
payload-at bytes parts packet =
    let is = LiesInOrder-packet bytes parts packet in
    let body = body_of_any parts.block parts.other_block in
    let in_order : bytes ≡ (is.front ++ body) ++ (parts.payload ++ []) =
    is.in_order ∙ sym (append_assoc is.front body parts.payload) ∙ ap (λ (xs : List ℕ). is.front ++ body ++ xs) (sym (append-nil parts.payload)) in
    middle bytes (is.front ++ body) parts.payload [] (header_len_of parts) _ in_order (omega (arith, front_len bytes parts packet is, length-append is.front body)) refl
