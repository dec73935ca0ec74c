-- A receiver's header is one list of bytes.
use Rattle.std.proofs.Common.{◌≡◌, ℕ, ◌+◌, ◌*◌, ◌≤◌, ◌⊎◌, inl, inr, Bool, true, false, List, [], ◌∷◌, ◌++◌, length, take, drop, map, Option, Some, None, refl, sym, ap, subst, ◌∙◌, arith, append_assoc, drop_at, length-append}
use Rattle.std.specs.Int.{w16, w32, from_be_bytes}
use Rattle.std.specs.List.{concat, AllByRecursion}
use Rattle.std.proofs.lemmas.List.{take-append-drop, take-append-le, drop-drop, drop_all, length-drop, length-take-le}
use Rattle.std.proofs.lemmas.Nat.{be_bytes_2, be_bytes_4}
use Rattle.std.proofs.lemmas.Option.{none-some, same_Some}
use Rattle.rtp_ext.specs.declared.form.ExtensionsForm.{ExtensionsForm}
use Rattle.rtp_ext.specs.Elements.{Element}
use Rattle.rtp_ext.proofs.ElementLemmasOfBodies.{AreBytes}
use Rattle.rtp_ext.proofs.ValuesFound.{AreBytes-front, AreBytes-back}
use Rattle.rtp_wire.specs.declared.packet.fields.Fields.{Fields}
use Rattle.rtp_wire.specs.Block.{word_at}
use Rattle.rtp_wire.specs.Packet.{PacketParts, IsFixedPart, IsAnnouncedBlock, IsPacket, block_len}
use Rattle.rtp_wire.specs.PacketElements.{AreElementsOf}
use Rattle.rtp_wire.specs.PutIntoPacket.{form_of_block}
use Rattle.rtp_wire.proofs.PartsLemmas.{length-packet}
use Rattle.rtp_route.specs.Routing.{IsFormForIds, own_form, two_byte_form, IsFormAfter, row_in, routed_elements, routed_parts, word_bytes, KeepsWord, IsRouted}
use Rattle.rtp_route.proofs.BodyLemmas.{announces}
use Rattle.rtp_route.proofs.StartLemmas.{same_parts, same_elements}
use Rattle.rtp_route.proofs.WordLemmas.{word_of, either_form}

-- ---- bytes of one number

same_two : (xs ys : List ℕ) → length xs ≡ 2 → length ys ≡ 2 → AreBytes xs → AreBytes ys → from_be_bytes w16 xs ≡ from_be_bytes w16 ys → xs ≡ ys
same_two xs ys two_xs two_ys all_xs all_ys same = sym (be_bytes_2 xs (from_be_bytes w16 xs) two_xs all_xs refl) ∙ be_bytes_2 ys (from_be_bytes w16 xs) two_ys all_ys same

same_four : (xs ys : List ℕ) → length xs ≡ 4 → length ys ≡ 4 → AreBytes xs → AreBytes ys → from_be_bytes w32 xs ≡ from_be_bytes w32 ys → xs ≡ ys
same_four xs ys four_xs four_ys all_xs all_ys same = sym (be_bytes_4 xs (from_be_bytes w32 xs) four_xs all_xs refl) ∙ be_bytes_4 ys (from_be_bytes w32 xs) four_ys all_ys same

pub are_taken : (k : ℕ) (xs : List ℕ) → AreBytes xs → AreBytes (take k xs)
are_taken k xs all = AreBytes-front (take k xs) (drop k xs) (subst AreBytes (sym (take-append-drop k xs)) all)

are_dropped : (k : ℕ) (xs : List ℕ) → AreBytes xs → AreBytes (drop k xs)
are_dropped k xs all = AreBytes-back (take k xs) (drop k xs) (subst AreBytes (sym (take-append-drop k xs)) all)

-- what is the same in a range and behind it
from_range : (i k : ℕ) (a b : List ℕ) → take k (drop i a) ≡ take k (drop i b) → drop (i + k) a ≡ drop (i + k) b → drop i a ≡ drop i b
from_range i k a b same rest =
    sym (take-append-drop k (drop i a)) ∙ ap (λ (front : List ℕ). front ++ drop k (drop i a)) same
    ∙ ap (λ (back : List ℕ). take k (drop i b) ++ back) (drop-drop k i a ∙ rest ∙ sym (drop-drop k i b)) ∙ take-append-drop k (drop i b)

two_at : (i : ℕ) (a b : List ℕ) → i + 2 ≤ length a → i + 2 ≤ length b → AreBytes a → AreBytes b → from_be_bytes w16 (take 2 (drop i a)) ≡ from_be_bytes w16 (take 2 (drop i b))
    → take 2 (drop i a) ≡ take 2 (drop i b)
two_at i a b in_a in_b all_a all_b same =
    same_two (take 2 (drop i a)) (take 2 (drop i b)) (length-take-le 2 (drop i a) (omega (arith, length-drop i a, in_a))) (length-take-le 2 (drop i b) (omega (arith, length-drop i b, in_b)))
    (are_taken 2 (drop i a) (are_dropped i a all_a)) (are_taken 2 (drop i b) (are_dropped i b all_b)) same

four_at : (i : ℕ) (a b : List ℕ) → i + 4 ≤ length a → i + 4 ≤ length b → AreBytes a → AreBytes b → from_be_bytes w32 (take 4 (drop i a)) ≡ from_be_bytes w32 (take 4 (drop i b))
    → take 4 (drop i a) ≡ take 4 (drop i b)
four_at i a b in_a in_b all_a all_b same =
    same_four (take 4 (drop i a)) (take 4 (drop i b)) (length-take-le 4 (drop i a) (omega (arith, length-drop i a, in_a))) (length-take-le 4 (drop i b) (omega (arith, length-drop i b, in_b)))
    (are_taken 4 (drop i a) (are_dropped i a all_a)) (are_taken 4 (drop i b) (are_dropped i b all_b)) same

-- ---- the parts of a packet

fixed-same : (a b : List ℕ) (parts : PacketParts) → IsFixedPart a parts → IsFixedPart b parts → AreBytes a → AreBytes b → a ≡ b
fixed-same [] b parts p q all_a all_b = let twelve = p.twelve in absurd (omega (arith, twelve))
fixed-same (x ∷ []) b parts p q all_a all_b = let twelve = p.twelve in absurd (omega (arith, twelve))
fixed-same (x ∷ y ∷ a) [] parts p q all_a all_b = let twelve = q.twelve in absurd (omega (arith, twelve))
fixed-same (x ∷ y ∷ a) (z ∷ []) parts p q all_a all_b = let twelve = q.twelve in absurd (omega (arith, twelve))
fixed-same (x ∷ y ∷ a) (z ∷ w ∷ b) parts p q all_a all_b =
    let one : List ℕ = x ∷ y ∷ a in
    let other : List ℕ = z ∷ w ∷ b in
    let long : length one ≡ 12 = p.twelve in
    let as_long : length other ≡ 12 = q.twelve in
    let at_12 : drop 12 one ≡ drop 12 other = drop_all 12 one (omega (arith, long)) ∙ sym (drop_all 12 other (omega (arith, as_long))) in
    let at_8 : drop 8 one ≡ drop 8 other = from_range 8 4 one other (four_at 8 one other (omega (arith, long)) (omega (arith, as_long)) all_a all_b (sym p.ssrc_is ∙ q.ssrc_is)) at_12 in
    let at_4 : drop 4 one ≡ drop 4 other = from_range 4 4 one other (four_at 4 one other (omega (arith, long)) (omega (arith, as_long)) all_a all_b (sym p.timestamp_is ∙ q.timestamp_is)) at_8 in
    let at_2 : drop 2 one ≡ drop 2 other = from_range 2 2 one other (two_at 2 one other (omega (arith, long)) (omega (arith, as_long)) all_a all_b (sym p.number_is ∙ q.number_is)) at_4 in
    let first : x ≡ z = p.first_is.sum ∙ sym q.first_is.sum in
    let second : y ≡ w = p.second_is.sum ∙ sym q.second_is.sum in
    ap (λ (e : ℕ). e ∷ y ∷ a) first ∙ ap (λ (e : ℕ). z ∷ e ∷ a) second ∙ ap (λ (rest : List ℕ). z ∷ w ∷ rest) at_2

groups-same : (xs ys : List (List ℕ)) → AllByRecursion (λ group. length group ≡ 4) xs → AllByRecursion (λ group. length group ≡ 4) ys → map (from_be_bytes w32) xs ≡ map (from_be_bytes w32) ys
    → AreBytes (concat xs) → AreBytes (concat ys) → xs ≡ ys
groups-same [] [] fours_x fours_y same all_x all_y = refl
groups-same [] (y ∷ ys) fours_x fours_y same all_x all_y = absurd cc
groups-same (x ∷ xs) [] fours_x fours_y same all_x all_y = absurd cc
groups-same (x ∷ xs) (y ∷ ys) fours_x fours_y same all_x all_y =
    let first : from_be_bytes w32 x ≡ from_be_bytes w32 y = cc in
    let rest : map (from_be_bytes w32) xs ≡ map (from_be_bytes w32) ys = cc in
    ap (λ (g : List ℕ). g ∷ xs) (same_four x y fours_x.0 fours_y.0 (AreBytes-front x (concat xs) all_x) (AreBytes-front y (concat ys) all_y) first)
    ∙ ap (λ (gs : List (List ℕ)). y ∷ gs) (groups-same xs ys fours_x.1 fours_y.1 rest (AreBytes-back x (concat xs) all_x) (AreBytes-back y (concat ys) all_y))

-- a block by its word, how many words it has, and its body
block-same : (one two body : List ℕ) → AreBytes one → AreBytes two → take 2 one ≡ take 2 two → length one ≡ 4 + 4 * word_at one 2 → length two ≡ 4 + 4 * word_at two 2
    → body ≡ drop 4 one → body ≡ drop 4 two → one ≡ two
block-same one two body all_one all_two word words_one words_two body_one body_two =
    let counts : word_at one 2 ≡ word_at two 2 = omega (arith, words_one, words_two, ap length body_one, ap length body_two, length-drop 4 one, length-drop 4 two) in
    let at_2 : drop 2 one ≡ drop 2 two =
    from_range 2 2 one two (two_at 2 one two (omega (arith, words_one)) (omega (arith, words_two)) all_one all_two counts) (sym body_one ∙ body_two) in
    from_range 0 2 one two word at_2

part-same : (x : Bool) (block : Option (ExtensionsForm × List ℕ)) (other : Option (ℕ × List ℕ)) (one two : List ℕ) → AreBytes one → AreBytes two → IsAnnouncedBlock x block other one
    → IsAnnouncedBlock x block other two → ((b : ExtensionsForm × List ℕ) → block ≡ Some b → take 2 one ≡ take 2 two) → one ≡ two
part-same x block (Some other) one two all_one all_two p q word =
    block-same one two other.1 all_one all_two
    (two_at 0 one two (omega (arith, p.2.words)) (omega (arith, q.2.words)) all_one all_two (sym p.2.profile_is ∙ q.2.profile_is)) p.2.words q.2.words p.2.body_is q.2.body_is
part-same false None None one two all_one all_two p q word = p ∙ sym q
part-same true None None one two all_one all_two p q word = absurd p
part-same false (Some block) None one two all_one all_two p q word = absurd p
part-same true (Some block) None one two all_one all_two p q word = block-same one two block.1 all_one all_two (word block refl) p.words q.words p.body_is q.body_is

-- ---- a packet

-- the word of the block's form begins what X announces
word_of_part : (bytes : List ℕ) (parts : PacketParts) (block : ExtensionsForm × List ℕ) (is : IsPacket bytes parts) → parts.block ≡ Some block → word_bytes bytes ≡ take 2 is.part
word_of_part bytes parts block is some =
    let announced = announces parts.has_extension parts.block parts.other_block is.part block.0 block.1 some is.part_is in
    let front : List ℕ = is.fixed ++ concat is.groups in
    let split : bytes ≡ front ++ (is.part ++ parts.payload) = is.in_order ∙ sym (append_assoc is.fixed (concat is.groups) (is.part ++ parts.payload)) in
    let body_len : block_len parts.block ≡ 4 + length block.1 = ap block_len some in
    let words = announced.is_block.words in
    let long : length front ≡ 12 + 4 * length parts.sources =
    omega (
      arith,
      length-packet bytes parts is,
      body_len,
      announced.no_other,
      ap length split,
      length-append front (is.part ++ parts.payload),
      length-append is.part parts.payload,
      words,
      ap length announced.is_block.body_is,
      length-drop 4 is.part,
    ) in
    word_of bytes parts is
    ∙ ap (λ (b : List ℕ). take 2 (drop (12 + 4 * length parts.sources) b)) split
    ∙ ap (take 2) (drop_at front (is.part ++ parts.payload) (12 + 4 * length parts.sources) long)
    ∙ take-append-le 2 is.part parts.payload (omega (arith, words))

packet-same : (a b : List ℕ) (parts : PacketParts) → IsPacket a parts → IsPacket b parts → AreBytes a → AreBytes b
    → ((block : ExtensionsForm × List ℕ) → parts.block ≡ Some block → word_bytes a ≡ word_bytes b) → a ≡ b
packet-same a b parts p q all_a all_b word =
    let of_a : AreBytes (p.fixed ++ (concat p.groups ++ (p.part ++ parts.payload))) = subst AreBytes p.in_order all_a in
    let of_b : AreBytes (q.fixed ++ (concat q.groups ++ (q.part ++ parts.payload))) = subst AreBytes q.in_order all_b in
    let back_a = AreBytes-back p.fixed (concat p.groups ++ (p.part ++ parts.payload)) of_a in
    let back_b = AreBytes-back q.fixed (concat q.groups ++ (q.part ++ parts.payload)) of_b in
    let part_a = AreBytes-front p.part parts.payload (AreBytes-back (concat p.groups) (p.part ++ parts.payload) back_a) in
    let part_b = AreBytes-front q.part parts.payload (AreBytes-back (concat q.groups) (q.part ++ parts.payload) back_b) in
    let fixed : p.fixed ≡ q.fixed =
    fixed-same p.fixed q.fixed parts p.fixed_is q.fixed_is (AreBytes-front p.fixed (concat p.groups ++ (p.part ++ parts.payload)) of_a)
    (AreBytes-front q.fixed (concat q.groups ++ (q.part ++ parts.payload)) of_b) in
    let groups : p.groups ≡ q.groups =
    groups-same p.groups q.groups p.sources_are.of_four q.sources_are.of_four (sym p.sources_are.numbers_are ∙ q.sources_are.numbers_are)
    (AreBytes-front (concat p.groups) (p.part ++ parts.payload) back_a) (AreBytes-front (concat q.groups) (q.part ++ parts.payload) back_b) in
    let part : p.part ≡ q.part =
    part-same parts.has_extension parts.block parts.other_block p.part q.part part_a part_b p.part_is q.part_is
    (λ block some. sym (word_of_part a parts block p some) ∙ word block some ∙ word_of_part b parts block q some) in
    p.in_order
    ∙ ap (λ (f : List ℕ). f ++ (concat p.groups ++ (p.part ++ parts.payload))) fixed
    ∙ ap (λ (g : List (List ℕ)). q.fixed ++ (concat g ++ (p.part ++ parts.payload))) groups
    ∙ ap (λ (b : List ℕ). q.fixed ++ (concat q.groups ++ (b ++ parts.payload))) part
    ∙ sym q.in_order

-- ---- a header

one_form : (allowed block : Option ExtensionsForm) (news : List Element) (f g : Option ExtensionsForm) → IsFormAfter allowed block news f → IsFormAfter allowed block news g → f ≡ g
one_form allowed block [] f g p q = p ∙ sym q
one_form allowed block (new ∷ news) f g p q =
    one_form allowed (Some q.0) news f g (subst (λ (form : ExtensionsForm). IsFormAfter allowed (Some form) news f) (same_Some _ _ (sym p.1 ∙ q.1)) p.2) q.2

one_start : (allowed : Option ExtensionsForm) (ids : ℕ → Option ℕ) (block : Option (ExtensionsForm × List ℕ)) (elements : List Element) (f g : Option ExtensionsForm)
    → IsFormForIds allowed ids block elements f → IsFormForIds allowed ids block elements g → f ≡ g
one_start allowed ids block elements f g (own_form carried is) (own_form same other) = is ∙ sym other
one_start allowed ids block elements f g (own_form carried is) (two_byte_form not_carried is_allowed other) = absurd (not_carried carried)
one_start allowed ids block elements f g (two_byte_form not_carried is_allowed is) (own_form carried other) = absurd (not_carried carried)
one_start allowed ids block elements f g (two_byte_form not_carried is_allowed is) (two_byte_form same same_allowed other) = is ∙ sym other

one_word : (was : Option ExtensionsForm) (old : List ℕ) (form : Option ExtensionsForm) (a b : List ℕ) → KeepsWord was old form a → KeepsWord was old form b → (f : ExtensionsForm) → form ≡ Some f
    → word_bytes a ≡ word_bytes b
one_word None old form a b p q f is = p.new_word_is f is (λ same. none-some f same) ∙ sym (q.new_word_is f is (λ same. none-some f same))
one_word (Some was) old form a b p q f is = by_form (either_form was f)
  where
    by_form : (was ≡ f) ⊎ (was ≡ f → ⊥) → word_bytes a ≡ word_bytes b
    by_form (inl same) = p.word_is f is (ap Some same) ∙ sym (q.word_is f is (ap Some same))
    by_form (inr other) = p.new_word_is f is (λ same. other (same_Some _ _ same)) ∙ sym (q.new_word_is f is (λ same. other (same_Some _ _ same)))

has-form : (form : Option ExtensionsForm) (elements : List Element) (block : ExtensionsForm × List ℕ) → row_in form elements ≡ Some block → form ≡ Some block.0
has-form None elements block is = absurd (none-some block is)
has-form (Some form) elements block is = ap form_of_block is

-- two headers that are routed of one packet for one group have these in common, whatever the fields are
pub one-routing : (old : List ℕ) (f g : Fields) (ids : ℕ → Option ℕ) (news : List Element) (allowed : Option ExtensionsForm) (a b : List ℕ) (p : IsRouted old f ids news allowed a)
    (q : IsRouted old g ids news allowed b) → (q.parts ≡ p.parts) × (q.elements ≡ p.elements) × (q.form ≡ p.form)
one-routing old f g ids news allowed a b p q =
    let parts : q.parts ≡ p.parts = same_parts old q.parts p.parts q.was_packet p.was_packet in
    let elements : q.elements ≡ p.elements =
    same_elements p.parts.block q.elements p.elements (subst (λ (s : PacketParts). AreElementsOf s.block q.elements) parts q.were_elements) p.were_elements in
    let start : q.start ≡ p.start =
    one_start allowed ids p.parts.block p.elements q.start p.start
    (subst (λ (es : List Element). IsFormForIds allowed ids p.parts.block es q.start) elements
    (subst (λ (s : PacketParts). IsFormForIds allowed ids s.block q.elements q.start) parts q.start_is)) p.start_is in
    (parts, elements, one_form allowed p.start news q.form p.form (subst (λ (f : Option ExtensionsForm). IsFormAfter allowed f news q.form) start q.form_is) p.form_is)

pub one-header : (old : List ℕ) (fields : Fields) (ids : ℕ → Option ℕ) (news : List Element) (allowed : Option ExtensionsForm) (a b : List ℕ) → AreBytes a → AreBytes b
    → IsRouted old fields ids news allowed a → IsRouted old fields ids news allowed b → a ≡ b
one-header old fields ids news allowed a b all_a all_b p q =
    let one = one-routing old fields fields ids news allowed a b p q in
    let parts : q.parts ≡ p.parts = one.0 in
    let elements : q.elements ≡ p.elements = one.1 in
    let form : q.form ≡ p.form = one.2 in
    let is_b : IsPacket b (record (routed_parts fields ids news p.form p.elements p.parts) { payload = [] }) =
    subst (λ (f : Option ExtensionsForm). IsPacket b (record (routed_parts fields ids news f p.elements p.parts) { payload = [] })) form
    (subst (λ (es : List Element). IsPacket b (record (routed_parts fields ids news q.form es p.parts) { payload = [] })) elements
    (subst (λ (s : PacketParts). IsPacket b (record (routed_parts fields ids news q.form q.elements s) { payload = [] })) parts q.is_packet)) in
    let word_b : KeepsWord (form_of_block p.parts.block) old p.form b =
    subst (λ (f : Option ExtensionsForm). KeepsWord (form_of_block p.parts.block) old f b) form
    (subst (λ (s : PacketParts). KeepsWord (form_of_block s.block) old q.form b) parts q.word_is) in
    packet-same a b _ p.is_packet is_b all_a all_b
    (λ block some. one_word (form_of_block p.parts.block) old p.form a b p.word_is word_b block.0 (has-form p.form (routed_elements ids news p.elements) block some))
