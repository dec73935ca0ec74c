-- Every list of bytes is a packet with exactly one set of parts or, for a cause, with none.
use Rattle.rtp_wire.proofs.Common.{◌≡◌, ℕ, ◌+◌, ◌-◌, ◌*◌, ◌/◌, ◌%◌, ◌<◌, ◌≤◌, Bool, true, false, List, ◌++◌, length, map, take, drop, Option, Some, None, refl, sym, ap, ◌∙◌, subst, arith, inl, inr, length-append, length-drop, length-take-le, take_at, drop_at, slice_index, slice_range, is_some, option_map, if◌then◌else◌, concat, w16, w32, from_be_bytes, first_chunks, false≢true, eq-eqb, ne_eqb, le-leb, lt-leb, cases_lt, cases_eq, take-append-drop, drop-drop, drop-take, get_or-take, length-map, none-some, same_Some, ExtensionsForm, OneByte, TwoByte, IsFormWord, bit, word_at, IsNoFormWord, sources_end, NotAPacket, CutFixedPart, OtherVersion, CutSources, CutBlockHeader, CutBlock, Applies, PacketParts, IsFirstByte, IsSecondByte, IsAnnouncedBlock, IsPacket}
use Rattle.rtp_wire.specs.PartsAt.{is_set, form_of_word, has_block, form_in, profile_in, other_in, header_end, parts_at}
use Rattle.rtp_wire.proofs.FlagLemmas.{bit-once, HasFlags, flags_from_first, fields_from_second}
use Rattle.rtp_wire.proofs.GroupLemmas.{concat-first_chunks, length-first_chunks, AreFours-first_chunks, length-concat, first_chunks-concat}
use Rattle.rtp_wire.proofs.BlockLemmas.{slice_range-take, word_at-take}

bit-small : (flag : Bool) → bit flag < 2
bit-small false = omega arith
bit-small true = omega arith

-- a bit that is set by this test
pub bit-is_set : (byte worth : ℕ) → bit (is_set byte worth) ≡ byte / worth % 2
bit-is_set byte worth = elim (cases_eq (byte / worth % 2) 1) [
  | inl set ↦ rw (eq-eqb (byte / worth % 2) 1 set) (sym set)
  | inr clear ↦ rw (ne_eqb (byte / worth % 2) 1 clear) (omega arith)
]

-- the form of a word is the one that the word announces
pub form_of_word-is : (word : ℕ) (form : ExtensionsForm) → IsFormWord word form → form_of_word word ≡ Some form
form_of_word-is word OneByte is = rw (eq-eqb word 0xBEDE is) refl
form_of_word-is word TwoByte is = rw (ne_eqb word 0xBEDE (λ e. absurd (omega (arith, is.0, is.1))), le-leb 0x1000 word is.0, le-leb word 0x100F is.1) refl

pub IsFormWord-form_of_word : (word : ℕ) (form : ExtensionsForm) → form_of_word word ≡ Some form → IsFormWord word form
IsFormWord-form_of_word word form is = elim (cases_eq word 0xBEDE) [
  | inl one ↦ let same : OneByte ≡ form = same_Some _ _ (sym (form_of_word-is word OneByte one) ∙ is) in subst (IsFormWord word) same one
  | inr other ↦ elim (cases_lt word 0x1000) [
    | inl low ↦ let none : form_of_word word ≡ None = rw (ne_eqb word 0xBEDE other, lt-leb 0x1000 word low) refl in absurd (none-some form (sym none ∙ is))
    | inr above ↦ elim (cases_lt 0x100F word) [
      | inl high ↦ let none : form_of_word word ≡ None = rw (ne_eqb word 0xBEDE other, le-leb 0x1000 word above, lt-leb word 0x100F high) refl in absurd (none-some form (sym none ∙ is))
      | inr below ↦ let same : TwoByte ≡ form = same_Some _ _ (sym (form_of_word-is word TwoByte (above, below)) ∙ is) in subst (IsFormWord word) same (above, below)
    ]
  ]
]

-- a word of neither form announces none
form_of_word-none : (word : ℕ) (found : Option ExtensionsForm) → form_of_word word ≡ found → IsNoFormWord word → form_of_word word ≡ None
form_of_word-none word None is other = is
form_of_word-none word (Some form) is other = absurd (other form (IsFormWord-form_of_word word form is))

pub no_form_of_word : (word : ℕ) → IsNoFormWord word → form_of_word word ≡ None
no_form_of_word word other = form_of_word-none word (form_of_word word) refl other

pub IsNoFormWord-form_of_word : (word : ℕ) → form_of_word word ≡ None → IsNoFormWord word
IsNoFormWord-form_of_word word none = λ form is. none-some form (sym none ∙ form_of_word-is word form is)

-- how many bytes X announces, of what form, and with what word of another one, where these bytes follow the sources
abbrev announced_len : Bool → List ℕ → ℕ
announced_len x after = if x then 4 + 4 * word_at after 2 else 0

abbrev announced_form : Bool → List ℕ → Option ExtensionsForm
announced_form x after = if x then form_of_word (word_at after 0) else None

abbrev announced_other : Bool → Option ExtensionsForm → List ℕ → Option ℕ
announced_other x form after = if is_some form then None else (if x then Some (word_at after 0) else None)

-- what is announced at the front is a block of the form that its word announces, or of another one
IsAnnouncedBlock-at : (x : Bool) (form : Option ExtensionsForm) (after body : List ℕ) (n : ℕ) → form ≡ announced_form x after → n ≡ announced_len x after
    → n ≤ length after → (4 ≤ n → body ≡ drop 4 (take n after))
    → IsAnnouncedBlock x (option_map (λ f. (f, body)) form) (option_map (λ profile. (profile, body)) (announced_other x form after)) (take n after)
IsAnnouncedBlock-at false None after body n form-is n-is fits body-is = rw n-is refl
IsAnnouncedBlock-at false (Some form) after body n form-is n-is fits body-is = absurd cc
IsAnnouncedBlock-at true None after body n form-is n-is fits body-is = (
  refl,
  refl,
  record {
    profile_is = sym (word_at-take after 0 n (omega arith));
    no_form = IsNoFormWord-form_of_word (word_at after 0) (sym form-is);
    words = rw (word_at-take after 2 n (omega arith)) (length-take-le n after fits ∙ n-is);
    body_is = body-is (omega arith);
  },
)
IsAnnouncedBlock-at true (Some form) after body n form-is n-is fits body-is = record {
  form_is = rw (word_at-take after 0 n (omega arith)) (IsFormWord-form_of_word (word_at after 0) form (sym form-is));
  words = rw (word_at-take after 2 n (omega arith)) (length-take-le n after fits ∙ n-is);
  body_is = body-is (omega arith);
}

-- a block that is at the front is what is announced there
record IsTheAnnounced (x : Bool) (block : Option (ExtensionsForm × List ℕ)) (other : Option (ℕ × List ℕ)) (part after : List ℕ) : Type 0 where
  pub len_is : length part ≡ announced_len x after
  pub block_is : (body : List ℕ) → (4 ≤ length part → body ≡ drop 4 part) → block ≡ option_map (λ form. (form, body)) (announced_form x after)
  pub other_is : (body : List ℕ) → (4 ≤ length part → body ≡ drop 4 part) → other ≡ option_map (λ profile. (profile, body)) (announced_other x (announced_form x after) after)

-- a word at the front
word-front : (part after payload : List ℕ) (offset : ℕ) → after ≡ part ++ payload → offset + 2 ≤ length part → word_at part offset ≡ word_at after offset
word-front part after payload offset in_order within =
    let front : take (length part) after ≡ part = ap (take (length part)) in_order ∙ take_at part payload (length part) refl in
    ap (λ (xs : List ℕ). word_at xs offset) (sym front) ∙ word_at-take after offset (length part) within

the_announced : (x : Bool) (block : Option (ExtensionsForm × List ℕ)) (other : Option (ℕ × List ℕ)) (part after payload : List ℕ) → after ≡ part ++ payload
    → IsAnnouncedBlock x block other part → IsTheAnnounced x block other part after
the_announced false None None part after payload in_order is = record { len_is = ap length is; block_is = λ body body-is. refl; other_is = λ body body-is. refl }
the_announced false (Some block) None part after payload in_order is = absurd is
the_announced false block (Some other) part after payload in_order is = absurd (false≢true is.0)
the_announced true None None part after payload in_order is = absurd is
the_announced true (Some block) (Some other) part after payload in_order is = absurd (none-some block (sym is.1))
the_announced true None (Some (profile, body)) part after payload in_order is =
    let words : length part ≡ 4 + 4 * word_at part 2 = is.2.words in
    let word : word_at part 0 ≡ word_at after 0 = word-front part after payload 0 in_order (omega arith) in
    let none : form_of_word (word_at after 0) ≡ None = no_form_of_word (word_at after 0) (subst IsNoFormWord (is.2.profile_is ∙ word) is.2.no_form) in record {
      len_is = words ∙ ap (λ (w : ℕ). 4 + 4 * w) (word-front part after payload 2 in_order (omega arith));
      block_is = λ other other-is. rw none refl;
      other_is = λ other other-is. rw none
          (ap (λ (p : ℕ). Some (p, body)) (is.2.profile_is ∙ word) ∙ ap (λ (b : List ℕ). Some (word_at after 0, b)) (is.2.body_is ∙ sym (other-is (omega arith))));
    }
the_announced true (Some (form, body)) None part after payload in_order is =
    let words : length part ≡ 4 + 4 * word_at part 2 = is.words in
    let word : (offset : ℕ) → offset + 2 ≤ length part → word_at part offset ≡ word_at after offset =
    λ offset within. word-front part after payload offset in_order within in
    let form-is : form_of_word (word_at after 0) ≡ Some form =
    form_of_word-is (word_at after 0) form (subst (λ (w : ℕ). IsFormWord w form) (word 0 (omega arith)) is.form_is) in record {
      len_is = words ∙ ap (λ (w : ℕ). 4 + 4 * w) (word 2 (omega arith));
      block_is = λ other other-is. rw form-is (ap (λ (b : List ℕ). Some (form, b)) (is.body_is ∙ sym (other-is (omega arith))));
      other_is = λ other other-is. rw form-is refl;
    }

-- what a datagram that holds a packet has at its offsets
pub record IsWhole (bytes : List ℕ) : Type 0 where
  pub fixed : 12 ≤ length bytes
  pub version : slice_index bytes 0 / 64 ≡ 2
  pub within : header_end bytes ≤ length bytes

-- the body of a block, by its offsets and in the block
body-at : (bytes : List ℕ) (start n : ℕ) → 4 ≤ n → slice_range bytes (start + 4) (start + n) ≡ drop 4 (take n (drop start bytes))
body-at bytes start n long =
    let inner : n ≡ 4 + (n - 4) = omega arith in
    let outer : start + n - (start + 4) ≡ n - 4 = omega arith in
    ap (λ (k : ℕ). take k (drop (start + 4) bytes)) outer
    ∙ ap (take (n - 4)) (sym (drop-drop 4 start bytes))
    ∙ sym (drop-take 4 (n - 4) (drop start bytes))
    ∙ ap (λ (k : ℕ). drop 4 (take k (drop start bytes))) (sym inner)

-- the flags of a first byte of version 2
IsFirstByte-at : (byte : ℕ) → byte / 64 ≡ 2 → IsFirstByte byte (is_set byte 32) (is_set byte 16) (byte % 16)
IsFirstByte-at byte version = record { sum = rw (bit-is_set byte 32, bit-is_set byte 16) (omega arith); few = omega arith }

IsSecondByte-at : (byte : ℕ) → byte < 256 → IsSecondByte byte (is_set byte 128) (byte % 128)
IsSecondByte-at byte fits = record { sum = rw (bit-is_set byte 128) (omega arith); few = omega arith }

-- the parts at their offsets are those of a packet
pub IsPacket-whole : (bytes : List ℕ) → slice_index bytes 1 < 256 → IsWhole bytes → IsPacket bytes (parts_at bytes)
unfolding parts_at header_end form_in profile_in other_in
IsPacket-whole bytes second-fits whole =
    let count = slice_index bytes 0 % 16 in
    let start = sources_end bytes in
    let after = drop start bytes in
    let n = announced_len (has_block bytes) after in
    let groups = first_chunks 4 count (drop 12 bytes) in
    let fixed = whole.fixed in
    let within : start + n ≤ length bytes = whole.within in
    let after-is : drop (4 * count) (drop 12 bytes) ≡ after = drop-drop (4 * count) 12 bytes in
    let number : length (map (from_be_bytes w32) groups) ≡ count = length-map groups (from_be_bytes w32) ∙ length-first_chunks count (drop 12 bytes) in
    record {
      fixed = take 12 bytes;
      groups = groups;
      part = take n after;
      in_order =
          sym (take-append-drop 12 bytes)
          ∙ ap (λ (ys : List ℕ). take 12 bytes ++ ys)
          (sym (take-append-drop (4 * count) (drop 12 bytes))
          ∙ ap (λ (ys : List ℕ). ys ++ drop (4 * count) (drop 12 bytes)) (sym (concat-first_chunks count (drop 12 bytes)))
          ∙ ap (λ (ys : List ℕ). concat groups ++ ys)
          (after-is ∙ sym (take-append-drop n after) ∙ ap (λ (ys : List ℕ). take n after ++ ys) (drop-drop n start bytes)));
      fixed_is = record {
        twelve = length-take-le 12 bytes fixed;
        first_is = rw (get_or-take 12 bytes 0 0 (omega arith), number) (IsFirstByte-at (slice_index bytes 0) whole.version);
        second_is = rw (get_or-take 12 bytes 1 0 (omega arith)) (IsSecondByte-at (slice_index bytes 1) second-fits);
        number_is = ap (from_be_bytes w16) (sym (slice_range-take bytes 2 4 12 (omega arith) (omega arith)));
        timestamp_is = ap (from_be_bytes w32) (sym (slice_range-take bytes 4 8 12 (omega arith) (omega arith)));
        ssrc_is = ap (from_be_bytes w32) (sym (slice_range-take bytes 8 12 12 (omega arith) (omega arith)));
      };
      sources_are = record {
        of_four = AreFours-first_chunks count (drop 12 bytes) (omega (arith, length-drop 12 bytes));
        numbers_are = refl;
      };
      part_is = IsAnnouncedBlock-at (has_block bytes) (form_in bytes) after (slice_range bytes (start + 4) (header_end bytes)) n refl refl
          (omega (arith, length-drop start bytes)) (body-at bytes start n);
    }

-- packets by their parts
unfoldable all_parts : Bool → Bool → Bool → ℕ → ℕ → ℕ → ℕ → List ℕ → Option (ExtensionsForm × List ℕ) → Option (ℕ × List ℕ) → List ℕ → PacketParts
all_parts padding extension marker payload_type number timestamp ssrc sources block other payload = record { has_padding = padding; has_extension = extension; marker = marker; payload_type = payload_type; sequence_number = number; timestamp = timestamp; ssrc = ssrc; sources = sources; block = block; other_block = other; payload = payload }

-- parts with the same fields are one
pub same_parts : (p q : PacketParts) → p.has_padding ≡ q.has_padding → p.has_extension ≡ q.has_extension → p.marker ≡ q.marker → p.payload_type ≡ q.payload_type
    → p.sequence_number ≡ q.sequence_number → p.timestamp ≡ q.timestamp → p.ssrc ≡ q.ssrc → p.sources ≡ q.sources → p.block ≡ q.block
    → p.other_block ≡ q.other_block → p.payload ≡ q.payload → p ≡ q
unfolding all_parts
same_parts p q padding extension marker payload_type number timestamp ssrc sources block other payload =
    let fields : all_parts p.has_padding p.has_extension p.marker p.payload_type p.sequence_number p.timestamp p.ssrc p.sources p.block p.other_block p.payload ≡ all_parts q.has_padding q.has_extension q.marker q.payload_type q.sequence_number q.timestamp q.ssrc q.sources q.block q.other_block q.payload = cc in
    fields

-- a packet's bytes are whole, and its parts are those at their offsets
pub whole_and_parts : (bytes : List ℕ) (parts : PacketParts) → IsPacket bytes parts → IsWhole bytes × (parts ≡ parts_at bytes)
unfolding parts_at header_end form_in profile_in other_in
whole_and_parts bytes parts is =
    let after-fixed = concat is.groups ++ (is.part ++ parts.payload) in
    let fixed : take 12 bytes ≡ is.fixed = ap (take 12) is.in_order ∙ take_at is.fixed after-fixed 12 is.fixed_is.twelve in
    let rest : drop 12 bytes ≡ after-fixed = ap (drop 12) is.in_order ∙ drop_at is.fixed after-fixed 12 is.fixed_is.twelve in
    let cell : (i : ℕ) → i < 12 → slice_index is.fixed i ≡ slice_index bytes i =
    λ i within. ap (λ (xs : List ℕ). slice_index xs i) (sym fixed) ∙ get_or-take 12 bytes i 0 within in
    let range : (a b : ℕ) → a ≤ b → b ≤ 12 → slice_range is.fixed a b ≡ slice_range bytes a b =
    λ a b le within. ap (λ (xs : List ℕ). slice_range xs a b) (sym fixed) ∙ slice_range-take bytes a b 12 le within in
    let flags = subst (λ (byte : ℕ). HasFlags byte parts.has_padding parts.has_extension (length parts.sources)) (cell 0 (omega arith))
    (flags_from_first _ parts.has_padding parts.has_extension (length parts.sources) is.fixed_is.first_is) in
    let second = fields_from_second _ parts.marker parts.payload_type is.fixed_is.second_is in
    let count = length parts.sources in
    let number : length is.groups ≡ count = sym (ap length is.sources_are.numbers_are ∙ length-map is.groups (from_be_bytes w32)) in
    let groups : first_chunks 4 count (drop 12 bytes) ≡ is.groups =
    ap (λ (k : ℕ). first_chunks 4 k (drop 12 bytes)) (sym number)
    ∙ ap (first_chunks 4 (length is.groups)) rest ∙ first_chunks-concat is.groups (is.part ++ parts.payload) is.sources_are.of_four in
    let len : length (concat is.groups) ≡ 4 * count = length-concat is.groups is.sources_are.of_four ∙ ap (λ (k : ℕ). 4 * k) number in
    let start : 12 + 4 * count ≡ sources_end bytes = ap (λ (k : ℕ). 12 + 4 * k) flags.count_is in
    let after : drop (sources_end bytes) bytes ≡ is.part ++ parts.payload =
    ap (λ (k : ℕ). drop k bytes) (sym start) ∙ sym (drop-drop (4 * count) 12 bytes) ∙ ap (drop (4 * count)) rest ∙ drop_at (concat is.groups) (is.part ++ parts.payload) (4 * count) len in
    let extension : parts.has_extension ≡ has_block bytes = bit-once parts.has_extension (has_block bytes) (flags.extension_is ∙ sym (bit-is_set (slice_index bytes 0) 16)) in
    let announced = subst (λ (x : Bool). IsTheAnnounced x parts.block parts.other_block is.part (drop (sources_end bytes) bytes)) extension
    (the_announced parts.has_extension parts.block parts.other_block is.part (drop (sources_end bytes) bytes) parts.payload after is.part_is) in
    let end : header_end bytes ≡ sources_end bytes + length is.part = ap (λ (k : ℕ). sources_end bytes + k) (sym announced.len_is) in
    let total : length bytes ≡ 12 + (4 * count + (length is.part + length parts.payload)) =
    ap length is.in_order ∙ omega (arith, length-append is.fixed after-fixed, length-append (concat is.groups) (is.part ++ parts.payload), length-append is.part parts.payload, len, is.fixed_is.twelve) in
    let front : take (length is.part) (drop (sources_end bytes) bytes) ≡ is.part = ap (take (length is.part)) after ∙ take_at is.part parts.payload (length is.part) refl in
    let body : 4 ≤ length is.part → slice_range bytes (sources_end bytes + 4) (header_end bytes) ≡ drop 4 is.part =
    λ long. ap (slice_range bytes (sources_end bytes + 4)) end ∙ body-at bytes (sources_end bytes) (length is.part) long ∙ ap (drop 4) front in
    let payload : parts.payload ≡ drop (header_end bytes) bytes =
    sym (drop_at is.part parts.payload (length is.part) refl) ∙ ap (drop (length is.part)) (sym after) ∙ drop-drop (length is.part) (sources_end bytes) bytes
    ∙ ap (λ (k : ℕ). drop k bytes) (sym end) in (
      record { fixed = omega arith; version = flags.version_is; within = omega arith },
      same_parts parts (parts_at bytes)
          (bit-once parts.has_padding (is_set (slice_index bytes 0) 32) (flags.padding_is ∙ sym (bit-is_set (slice_index bytes 0) 32)))
          extension
          (bit-once parts.marker (is_set (slice_index bytes 1) 128) (omega (arith, second.0, bit-small parts.marker, bit-is_set (slice_index bytes 1) 128, cell 1 (omega arith))))
          (second.1 ∙ ap (λ (byte : ℕ). byte % 128) (cell 1 (omega arith)))
          (is.fixed_is.number_is ∙ ap (from_be_bytes w16) (range 2 4 (omega arith) (omega arith)))
          (is.fixed_is.timestamp_is ∙ ap (from_be_bytes w32) (range 4 8 (omega arith) (omega arith)))
          (is.fixed_is.ssrc_is ∙ ap (from_be_bytes w32) (range 8 12 (omega arith) (omega arith)))
          (is.sources_are.numbers_are ∙ ap (map (from_be_bytes w32)) (sym groups) ∙ ap (λ (k : ℕ). map (from_be_bytes w32) (first_chunks 4 k (drop 12 bytes))) flags.count_is)
          (announced.block_is (slice_range bytes (sources_end bytes + 4) (header_end bytes)) body)
          (announced.other_is (slice_range bytes (sources_end bytes + 4) (header_end bytes)) body)
          payload,
    )

-- no cause applies to bytes that are whole
refuses : (bytes : List ℕ) (cause : NotAPacket) → IsWhole bytes → Applies bytes cause → ⊥
unfolding header_end
refuses bytes CutFixedPart whole short = let fixed = whole.fixed in omega arith
refuses bytes OtherVersion whole other = other whole.version
refuses bytes CutSources whole short = let within = whole.within in omega arith
refuses bytes CutBlockHeader whole short =
    let x : has_block bytes ≡ true = eq-eqb (slice_index bytes 0 / 16 % 2) 1 short.0 in
    let within = rw x at whole.within in
    omega (arith, short.1, length-drop (sources_end bytes) bytes)
refuses bytes CutBlock whole short =
    let x : has_block bytes ≡ true = eq-eqb (slice_index bytes 0 / 16 % 2) 1 short.0 in
    let within = rw x at whole.within in
    omega (arith, short.1, length-drop (sources_end bytes) bytes)

-- bytes are a packet of one set of parts at most
pub one_packet : (bytes : List ℕ) (parts : PacketParts) → IsPacket bytes parts → parts_at bytes ≡ parts
one_packet bytes parts is = sym (whole_and_parts bytes parts is).1

-- bytes to which a cause applies are no packet
pub no_packet : (bytes : List ℕ) (cause : NotAPacket) (parts : PacketParts) → Applies bytes cause → IsPacket bytes parts → ⊥
no_packet bytes cause parts applies is = refuses bytes cause (whole_and_parts bytes parts is).0 applies
