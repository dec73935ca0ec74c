-- Bytes that begin with no header: they are no packet, or a packet whose block is of another form.
use Rattle.rtp_wire.proofs.Common.{◌≡◌, ℕ, ◌+◌, ◌*◌, ◌/◌, ◌%◌, ◌<◌, ◌≤◌, Bool, true, false, List, length, drop, Option, Some, None, refl, sym, ap, ◌∙◌, arith, inl, inr, length-drop, ◌⊎◌, ◌↔◌, IfSome, IsSome, slice_index, slice_range, is_some, option_map, not, ◌&&◌, if◌then◌else◌, false≢true, eq-eqb, cases_eq, cases_lt, none-some, bit, ExtensionsForm, NotAPacket, CutSources, CutBlockHeader, CutBlock, word_at, IsNoPacket, cut_fixed, other_version, cut_sources, cut_block, cut_words, HasUnknownForm, HasNoHeader, no_packet, unknown_form, sources_end, IsFirstCause, PacketParts, IsPacket, HasOtherForm}
use Rattle.std.specs.Bool.{then_some}
use Rattle.rtp_wire.specs.declared.header.not_a_header.NotAHeader as not_a_header
use Rattle.rtp_wire.specs.NoHeaderCause.{AppliesToHeader, header_place_of, IsFirstHeaderCause}
use Rattle.rtp_wire.specs.PartsAt.{has_block, form_of_word, form_in, profile_in, other_in, header_end, parts_at}
use Rattle.rtp_wire.proofs.AnyBlockLemmas.{is_some-other}
use Rattle.rtp_wire.proofs.HeaderFound.{HasHeader, IsWhole-header}
use Rattle.rtp_wire.proofs.NotAPacketLemmas.{IsNoPacket-applies, no_packet-refused}
use Rattle.rtp_wire.proofs.PartsLemmas.{some_there, none_there}
use Rattle.rtp_wire.proofs.PacketLemmas.{bit-is_set, no_form_of_word, IsNoFormWord-form_of_word, one_packet, IsWhole, IsPacket-whole, no_packet as not_a_packet}

-- ---- the block

-- a block of another form is there exactly where X is set and the word is that of neither form
other_is : (x : Bool) (form : Option ExtensionsForm) (word : ℕ) (body : List ℕ) (other : ℕ × List ℕ)
    → option_map (λ profile. (profile, body)) (if is_some (if x then form else None) then None else (if x then Some word else None)) ≡ Some other → (x ≡ true) × (form ≡ None)
other_is false form word body other is = absurd (none-some other is)
other_is true (Some form) word body other is = absurd (none-some other is)
other_is true None word body other is = (refl, refl)

pub HasUnknownForm-packet : (bytes : List ℕ) (parts : PacketParts) (other : ℕ × List ℕ) → IsPacket bytes parts → parts.other_block ≡ Some other → HasUnknownForm bytes
unfolding parts_at form_in profile_in other_in
HasUnknownForm-packet bytes parts other is some =
    let after = drop (sources_end bytes) bytes in
    let here = other_is (has_block bytes) (form_of_word (word_at after 0)) (word_at after 0) (slice_range bytes (sources_end bytes + 4) (header_end bytes)) other
    (ap (λ (p : PacketParts). p.other_block) (one_packet bytes parts is) ∙ some) in
    (sym (bit-is_set (slice_index bytes 0) 16) ∙ ap bit here.0, IsNoFormWord-form_of_word (word_at after 0) here.1)

other_block-unknown : (bytes : List ℕ) → HasUnknownForm bytes → (parts_at bytes).other_block ≡ Some (word_at (drop (sources_end bytes) bytes) 0, slice_range bytes (sources_end bytes + 4) (header_end bytes))
unfolding parts_at form_in profile_in other_in
other_block-unknown bytes unknown =
    let word = word_at (drop (sources_end bytes) bytes) 0 in
    let x : has_block bytes ≡ true = eq-eqb (slice_index bytes 0 / 16 % 2) 1 unknown.0 in
    rw (x, no_form_of_word word unknown.1) refl

-- ---- what is no header

module _ (bytes : List ℕ) (parts : PacketParts) (is : IsPacket bytes parts) (none : parts.other_block ≡ None) where
  known_form : HasUnknownForm bytes → ⊥
  known_form unknown = none-some _ (sym none ∙ ap (λ (p : PacketParts). p.other_block) (sym (one_packet bytes parts is)) ∙ other_block-unknown bytes unknown)

  pub header_there : HasNoHeader bytes → ⊥
  header_there (no_packet refused) = no_packet-refused bytes parts refused is
  header_there (unknown_form unknown) = known_form unknown

-- bytes that begin with an unknown form are a packet, unless they are cut short or of another version
unknown_form-parted : (bytes : List ℕ) → slice_index bytes 1 < 256 → HasUnknownForm bytes → IsNoPacket bytes ⊎ HasOtherForm bytes
unfolding header_end
unknown_form-parted bytes small unknown =
    let after = drop (sources_end bytes) bytes in
    let x : has_block bytes ≡ true = eq-eqb (slice_index bytes 0 / 16 % 2) 1 unknown.0 in
    elim (cases_lt (length bytes) 12) [
      | inl short ↦ inl (cut_fixed short)
      | inr long ↦ elim (cases_eq (slice_index bytes 0 / 64) 2) [
        | inr other ↦ inl (other_version other)
        | inl version ↦ elim (cases_lt (length bytes) (sources_end bytes)) [
          | inl short ↦ inl (cut_sources short)
          | inr room ↦ elim (cases_lt (length after) (4 + 4 * word_at after 2)) [
            | inl short ↦ inl (cut_block unknown.0 (cut_words short))
            | inr there ↦
                let ends : header_end bytes ≡ sources_end bytes + (4 + 4 * word_at after 2) = rw x refl in
                let whole : IsWhole bytes = record { fixed = long; version = version; within = omega (arith, ends, there, room, length-drop (sources_end bytes) bytes) } in
                inr (record { parts = parts_at bytes; is_packet = IsPacket-whole bytes small whole; other = (word_at after 0, slice_range bytes (sources_end bytes + 4) (header_end bytes)); other_is = other_block-unknown bytes unknown })
          ]
        ]
      ]
    ]

-- no header begins exactly where the bytes are no packet, or one whose block is of another form
pub HasNoHeader-parted : (bytes : List ℕ) → slice_index bytes 1 < 256 → HasNoHeader bytes ↔ (IsNoPacket bytes ⊎ HasOtherForm bytes)
HasNoHeader-parted bytes small = (parted, joined)
  where
    parted : HasNoHeader bytes → IsNoPacket bytes ⊎ HasOtherForm bytes
    parted (no_packet refused) = inl refused
    parted (unknown_form unknown) = unknown_form-parted bytes small unknown

    joined : IsNoPacket bytes ⊎ HasOtherForm bytes → HasNoHeader bytes
    joined (inl refused) = no_packet refused
    joined (inr found) = unknown_form (HasUnknownForm-packet bytes found.parts found.other found.is_packet found.other_is)

-- what `read` promises where the bytes are no packet, for their first cause
pub not_a_packet-read : (datagram : List ℕ) (first : NotAPacket) → IsFirstCause datagram first → record {
  found : Unit {0};
  only : (parts : PacketParts) → IsPacket datagram parts → ⊥;
  bytes : Unit {0};
  cause : IsFirstCause datagram first;
  refused : (true ≡ true → IsNoPacket datagram) × (IsNoPacket datagram → true ≡ true);
  header : Unit {0};
  none : (Unit {0} → HasNoHeader datagram) × (HasNoHeader datagram → Unit {0});
}
not_a_packet-read datagram first is = record {
  found = tt;
  only = λ parts. not_a_packet datagram first parts is.applies;
  bytes = tt;
  cause = is;
  refused = (λ _. IsNoPacket-applies datagram first is.applies, λ _. refl);
  header = tt;
  none = (λ _. no_packet (IsNoPacket-applies datagram first is.applies), λ _. tt);
}

-- what it promises of a packet, and whether a header begins it
module _ (datagram : List ℕ) (len : ℕ) (form : Option ExtensionsForm) (header : HasHeader datagram len form) (small : slice_index datagram 1 < 256) where
  packet_is : IsPacket datagram (parts_at datagram)
  packet_is = IsPacket-whole datagram small (IsWhole-header datagram len form header)

  -- where X is set there is another form exactly where none is known
  other_there : (known : Bool) → is_some form ≡ known → is_some (parts_at datagram).other_block ≡ (not known && has_block datagram)
  other_there known is = is_some-other datagram ∙ ap (λ (b : Bool). not b && has_block datagram) (ap is_some (sym header.announced) ∙ is)

  pub no_other : (known : Bool) → is_some form ≡ known → known ≡ true → (parts_at datagram).other_block ≡ None
  no_other known is set = none_there (parts_at datagram).other_block (other_there known is ∙ ap (λ (b : Bool). not b && has_block datagram) set)

  pub other : slice_index datagram 0 / 16 % 2 ≡ 1 → (known : Bool) → is_some form ≡ known → known ≡ false → is_some (parts_at datagram).other_block ≡ true
  other x known is unknown = other_there known is ∙ ap (λ (b : Bool). not b && has_block datagram) unknown ∙ eq-eqb (slice_index datagram 0 / 16 % 2) 1 x

  begins : (known : Bool) → (known ≡ true → (parts_at datagram).other_block ≡ None) → (known ≡ false → is_some (parts_at datagram).other_block ≡ true)
      → (known ≡ false → HasNoHeader datagram) × (HasNoHeader datagram → known ≡ false)
  begins true none some = (λ wrong. absurd (false≢true (sym wrong)), λ not. absurd (header_there datagram (parts_at datagram) packet_is (none refl) not))
  begins false none some =
      let other = some_there (parts_at datagram).other_block (some refl) in
      (λ _. unknown_form (HasUnknownForm-packet datagram (parts_at datagram) other.0 packet_is other.1), λ _. refl)

  pub packet-read : (known : Bool) → (known ≡ true → (parts_at datagram).other_block ≡ None) → (known ≡ false → is_some (parts_at datagram).other_block ≡ true) → record {
    found : IsPacket datagram (parts_at datagram);
    only : (parts : PacketParts) → IsPacket datagram parts → parts_at datagram ≡ parts;
    bytes : datagram ≡ datagram;
    cause : Unit {0};
    refused : (false ≡ true → IsNoPacket datagram) × (IsNoPacket datagram → false ≡ true);
    header : known ≡ true → (parts_at datagram).other_block ≡ None;
    none : (known ≡ false → HasNoHeader datagram) × (HasNoHeader datagram → known ≡ false);
  }
  packet-read known none some = record {
    found = packet_is;
    only = λ parts is. one_packet datagram parts is;
    bytes = refl;
    cause = tt;
    refused = (λ wrong. absurd (false≢true wrong), λ no. absurd (no_packet-refused datagram (parts_at datagram) no packet_is));
    header = none;
    none = begins known none some;
  }

-- ---- the first cause

pub IsFirstHeaderCause-other_form : (bytes : List ℕ) (parts : PacketParts) (other : ℕ × List ℕ) → IsPacket bytes parts → parts.other_block ≡ Some other
    → IsFirstHeaderCause bytes not_a_header.TheVariants.UnknownForm
IsFirstHeaderCause-other_form bytes parts other is some = record { applies = HasUnknownForm-packet bytes parts other is some; none_before = none_before }
  where
    none_before : (earlier : not_a_header.NotAHeader) → header_place_of earlier < 4 → AppliesToHeader bytes earlier → ⊥
    none_before (not_a_header.TheVariants.NotAPacket cause) before applies = not_a_packet bytes cause parts applies is
    none_before not_a_header.TheVariants.UnknownForm before applies = omega arith

-- the first four bytes of a block whose words are cut short are there
pub block_header-there : (bytes : List ℕ) → IsFirstCause bytes CutBlock → sources_end bytes + 4 ≤ length bytes
block_header-there bytes first = elim (cases_lt (length bytes) (sources_end bytes)) [
  | inl short ↦ absurd (first.none_before CutSources (omega arith) short)
  | inr room ↦ elim (cases_lt (length (drop (sources_end bytes) bytes)) 4) [
    | inl short ↦ absurd (first.none_before CutBlockHeader (omega arith) (first.applies.0, short))
    | inr long ↦ omega (arith, long, room, length-drop (sources_end bytes) bytes)
  ]
]

-- what is told of a packet: nothing, or that its form is unknown
pub told_of_packet : (bytes : List ℕ) (parts : PacketParts) (test : Bool) (told : Option not_a_header.NotAHeader) → IsPacket bytes parts → test ≡ is_some parts.other_block
    → told ≡ then_some test not_a_header.TheVariants.UnknownForm → IfSome told (IsFirstHeaderCause bytes) × (IsSome told ↔ HasNoHeader bytes)
told_of_packet bytes parts false told is test-is told-is =
    rw told-is (tt, (λ some. absurd (false≢true some), λ none. absurd (header_there bytes parts is (none_there parts.other_block (sym test-is)) none)))
told_of_packet bytes parts true told is test-is told-is =
    let other = some_there parts.other_block (sym test-is) in
    rw told-is (IsFirstHeaderCause-other_form bytes parts other.0 is other.1, (λ _. unknown_form (HasUnknownForm-packet bytes parts other.0 is other.1), λ _. refl))
