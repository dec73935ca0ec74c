-- What is known of a packet into which an element is put, and of what it becomes.
use Rattle.std.proofs.Common.{◌≡◌, ℕ, ◌+◌, ◌-◌, ◌*◌, ◌%◌, ◌<◌, ◌≤◌, Bool, true, false, List, length, drop, Option, Some, None, refl, sym, ap, subst, ◌∙◌, arith, length-take, []}
use Rattle.std.specs.Prelude.{is_some, slice_index, slice_range, option_map, if◌then◌else◌, ◌↔◌, IsTrue}
use Rattle.std.specs.Option.{option_eq}
use Rattle.std.specs.Borrow.{Bor}
use Rattle.std.proofs.lemmas.Bool.{false≢true}
use denote.Enum.Bare.{sameb}
use Rattle.rtp_ext.specs.contracts.form.ExtensionsForm.{the_type}
use Rattle.std.proofs.lemmas.List.{get_or-drop}
use Rattle.std.proofs.lemmas.Option.{none-some, same_Some}
use Rattle.rtp_ext.specs.declared.form.ExtensionsForm.{ExtensionsForm}
use Rattle.rtp_ext.specs.declared.form.ExtensionsForm.TheVariants.{OneByte, TwoByte}
use Rattle.rtp_ext.specs.Elements.{Element, AreElements, ended}
use Rattle.rtp_ext.specs.declared.survey.Survey.{Survey}
use Rattle.rtp_ext.specs.BodySurvey.{IsSurvey}
use Rattle.rtp_ext.specs.WrittenBlock.{whole_words}
use Rattle.rtp_ext.specs.ElementsInARow.{IsWritable, serves_one_byte}
use Rattle.rtp_ext.specs.PutElement.{needed_form, allowed_form}
use Rattle.rtp_ext.proofs.LastPlaceLemmas.{AreElements-same}
use Rattle.rtp_wire.specs.declared.packet.rtp_packet.RtpPacket.{RtpPacket}
use Rattle.rtp_wire.specs.declared.packet.not_put.NotPut.{NotPut}
use Rattle.rtp_wire.specs.declared.packet.not_put.NotPut.TheVariants.{OtherForm, LongId, OneByteOnly}
use Rattle.rtp_wire.specs.Block.{word_at}
use Rattle.rtp_wire.specs.NotAHeader.{sources_end}
use Rattle.rtp_wire.specs.PartsAt.{has_block, header_end, parts_at}
use Rattle.rtp_wire.specs.PartsOf.{parts_of}
use Rattle.rtp_wire.proofs.BlockLemmas.{word_at-cells}
use Rattle.rtp_wire.proofs.HeaderFound.{HasHeader-packet}
use Rattle.rtp_wire.proofs.PacketLemmas.{one_packet}
use Rattle.rtp_wire.proofs.PartsLemmas.{block-header, no_other_form, some_there, IsPacket-found}
use Rattle.rtp_wire.specs.Packet.{PacketParts, IsPacket}
use Rattle.rtp_wire.specs.PacketElements.{AreElementsOf}
use Rattle.rtp_wire.specs.PutIntoPacket.{form_of_block, body_of_block, IsLongId, IsFirstNotPut, put_place}
use Rattle.rtp_wire.specs.RewrittenBlock.{IsFormOfBody, IsPlan, StopsForm}
use Rattle.rtp_wire.specs.declared.packet.rewriting.Plan.{Plan}
use Rattle.std.specs.List.{AllByRecursion}
use Rattle.rtp_ext.specs.PutElement.{without}
use Rattle.rtp_ext.proofs.AnewLemmas.{writable_without, AreElements-each}
use Rattle.rtp_ext.proofs.NarrowLemmas.{wide_each}
use Rattle.rtp_ext.proofs.ServingFormLemmas.{IsWritable-one}

-- the elements of a block are those of its body, and there are none without one
pub body-elements : (block : Option (ExtensionsForm × List ℕ)) (elements : List Element) (new_form form : ExtensionsForm) → IsFormOfBody block new_form form
    → AreElementsOf block elements → AreElements form (body_of_block block) elements
body-elements None elements new_form form is are =
    subst (AreElements form []) (sym are) (record { pieces = []; tail = []; are_pieces = tt; is_tail = ended refl; body_is = refl; elements_are = refl })
body-elements (Some block) elements new_form form is are = subst (λ (f : ExtensionsForm). AreElements f block.1 elements) (sym is) are

-- a length that is rounded up to whole words
pub whole-words : (n : ℕ) → (whole_words n % 4 ≡ 0) × (n ≤ whole_words n)
whole-words n = (omega arith, omega arith)

-- ---- what is found in a packet

elements-nothing : (form : ExtensionsForm) (elements : List Element) → AreElements form [] elements → elements ≡ []
elements-nothing form elements are =
    AreElements-same form [] elements [] are (record { pieces = []; tail = []; are_pieces = tt; is_tail = ended refl; body_is = refl; elements_are = refl })

pub block-elements : (block : Option (ExtensionsForm × List ℕ)) (elements : List Element) (new_form form : ExtensionsForm) → IsFormOfBody block new_form form
    → AreElements form (body_of_block block) elements → AreElementsOf block elements
block-elements None elements new_form form is are = elements-nothing form elements are
block-elements (Some block) elements new_form form is are = subst (λ (f : ExtensionsForm). AreElements f block.1 elements) is are

-- what is found of the block that a packet lends, or of none: its form, how many bytes its body has, and what that has of an id
abbrev pub IsFound : Option (ExtensionsForm × List ℕ) → ExtensionsForm → ℕ → ExtensionsForm × ℕ × Survey → Type 0
IsFound block new_form id found = (found.1 ≡ length (body_of_block block)) × IsFormOfBody block new_form found.0 × IsSurvey found.0 (body_of_block block) id found.2

pub found-some : (block : Option (ExtensionsForm × Bor (List ℕ))) (was : Option (ExtensionsForm × List ℕ)) (new_form : ExtensionsForm) (id : ℕ) (form : ExtensionsForm) (body : Bor (List ℕ)) (survey : Survey)
    → option_map (λ b. (b.0, b.1.now)) block ≡ was → block ≡ Some (form, body) → IsSurvey form body.now id survey → IsFound was new_form id (form, length body.now, survey)
found-some block was new_form id form body survey was-is is surveyed =
    subst (λ (w : Option (ExtensionsForm × List ℕ)). IsFound w new_form id (form, length body.now, survey)) (sym (ap (option_map (λ b. (b.0, b.1.now))) is) ∙ was-is) (refl, refl, surveyed)

pub found-none : (block : Option (ExtensionsForm × Bor (List ℕ))) (was : Option (ExtensionsForm × List ℕ)) (new_form : ExtensionsForm) (id : ℕ) (survey : Survey)
    → option_map (λ b. (b.0, b.1.now)) block ≡ was → block ≡ None → IsSurvey new_form [] id survey → IsFound was new_form id (new_form, 0, survey)
found-none block was new_form id survey was-is is surveyed =
    subst (λ (w : Option (ExtensionsForm × List ℕ)). IsFound w new_form id (new_form, 0, survey)) (sym (ap (option_map (λ b. (b.0, b.1.now))) is) ∙ was-is) (refl, refl, surveyed)

-- a body has at most 65,535 words
short-part : (form : Option ExtensionsForm) (body : List ℕ) (n : ℕ) → length body ≤ n → length (body_of_block (option_map (λ f. (f, body)) form)) ≤ n
short-part None body n few = omega arith
short-part (Some form) body n few = few

short-if : (b : Bool) (k n : ℕ) → k ≤ n → (if b then k else 0) ≤ n
short-if false k n few = omega arith
short-if true k n few = few

pub short-body : (packet : RtpPacket) → length (body_of_block (parts_of packet).block) ≤ 262140
unfolding header_end
short-body packet =
    let bytes : List ℕ = packet.datagram.now in
    let after : List ℕ = drop (sources_end bytes) bytes in
    let high : slice_index after 2 < 256 = rw (get_or-drop (sources_end bytes) bytes 2 0) (packet.bytes (sources_end bytes + 2)) in
    let low : slice_index after 3 < 256 = rw (get_or-drop (sources_end bytes) bytes 3 0) (packet.bytes (sources_end bytes + 3)) in
    let word : word_at after 2 ≡ slice_index after 2 * 256 + slice_index after 3 = word_at-cells after 2 in
    let end : header_end bytes ≤ sources_end bytes + (4 + 4 * 65535) =
    let few = short-if (has_block bytes) (4 + 4 * word_at after 2) (4 + 4 * 65535) (omega (arith, word, high, low)) in omega (arith, few) in
    let long : length (slice_range bytes (sources_end bytes + 4) packet.header_len) ≤ 262140 =
    omega (arith, length-take (packet.header_len - (sources_end bytes + 4)) (drop (sources_end bytes + 4) bytes), packet.ends, end) in
    subst (λ (block : Option (ExtensionsForm × List ℕ)). length (body_of_block block) ≤ 262140) (block-header bytes packet.header_len packet.form (HasHeader-packet packet))
    (short-part packet.form (slice_range bytes (sources_end bytes + 4) packet.header_len) 262140 long)

-- the plan is that of the parts of the packet, whatever they are called
pub plan-of : (bytes : List ℕ) (parts : PacketParts) (goes : ℕ) (plan : Plan) → IsPacket bytes parts → IsPlan bytes (parts_at bytes) goes plan → IsPlan bytes parts goes plan
plan-of bytes parts goes plan is planned = subst (λ (p : PacketParts). IsPlan bytes p goes plan) (one_packet bytes parts is) planned

-- a test whether a form is found
pub form-tested : (found : Option ExtensionsForm) (form : ExtensionsForm) (test : Bool) → test ≡ option_eq (sameb the_type) found (Some form) → IsTrue test ↔ (found ≡ Some form)
form-tested None form test is = (λ yes. absurd (false≢true (sym is ∙ yes)), λ some. absurd cc)
form-tested (Some OneByte) OneByte test is = (λ yes. refl, λ some. is)
form-tested (Some TwoByte) TwoByte test is = (λ yes. refl, λ some. is)
form-tested (Some OneByte) TwoByte test is = (λ yes. absurd (false≢true (sym is ∙ yes)), λ some. absurd cc)
form-tested (Some TwoByte) OneByte test is = (λ yes. absurd (false≢true (sym is ∙ yes)), λ some. absurd cc)

-- ---- the form

serves-needed : (block : Option ExtensionsForm) (element : Element) → needed_form block element ≡ OneByte → serves_one_byte element ≡ true
serves-needed (Some TwoByte) element is = absurd cc
serves-needed (Some OneByte) element is = by_test (serves_one_byte element) is
  where
    by_test : (b : Bool) → (if b then OneByte else TwoByte) ≡ OneByte → b ≡ true
    by_test true is = refl
    by_test false is = absurd cc
serves-needed None element is = by_test (serves_one_byte element) is
  where
    by_test : (b : Bool) → (if b then OneByte else TwoByte) ≡ OneByte → b ≡ true
    by_test true is = refl
    by_test false is = absurd cc

needed-allowed : (allowed : Option ExtensionsForm) (needed : ExtensionsForm) → allowed_form allowed needed ≡ Some OneByte → needed ≡ OneByte
needed-allowed None needed is = same_Some _ _ is
needed-allowed (Some TwoByte) needed is = absurd cc
needed-allowed (Some OneByte) OneByte is = refl
needed-allowed (Some OneByte) TwoByte is = absurd cc

-- the form that the block gets can carry the element
pub IsWritable-allowed : (block allowed : Option ExtensionsForm) (element : Element) (form : ExtensionsForm) → 1 ≤ element.0 → element.0 ≤ 255 → length element.1 ≤ 255
    → allowed_form allowed (needed_form block element) ≡ Some form → IsWritable form element
IsWritable-allowed block allowed element TwoByte above below short is = (above, (above, below, short))
IsWritable-allowed block allowed element OneByte above below short is = IsWritable-one element (serves-needed block element (needed-allowed allowed (needed_form block element) is))

-- the one-byte form serves alone only where no other one is needed
one_byte-alone : (needed form : ExtensionsForm) → allowed_form (Some OneByte) needed ≡ Some form → needed ≡ OneByte
one_byte-alone OneByte form is = refl
one_byte-alone TwoByte form is = absurd (none-some form is)

-- where a form serves that is allowed, it can carry the id
pub no_long_id : (block allowed : Option ExtensionsForm) (element : Element) (form : ExtensionsForm) → allowed_form allowed (needed_form block element) ≡ Some form → IsLongId allowed element.0 → ⊥
no_long_id block None element form is long = long
no_long_id block (Some TwoByte) element form is long = long
no_long_id block (Some OneByte) element form is long =
    let here : IsWritable OneByte element = IsWritable-one element (serves-needed block element (one_byte-alone (needed_form block element) form is)) in
    omega (arith, here.1.0, long)

-- only the one-byte form is allowed where no form serves
pub long_id : (allowed : Option ExtensionsForm) (needed : ExtensionsForm) (id : ℕ) → allowed_form allowed needed ≡ None → 14 < id → IsLongId allowed id
long_id None needed id is long = absurd (none-some needed (sym is))
long_id (Some TwoByte) needed id is long = absurd (none-some TwoByte (sym is))
long_id (Some OneByte) needed id is long = long

-- a short id is none
pub short_id : (allowed : Option ExtensionsForm) (id : ℕ) → id ≤ 14 → IsLongId allowed id → ⊥
short_id None id short long = long
short_id (Some TwoByte) id short long = long
short_id (Some OneByte) id short long = omega (arith, short, long)

-- and each of the elements that the block has
never-narrowed : (allowed : Option ExtensionsForm) → allowed_form allowed TwoByte ≡ Some OneByte → ⊥
never-narrowed None is = cc
never-narrowed (Some OneByte) is = cc
never-narrowed (Some TwoByte) is = cc

pub carried-with : (block : Option (ExtensionsForm × List ℕ)) (elements : List Element) (element : Element) (allowed : Option ExtensionsForm) (form : ExtensionsForm) → AreElementsOf block elements
    → allowed_form allowed (needed_form (form_of_block block) element) ≡ Some form → AllByRecursion (IsWritable form) (without 0 elements)
carried-with None elements element allowed form are is = subst (λ (es : List Element). AllByRecursion (IsWritable form) (without 0 es)) (sym are) tt
carried-with (Some (OneByte, body)) elements element allowed OneByte are is = writable_without OneByte elements (AreElements-each OneByte body elements are)
carried-with (Some (OneByte, body)) elements element allowed TwoByte are is = wide_each (without 0 elements) (writable_without OneByte elements (AreElements-each OneByte body elements are))
carried-with (Some (TwoByte, body)) elements element allowed TwoByte are is = writable_without TwoByte elements (AreElements-each TwoByte body elements are)
carried-with (Some (TwoByte, body)) elements element allowed OneByte are is = absurd (never-narrowed allowed is)

-- ---- why no form serves

module _ (bytes : List ℕ) (element : Element) (allowed : Option ExtensionsForm) (parts : PacketParts) (is : IsPacket bytes parts) (none : parts.other_block ≡ None)
    (not : allowed_form allowed (needed_form (form_of_block parts.block) element) ≡ None) where
  none_before_ids : (cause : NotPut) → put_place cause < 5 → StopsForm bytes element allowed cause → ⊥
  none_before_ids OtherForm before fact = no_other_form bytes parts is none fact
  none_before_ids LongId before fact = omega arith
  none_before_ids OneByteOnly before fact = omega arith
  none_before_ids cause before fact = fact

  none_before_only : element.0 ≤ 14 → (cause : NotPut) → put_place cause < 6 → StopsForm bytes element allowed cause → ⊥
  none_before_only low LongId before fact = short_id allowed element.0 low fact
  none_before_only low cause before fact = none_before_ids cause (omega arith) fact

  pub first-long_id : 14 < element.0 → IsFirstNotPut (StopsForm bytes element allowed) LongId
  first-long_id high = record { applies = long_id allowed (needed_form (form_of_block parts.block) element) element.0 not high; none_before = none_before_ids }

  pub first-only : element.0 ≤ 14 → IsFirstNotPut (StopsForm bytes element allowed) OneByteOnly
  first-only low = record { applies = (parts, is, not); none_before = none_before_only low }

-- a block of another profile has none of the two forms, and this is looked at first
pub first-other_form : (packet : RtpPacket) (element : Element) (allowed : Option ExtensionsForm) → is_some (parts_of packet).other_block ≡ true
    → IsFirstNotPut (StopsForm packet.datagram.now element allowed) OtherForm
first-other_form packet element allowed some =
    let other = some_there (parts_of packet).other_block some in
    record {
      applies = record { parts = parts_of packet; is_packet = IsPacket-found packet; other = other.0; other_is = other.1 };
      none_before = none_before_other;
    }
  where
    none_before_other : (cause : NotPut) → put_place cause < 4 → StopsForm packet.datagram.now element allowed cause → ⊥
    none_before_other OtherForm before fact = omega arith
    none_before_other LongId before fact = omega arith
    none_before_other OneByteOnly before fact = omega arith
    none_before_other cause before fact = fact
