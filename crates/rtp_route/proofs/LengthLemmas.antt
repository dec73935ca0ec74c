-- How long headers are, and where data lie in them.
use Rattle.std.proofs.Common.{◌≡◌, ℕ, ◌+◌, ◌-◌, ◌*◌, ◌<◌, ◌≤◌, Bool, true, false, List, [], ◌∷◌, ◌++◌, length, take, drop, map, get_or, refl, ap, sym, subst, ◌∙◌, arith, add-zero, length-drop, length-take, Option, None, Some, All, slice_get}
use Rattle.std.specs.Prelude.{slice_index, if◌then◌else◌}
use Rattle.std.specs.List.{AllByRecursion}
use Rattle.std.proofs.lemmas.List.Elements.{All-nil, All-cons}
use Rattle.std.proofs.lemmas.List.{get_or-take, get_or-drop, drop_more}
use Rattle.std.proofs.lemmas.List.Sums.{sum_by-cons}
use Rattle.std.proofs.lemmas.Option.{slice_get_within, get_or_from_slice_get}
use Rattle.rtp_base.specs.Overwriting.{overwritten}
use Rattle.rtp_ext.specs.declared.form.ExtensionsForm.{ExtensionsForm}
use Rattle.rtp_ext.specs.declared.form.ExtensionsForm.TheVariants.{OneByte, TwoByte}
use Rattle.rtp_ext.specs.Elements.{Element, IsElement}
use Rattle.rtp_ext.proofs.AnewLemmas.{AreElements-each}
use Rattle.rtp_wire.specs.declared.packet.rtp_packet.RtpPacket.{RtpPacket}
use Rattle.rtp_wire.specs.Block.{word_at}
use Rattle.rtp_wire.specs.NotAHeader.{sources_end}
use Rattle.rtp_wire.specs.Packet.{header_len_of}
use Rattle.rtp_wire.specs.PacketElements.{AreElementsOf}
use Rattle.rtp_wire.specs.PartsAt.{has_block, header_end}
use Rattle.rtp_wire.specs.PartsOf.{parts_of}
use Rattle.rtp_wire.proofs.PartsLemmas.{header_end-len}
use Rattle.rtp_route.specs.declared.slots.Slot.{Slot}
use Rattle.rtp_route.specs.GroupHeader.{IsGroupHeader}
use Rattle.rtp_route.specs.Routing.{IsFormAfter, row_in, routed_elements}
use Rattle.rtp_route.specs.Template.{data_lengths, slot_lengths, total_of, pieces, filled_in, AreSlots}

-- the word in two bytes
word_at-bytes : (bytes : List ℕ) (offset : ℕ) → word_at bytes offset ≡ slice_index bytes offset * 256 + slice_index bytes (offset + 1)
word_at-bytes bytes offset =
    let two : offset + 2 - offset ≡ 2 = omega arith in
    rw (two, get_or-take 2 (drop offset bytes) 0 0 (omega arith), get_or-take 2 (drop offset bytes) 1 0 (omega arith), get_or-drop offset bytes 0 0, get_or-drop offset bytes 1 0, add-zero offset) (omega arith)

short-if : (b : Bool) (k n : ℕ) → k ≤ n → (if b then k else 0) ≤ n
short-if false k n few = omega arith
short-if true k n few = few

-- fifteen sources, and a block of 65,535 words
pub short-header : (packet : RtpPacket) → header_len_of (parts_of packet) ≤ 262216
unfolding header_end
short-header packet =
    let bytes : List ℕ = packet.datagram.now in
    let after : List ℕ = drop (sources_end bytes) bytes in
    let high : slice_index after 2 < 256 = rw (get_or-drop (sources_end bytes) bytes 2 0) (packet.bytes (sources_end bytes + 2)) in
    let low : slice_index after 3 < 256 = rw (get_or-drop (sources_end bytes) bytes 3 0) (packet.bytes (sources_end bytes + 3)) in
    let word : word_at after 2 ≡ slice_index after 2 * 256 + slice_index after 3 = word_at-bytes after 2 in
    let few = short-if (has_block bytes) (4 + 4 * word_at after 2) (4 + 4 * 65535) (omega (arith, word, high, low)) in
    let end : header_end bytes ≤ sources_end bytes + (4 + 4 * 65535) = omega (arith, few) in
    let sources : sources_end bytes ≤ 72 = omega arith in
    omega (arith, end, sources, header_end-len packet)

-- an element has at most 255 bytes of data
pub short-data : (form : ExtensionsForm) (id : ℕ) (bytes : List ℕ) → IsElement form (id, bytes) → length bytes ≤ 255
short-data OneByte id bytes is = omega (arith, is.2)
short-data TwoByte id bytes is = is.2

-- ---- data that lie one after another

-- those of the next place, and those that are left
pub joined-total : (slots : List Slot) (index : ℕ) (d : Slot) (left : List ℕ) → index < length slots → length left ≡ total_of (drop index slots)
    → ((get_or slots index d).len ≤ length left) × (length (drop (get_or slots index d).len left) ≡ total_of (drop (index + 1) slots))
joined-total slots index d left within long =
    let more : total_of (drop index slots) ≡ (get_or slots index d).len + total_of (drop (index + 1) slots) =
    ap total_of (drop_more slots index d within) ∙ sum_by-cons (λ (s : Slot). s.len) (get_or slots index d) (drop (index + 1) slots) in
    (omega (arith, more, long), omega (arith, more, long, length-drop (get_or slots index d).len left))

pub joined-next : (slots : List Slot) (index : ℕ) (d : Slot) (left buf whole : List ℕ) → index < length slots
    → filled_in (drop index slots) (pieces (slot_lengths (drop index slots)) left) buf ≡ whole
    → filled_in (drop (index + 1) slots) (pieces (slot_lengths (drop (index + 1) slots)) (drop (get_or slots index d).len left))
    (overwritten buf (get_or slots index d).start (take (get_or slots index d).len left)) ≡ whole
joined-next slots index d left buf whole within so_far =
    subst (λ (ss : List Slot). filled_in ss (pieces (slot_lengths ss) left) buf ≡ whole) (drop_more slots index d within) so_far

-- the same of a place that is found there
pub joined-at : (slots : List Slot) (index : ℕ) (slot : Slot) (left : List ℕ) → slice_get slots index ≡ Some slot → length left ≡ total_of (drop index slots)
    → (slot.len ≤ length left) × (length (drop slot.len left) ≡ total_of (drop (index + 1) slots))
joined-at slots index slot left is long =
    subst (λ (s : Slot). (s.len ≤ length left) × (length (drop s.len left) ≡ total_of (drop (index + 1) slots))) (get_or_from_slice_get slots index slot slot is)
    (joined-total slots index slot left (slice_get_within slots index slot is) long)

pub joined-on : (slots : List Slot) (index : ℕ) (slot : Slot) (left buf whole : List ℕ) → slice_get slots index ≡ Some slot
    → filled_in (drop index slots) (pieces (slot_lengths (drop index slots)) left) buf ≡ whole
    → filled_in (drop (index + 1) slots) (pieces (slot_lengths (drop (index + 1) slots)) (drop slot.len left)) (overwritten buf slot.start (take slot.len left)) ≡ whole
joined-on slots index slot left buf whole is so_far =
    subst (λ (s : Slot). filled_in (drop (index + 1) slots) (pieces (slot_lengths (drop (index + 1) slots)) (drop s.len left)) (overwritten buf s.start (take s.len left)) ≡ whole)
    (get_or_from_slice_get slots index slot slot is) (joined-next slots index slot left buf whole (slice_get_within slots index slot is) so_far)

-- the place that is found is one of them
pub one-of : (P : Slot → Type 0) (slots : List Slot) (index : ℕ) (slot : Slot) → slice_get slots index ≡ Some slot → All P slots → P slot
one-of P slots index slot is all = subst P (get_or_from_slice_get slots index slot slot is) (all index slot (slice_get_within slots index slot is))

-- the pieces are as long as the places
pub pieces-lengths : (slots : List Slot) (bytes : List ℕ) → length bytes ≡ total_of slots → map length (pieces (slot_lengths slots) bytes) ≡ slot_lengths slots
pieces-lengths [] bytes long = refl
pieces-lengths (slot ∷ slots) bytes long =
    let all : total_of (slot ∷ slots) ≡ slot.len + total_of slots = sum_by-cons (λ (s : Slot). s.len) slot slots in
    let first : length (take slot.len bytes) ≡ slot.len = omega (arith, long, all, length-take slot.len bytes) in
    ap (λ (k : ℕ). k ∷ map length (pieces (slot_lengths slots) (drop slot.len bytes))) first
    ∙ ap (λ (ks : List ℕ). slot.len ∷ ks) (pieces-lengths slots (drop slot.len bytes) (omega (arith, long, all, length-drop slot.len bytes)))

-- ---- the places of a group's elements

middle : {X : Type 0} (P : X → Type 0) (before after : List X) (x : X) → AllByRecursion P (before ++ x ∷ after) → P x
middle P [] after x all = all.0
middle P (first ∷ before) after x all = middle P before after x all.1

in_row : (form : ExtensionsForm) (start : ℕ) (row news : List Element) (slots : List Slot) → AllByRecursion (IsElement form) row → AreSlots form start row news slots
    → All (λ (s : Slot). s.len ≤ 255) slots
in_row form start row [] slots all are = subst (All (λ (s : Slot). s.len ≤ 255)) (sym are) (All-nil (λ (s : Slot). s.len ≤ 255))
in_row form start row (new ∷ news) [] all are = absurd are
in_row form start row (new ∷ news) (slot ∷ slots) all are =
    let is = are.0 in
    let element = middle (IsElement form) is.before is.after new (subst (AllByRecursion (IsElement form)) is.in_order all) in
    All-cons (λ (s : Slot). s.len ≤ 255) slot slots (omega (arith, is.len_is, short-data form new.0 new.1 element)) (in_row form start row news slots all are.1)

-- what is put has a form
no_form : (allowed : Option ExtensionsForm) (form : ExtensionsForm) (news : List Element) → IsFormAfter allowed (Some form) news None → ⊥
no_form allowed form [] is = absurd cc
no_form allowed form (new ∷ news) is = no_form allowed is.0 news is.2

by_form : (allowed start form : Option ExtensionsForm) (at : ℕ) (row news : List Element) (slots : List Slot) → IsFormAfter allowed start news form → AreElementsOf (row_in form row) row
    → ((f : ExtensionsForm) → form ≡ Some f → AreSlots f at row news slots) → slot_lengths slots ≡ data_lengths news → All (λ (s : Slot). s.len ≤ 255) slots
by_form allowed start (Some form) at row news slots after are slots_are lengths = in_row form at row news slots (AreElements-each form _ row are) (slots_are form refl)
by_form allowed start None at row [] [] after are slots_are lengths = All-nil (λ (s : Slot). s.len ≤ 255)
by_form allowed start None at row [] (slot ∷ slots) after are slots_are lengths = absurd cc
by_form allowed start None at row (new ∷ news) slots after are slots_are lengths = absurd (no_form allowed after.0 news after.2)

-- each has at most 255 bytes
pub short-slots : (old : List ℕ) (ids : ℕ → Option ℕ) (news : List Element) (allowed : Option ExtensionsForm) (header : List ℕ) (slots : List Slot)
    → IsGroupHeader old ids news allowed header slots → All (λ (s : Slot). s.len ≤ 255) slots
short-slots old ids news allowed header slots is =
    by_form allowed is.routed.start is.routed.form _ (routed_elements ids news is.routed.elements) news slots is.routed.form_is is.routed.are_elements is.slots_are is.lengths_are
