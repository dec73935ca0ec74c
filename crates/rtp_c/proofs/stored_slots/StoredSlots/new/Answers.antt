use Rattle.std.proofs.Common.{◌≡◌, ◌+◌, ◌<◌, ◌≤◌, length, take, sym, ap, ◌∙◌, arith, rules}
use Rattle.std.proofs.lemmas.List.Elements.{All-more}
use Rattle.std.proofs.lemmas.List.Sums.{sum_by_more}
use Rattle.rtp_route.specs.declared.slots.Slot.{Slot}
use Rattle.rtp_c.specs.StoredTemplate.{slots_at}
use Rattle.rtp_route.proofs.LengthLemmas.{one-of}
use Rattle.rtp_c.proofs.TemplateLemmas.{slots_at-get, slots_at-length, place-at}
use Rattle.rtp_c.proofs.stored_slots.StoredSlots.new.Goals as goal

pub loop-index-preserved : goal.loop-index-preserved
loop-index-preserved c =
    let starts : length c.args.made.now.data_at ≡ 16 = search rules in
    let lens : length c.args.made.now.data_len ≡ 16 = search rules in
    let at = c.loop-index in
    let none : Slot = record { start = 0; len = 0 } in
    let places = slots_at c.args.made.now.data_at c.args.made.now.data_len in
    let inside : at.index < 16 = omega (arith, c.loop-index-test.true, c.if-made-gt-MAX_ELEMENTS.false) in
    let there : at.index < length places = omega (arith, slots_at-length c.args.made.now.data_at c.args.made.now.data_len (starts ∙ sym lens), starts, inside) in
    let here = slots_at-get c.args.made.now.data_at c.args.made.now.data_len at.index none (starts ∙ sym lens) (omega (arith, starts, inside)) in
    record {
      within = All-more (λ (s : Slot). s.start + s.len ≤ c.args.made.now.header_len) places at.index none there at.invariant.within
          (omega (arith, ap (λ (s : Slot). s.start) here, ap (λ (s : Slot). s.len) here, c.if-made-index.false));
      total_is = omega (arith, sum_by_more (λ (s : Slot). s.len) places at.index none there, ap (λ (s : Slot). s.len) here, at.invariant.total_is);
      few = omega (arith, at.invariant.few, c.type_inv.made);
    }

pub returns-then-made-index-clause-none : goal.returns-then-made-index-clause-none
returns-then-made-index-clause-none c is =
    let made = c.args.made.now in
    let starts : length made.data_at ≡ 16 = search rules in
    let lens : length made.data_len ≡ 16 = search rules in
    let index = c.loop-index.index in
    let none : Slot = record { start = 0; len = 0 } in
    let few : made.count ≤ length made.data_at = omega (arith, is.few, starts) in
    let place = place-at made.data_at made.data_len made.count index (starts ∙ sym lens) few (omega (arith, c.loop-index-test.true)) in
    let lies = one-of (λ (s : Slot). s.start + s.len ≤ made.header_len) (take made.count (slots_at made.data_at made.data_len)) index _ place is.within in
    absurd (omega (arith, lies, c.if-made-index.true))
