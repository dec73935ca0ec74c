use Rattle.std.proofs.Common.{rules, get_or, refl}
use Rattle.rtp_ext.specs.Elements.{Element}
use Rattle.rtp_route.specs.declared.slots.Slot.{Slot}
use Rattle.rtp_ext.proofs.RawWritingLemmas.{left-more}
use Rattle.rtp_route.proofs.WalkLemmas.{OfOther, at-index, placed-at, placed-others, no_place, written-more, on-some}
use Rattle.rtp_route.proofs.walk.write_next.Goals as goal

pub returns-in-None-clause-written : goal.returns-in-None-clause-written
returns-in-None-clause-written g c =
    let form = c.args.form in
    let news = g.G.ElementList.elements c.args.group in
    let element : Element = (c.args.id, c.args.bytes.now) in
    on-some c.write_behind.result _ _ _
    (λ end new-is end-is start old written some is. (
      element,
      refl,
      λ none. refl,
      written-more form start news old written c.args.slots.now c.args.slots.now c.args.buf.now c.write_behind.new.buf c.args.at end element is c.requires.room (search rules) new-is end-is c.requires.writable
          (placed-others form start written element news c.args.slots.now c.in-None.ensures.none is.placed),
    ))
    c.write_behind.ensures.written c.write_behind.ensures.end

pub returns-else-slots-index-ne0-clause-written : goal.returns-else-slots-index-ne0-clause-written
returns-else-slots-index-ne0-clause-written g c =
    let form = c.args.form in
    let news = g.G.ElementList.elements c.args.group in
    let index = c.in-Some.index in
    let found = c.in-Some.ensures.some in
    let element : Element = (c.args.id, found.0) in
    let there = left-more news index element found.1 in
    let no_slot : Slot = record { start = 0; len = 0 } in
    on-some c.write_own.result _ _ _
    (λ end writes within start old written some is. (
      element,
      refl,
      λ none. absurd (at-index (OfOther c.args.id) news index element _ none there refl),
      writes start old written element there is
          (no_place form start written element (get_or c.args.slots.now index no_slot) some (placed-at form start written news c.args.slots.now index element _ no_slot is.placed there) c.if-slots-index-ne0.false),
    ))
    c.write_own.ensures.written c.write_own.ensures.within
