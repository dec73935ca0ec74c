use Rattle.std.proofs.Common.{rules, ◌≡◌, ◌∙◌, ◌+◌, ◌-◌, [], ◌∷◌, ◌++◌, length, drop, set, refl, sym, subst, arith}
use Rattle.rtp_ext.specs.Elements.{Element}
use Rattle.rtp_ext.specs.ElementsInARow.{IsWritable}
use Rattle.rtp_ext.specs.ElementsInPlace.{HasNone}
use Rattle.rtp_ext.proofs.RawWritingLemmas.{left-more, IsWritable-short}
use Rattle.rtp_route.specs.declared.slots.Slot.{Slot}
use Rattle.rtp_route.specs.Walk.{AreWritten}
use Rattle.rtp_route.proofs.WalkLemmas.{at-index, own-written}
use Rattle.rtp_route.proofs.walk.write_own.Goals as goal

pub write_behind-requires-clause-writable : goal.write_behind-requires-clause-writable
write_behind-requires-clause-writable g c =
    at-index (IsWritable c.args.form) (g.G.ElementList.elements c.args.group) c.args.index (c.at-id.result.0, c.at-id.result.1.now) _ c.requires.elements.writable
    (left-more (g.G.ElementList.elements c.args.group) c.args.index _ c.at-id.ensures)

pub overflow_cast-slots-2 : goal.overflow_cast-slots-2
overflow_cast-slots-2 g c =
    let here : Element = (c.at-id.result.0, c.at-id.result.1.now) in
    let can : IsWritable c.args.form here =
    at-index (IsWritable c.args.form) (g.G.ElementList.elements c.args.group) c.args.index here _ c.requires.elements.writable
    (left-more (g.G.ElementList.elements c.args.group) c.args.index here c.at-id.ensures) in
    omega (arith, IsWritable-short c.args.form _ can)

pub returns-clause-written : goal.returns-clause-written
returns-clause-written g c start old written element there is none =
    let news = g.G.ElementList.elements c.args.group in
    let here : Element = (c.at-id.result.0, c.at-id.result.1.now) in
    let split = left-more news c.args.index here c.at-id.ensures in
    let can : IsWritable c.args.form here = at-index (IsWritable c.args.form) news c.args.index here _ c.requires.elements.writable split in
    let cons : here ∷ drop (c.args.index + 1) news ≡ element ∷ drop (c.args.index + 1) news = sym split ∙ there in
    let same : here ≡ element = cc in
    let slot : Slot = record { start = c.in_ok-end.end - length here.1; len = length here.1 } in
    subst (λ (e : Element). HasNone written e.0 → AreWritten c.args.form start news old (written ++ e ∷ []) (set c.args.slots.now c.args.index slot) c.write_behind.new.buf c.in_ok-end.end) same
    (λ none_here. own-written c.args.form start news old written c.args.slots.now c.args.buf.now c.write_behind.new.buf c.args.at c.in_ok-end.end c.args.index here _ slot c.requires.elements.own split is none_here
    c.requires.room (search rules) c.in_ok-end.ensures.written c.in_ok-end.ensures.end can refl refl) none
