use Rattle.std.proofs.Common.{◌≡◌, ◌∙◌, ◌-◌, ◌+◌, ◌*◌, ◌/◌, List, [], length, take, drop, refl, sym, ap, subst, arith}
use Rattle.std.specs.List.{filter_map}
use Rattle.rtp_ext.specs.Elements.{Element, elements_bytes, AreElements}
use Rattle.rtp_ext.specs.ElementsInPlace.{renumbered}
use Rattle.rtp_ext.specs.NewIds.{new_id}
use Rattle.rtp_ext.specs.WrittenBlock.{filled}
use Rattle.rtp_route.specs.Routing.{put_all}
use Rattle.rtp_route.specs.Template.{AreSlots}
use Rattle.rtp_route.specs.Walk.{ArePlaced}
use Rattle.rtp_route.proofs.WalkLemmas.{placed-none, body-filled, row-read}
use Rattle.rtp_route.proofs.WalkedLemmas.{like-none, written-no_zero, put_all-like}
use Rattle.rtp_route.proofs.walk.write_body.Goals as goal

pub write_kept-requires-clause-fresh : goal.write_kept-requires-clause-fresh
write_kept-requires-clause-fresh g c =
    let news = g.G.ElementList.elements c.args.group in
    subst (ArePlaced c.args.form c.args.at [] news) (sym c.requires.fresh) (placed-none c.args.form c.args.at news (record { start = 0; len = 0 }) 16 refl c.requires.elements.few)

pub returns-clause-written : goal.returns-clause-written
returns-clause-written g c elements are =
    let form = c.args.form in
    let at = c.args.at in
    let ids = new_id (g.G.GroupTable.ids c.args.group) in
    let news = g.G.ElementList.elements c.args.group in
    let slots = take (length (g.G.ElementList.elements c.args.group)) c.write_lacking.new.slots in
    let kept = c.in_ok-kept.ensures.kept elements are in
    let written = c.in_ok-len.ensures.written at c.args.buf.now kept.written c.requires.some kept.are_written in
    let row : List Element = put_all news kept.written in
    let same : row ≡ put_all news (filter_map (renumbered ids) elements) = put_all-like news kept.written (filter_map (renumbered ids) elements) kept.like in
    let end = (c.in_ok-len.len + 3) / 4 * 4 in
    let body : take (end - at) (drop at c.fill_word.new.buf) ≡ filled (elements_bytes form row) =
    body-filled c.args.buf.now c.write_lacking.new.buf c.fill_word.new.buf (elements_bytes form row) at c.in_ok-len.len end written.0.bytes_are written.0.at_is
    (omega (arith, written.0.as_long, c.in_ok-len.ensures.within, c.write_kept.auto.buf)) (omega arith) (omega arith) (omega arith) c.requires.whole
    c.fill_word.ensures.written in
    record {
      after = omega (arith, written.0.at_is);
      whole = omega arith;
      carried = kept.carried;
      no_zero = like-none 0 news kept.written (filter_map (renumbered ids) elements) kept.like (written-no_zero form kept.written kept.are_written.writable);
      body_is = body ∙ ap (λ (es : List Element). filled (elements_bytes form es)) same;
      are_elements = subst (λ (es : List Element). AreElements form (filled (elements_bytes form es)) es) same (row-read form row written.0.writable);
      slots_are = subst (λ (es : List Element). AreSlots form at es news slots) same written.1;
    }
