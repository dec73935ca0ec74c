use Rattle.std.proofs.Common.{rules, ◌≡◌, ◌≢◌, ◌+◌, ℕ, set, slice_index, sym, subst}
use Rattle.std.proofs.lemmas.Bool.{false≢true}
use Rattle.rtp_ext.specs.Elements.{Element}
use Rattle.rtp_route.proofs.NumberLemmas.{AreNumbered, numbered-start, numbered-more, numbered-twice}
use Rattle.rtp_route.proofs.numbers.number_elements.Goals as goal

pub loop-index-init : goal.loop-index-init
loop-index-init g c =
    let elements = g.L.ElementList.elements c.args.elements in
    subst (AreNumbered elements 0) (sym c.requires.fresh) (numbered-start elements)

pub returns-then-numbers-at-ne0-clause-own : goal.returns-then-numbers-at-ne0-clause-own
returns-then-numbers-at-ne0-clause-own g c =
    let elements = g.L.ElementList.elements c.args.elements in
    let element : Element = (c.at-id.result.0, c.at-id.result.1.now) in (
      λ wrong. absurd (false≢true wrong),
      λ own. absurd (numbered-twice elements c.loop-index.index c.loop-index.numbers element c.loop-index.invariant c.at-id.ensures (search rules)
          (subst (λ (at : ℕ). slice_index c.loop-index.numbers at ≢ 0) c.from-at.ensures c.if-numbers-at-ne0.true) own),
    )

pub loop-index-preserved : goal.loop-index-preserved
loop-index-preserved g c =
    let elements = g.L.ElementList.elements c.args.elements in
    let element : Element = (c.at-id.result.0, c.at-id.result.1.now) in
    subst (λ (at : ℕ). AreNumbered elements (c.loop-index.index + 1) (set c.loop-index.numbers at (c.loop-index.index + 1))) (sym c.from-at.ensures)
    (numbered-more elements c.loop-index.index c.loop-index.numbers element c.loop-index.invariant c.at-id.ensures (search rules)
    (subst (λ (at : ℕ). slice_index c.loop-index.numbers at ≡ 0) c.from-at.ensures c.if-numbers-at-ne0.false))
