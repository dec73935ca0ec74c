use Rattle.std.proofs.Common.{◌+◌, All, take, drop, refl, sym, subst, arith}
use Rattle.std.proofs.lemmas.List.{take_all}
use Rattle.std.proofs.lemmas.List.Elements.{All-push}
use Rattle.rtp_ext.specs.declared.form.ExtensionsForm.TheVariants.{TwoByte}
use Rattle.rtp_ext.specs.Elements.{Element}
use Rattle.rtp_ext.specs.ElementsInARow.{IsWritable}
use Rattle.rtp_route.proofs.ElementAtLemmas.{around, taken-more}
use Rattle.rtp_route.proofs.preparing.first_unwritable.Goals as goal

pub returns-then-id-eq0-clause-first : goal.returns-then-id-eq0-clause-first
returns-then-id-eq0-clause-first g c =
    let news = g.L.ElementList.elements c.args.elements in
    let element : Element = (c.at-id.result.0, c.at-id.result.1.now) in
    record {
      before = take c.loop-index.index news;
      element = element;
      after = drop (c.loop-index.index + 1) news;
      in_order = around news c.loop-index.index element c.at-id.ensures;
      carried = c.loop-index.invariant;
      zero_id = λ _. refl;
      long_data = λ some. absurd (omega (arith, some, c.if-id-eq0.true));
    }

pub returns-then-data-gt255-clause-first : goal.returns-then-data-gt255-clause-first
returns-then-data-gt255-clause-first g c =
    let news = g.L.ElementList.elements c.args.elements in
    let element : Element = (c.at-id.result.0, c.at-id.result.1.now) in
    record {
      before = take c.loop-index.index news;
      element = element;
      after = drop (c.loop-index.index + 1) news;
      in_order = around news c.loop-index.index element c.at-id.ensures;
      carried = c.loop-index.invariant;
      zero_id = λ zero. absurd (c.if-id-eq0.false zero);
      long_data = λ _. (c.if-data-gt255.true, refl);
    }

pub loop-index-preserved : goal.loop-index-preserved
loop-index-preserved g c =
    let news = g.L.ElementList.elements c.args.elements in
    let element : Element = (c.at-id.result.0, c.at-id.result.1.now) in
    subst (All (IsWritable TwoByte)) (sym (taken-more news c.loop-index.index element c.at-id.ensures))
    (All-push (IsWritable TwoByte) (take c.loop-index.index news) element c.loop-index.invariant (omega (arith, c.if-id-eq0.false), (omega (arith, c.if-id-eq0.false), omega arith, omega arith)))

pub returns-clause-none : goal.returns-clause-none
returns-clause-none g c =
    let news = g.L.ElementList.elements c.args.elements in
    subst (All (IsWritable TwoByte)) (take_all c.loop-index.index news (omega (arith, c.loop-index-test.false))) c.loop-index.invariant
