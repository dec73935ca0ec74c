use Rattle.rtp_c.proofs.Common.{arith, refl, sym, subst, ◌+◌, set, length-set}
use Rattle.rtp_c.proofs.ElementLemmas.{AreNextTo, IsNextElement-place, AreNextTo-next}
use Rattle.rtp_c.specs.declared.packet.ElementView.{ElementView}
use Rattle.rtp_c.proofs.next_elements.put_elements.Goals as goal

pub loop-count-init : goal.loop-count-init
loop-count-init c = (record { are_next = tt; left = refl; from_is = refl }, c.requires, omega arith)

pub loop-count-preserved : goal.loop-count-preserved
loop-count-preserved c =
    let at = c.loop-count in (
      subst (λ (v : ElementView). AreNextTo c.args.form c.args.body.now c.args.at c.args.elements.now (set at.elements at.count v) (at.count + 1) c.in-Some.place.end) (sym c.put_place.ensures)
          (AreNextTo-next c.args.form c.args.body.now c.args.at c.args.elements.now at.elements at.count at.from _ at.invariant.0 (omega (arith, c.loop-count-test.true))
          (IsNextElement-place c.args.form c.args.body.now at.from c.in-Some.place at.invariant.1 c.in-Some.ensures.found)),
      omega (arith, c.in-Some.ensures.further),
      grind (arith, c.loop-count-test.true, length-set at.elements at.count c.put_place.new.view),
    )
