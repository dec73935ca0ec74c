use Rattle.std.proofs.Common.{refl, ◌∙◌, sym}
use Rattle.std.proofs.lemmas.Bool.{false≢true}
use Rattle.rtp_route.proofs.FormsLemmas.{measured-more}
use Rattle.rtp_route.proofs.tabled.measured.Goals as goal
use Rattle.rtp_route.proofs.tabled.measured.Goals.{then-not-can_carry-2, else-not-can_carry-2}

pub loop-index-preserved : goal.loop-index-preserved
loop-index-preserved g c =
    measured-more (g.L.ElementList.elements c.args.elements) c.loop-index.index c.loop-index.len (c.at-id.result.0, c.at-id.result.1.now) c.loop-index.fits_one_byte _ c.loop-index.invariant c.at-id.ensures
    (c.if-not-can_carry.ensures.carried.0 refl)
    (elim c.if-not-can_carry-2.branch [
      | then-not-can_carry-2 w ↦ (λ yes. absurd (false≢true (sym w.fits_one_byte-is ∙ yes)), λ both. absurd (false≢true (sym w.if-not-can_carry-2.true ∙ c.can_carry-in-loop-index.ensures.carried.1 both.1)))
      | else-not-can_carry-2 w ↦ (λ yes. (sym w.fits_one_byte-is ∙ yes, c.can_carry-in-loop-index.ensures.carried.0 w.if-not-can_carry-2.false), λ both. w.fits_one_byte-is ∙ both.0)
    ])
