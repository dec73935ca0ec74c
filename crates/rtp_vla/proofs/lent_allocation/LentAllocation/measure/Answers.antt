use Rattle.rtp_vla.proofs.Common.{refl, sym, ◌∙◌, false≢true}
use Rattle.rtp_vla.proofs.AllocationWriting.{Writable-from, can_be_written-from}
use Rattle.rtp_vla.proofs.MeasuringLemmas.{if_none}
use Rattle.rtp_vla.proofs.lent_allocation.LentAllocation.measure.Goals as goal

pub returns-in_err-measured-clause-none : goal.returns-in_err-measured-clause-none
returns-in_err-measured-clause-none g c =
    if_none c.from_residual.result (λ some. false≢true (sym c.in_err-measured.ensures.unfit ∙ can_be_written-from c.args.self some))

pub returns-clause-found : goal.returns-clause-found
returns-clause-found g c = (Writable-from c.args.self c.in_ok-measured.ensures.fits.0, refl)
