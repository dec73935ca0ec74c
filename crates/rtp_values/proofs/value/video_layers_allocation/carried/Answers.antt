use Rattle.rtp_vla.proofs.MeasuringLemmas.{if_none}
use Rattle.rtp_values.proofs.ValueLemmas.{not_carried}
use Rattle.rtp_values.proofs.value.video_layers_allocation.carried.Goals as goal

pub returns-in_err-measured-clause-no_data : goal.returns-in_err-measured-clause-no_data
returns-in_err-measured-clause-no_data g c = if_none c.from_residual.result (not_carried c.args.allocation (λ some few. c.in_err-measured.ensures.none some))
