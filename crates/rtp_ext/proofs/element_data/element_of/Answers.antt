use Rattle.rtp_ext.proofs.LastPlaceLemmas.{HasLast-data}
use Rattle.rtp_ext.proofs.element_data.element_of.Goals as goal

pub returns-clause-found : goal.returns-clause-found
returns-clause-found c = λ elements are. HasLast-data c.in_ok-place.ensures.found are
