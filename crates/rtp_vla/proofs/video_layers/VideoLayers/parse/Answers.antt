use Rattle.rtp_vla.proofs.Common.{ap, sym, ◌∙◌, Some, false≢true, Allocation}
use Rattle.rtp_vla.proofs.AllocationMeaning.{one_meaning}
use Rattle.rtp_vla.proofs.video_layers.VideoLayers.parse.Goals as goal

pub returns-then-not-parse_into-clause-only : goal.returns-then-not-parse_into-clause-only
returns-then-not-parse_into-clause-only c a means = absurd (false≢true (sym c.if-not-parse_into.true ∙ (c.parse_into.ensures.only a means).0))

pub returns-then-not-parse_into-clause-one : goal.returns-then-not-parse_into-clause-one
returns-then-not-parse_into-clause-one c = one_meaning c.args.buf.now

pub returns-clause-only : goal.returns-clause-only
returns-clause-only c a means = ap (λ (b : Allocation). Some b) (c.parse_into.ensures.only a means).1

pub returns-clause-one : goal.returns-clause-one
returns-clause-one c = one_meaning c.args.buf.now
