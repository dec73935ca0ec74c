use Rattle.rtp_wire.proofs.Common.{sym, ◌∙◌, overwritten-nil}
use Rattle.rtp_wire.proofs.header.fixed_part.put_csrc.Goals as goal

pub returns-then-count-eq0-clause-written : goal.returns-then-count-eq0-clause-written
returns-then-count-eq0-clause-written g c = rw (sym c.fixed-count.ensures.csrc_count ∙ c.if-count-eq0.true) (sym (overwritten-nil c.args.buf.now c.args.at))
