use Rattle.std.proofs.Common.{[]}
use Rattle.std.proofs.lemmas.Bool.{false≢true}
use Rattle.rtp_uses.proofs.NegotiatingLemmas.{AreNegotiated-at, IsKnownUri-at}
use Rattle.rtp_uses.proofs.negotiating.negotiated.Goals as goal

pub loop-id-preserved : goal.loop-id-preserved
loop-id-preserved c =
    AreNegotiated-at c.args.lines.now _ c.loop-id.id-index c.loop-id.exts c.take_line.new.exts c.loop-id-test.true c.loop-id.invariant
    c.in_ok-take_line.ensures.taken c.in_ok-take_line.ensures.outside

pub returns-in_err-take_line-clause-known : goal.returns-in_err-take_line-clause-known
returns-in_err-take_line-clause-known c known =
    absurd (false≢true (c.in_err-take_line.ensures.known (IsKnownUri-at c.args.lines.now (0, record { ref_ptr = (0, 0); now = [] }) c.loop-id.id-index c.loop-id-test.true known)))
