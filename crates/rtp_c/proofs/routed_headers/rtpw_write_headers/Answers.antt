use Rattle.rtp_c.proofs.Common.{arith}
use Rattle.rtp_route.specs.Calls as calls
use Rattle.rtp_c.proofs.InTurnLemmas.{AreHeadersWrittenTo-next, AreHeadersWrittenTo-end, are-apart, end-within}
use Rattle.rtp_c.proofs.routed_headers.rtpw_write_headers.Goals as goal

pub loop-receiver-preserved : goal.loop-receiver-preserved
loop-receiver-preserved c =
    let at = c.loop-receiver in
    AreHeadersWrittenTo-next (calls.header_in c.in-Ok.template) _ c.args.bytes.now c.args.receivers.now at.receiver-items c.args.buf.now at.buf at.receiver-index at.at c.write_one-at.result _
    c.write_one-at.new.receiver c.write_one-at.new.buf at.invariant (omega (arith, c.loop-receiver-test.true, at.auto.receiver-items)) c.write_one-at.ensures.written c.write_one-at.ensures.next c.write_one-at.ensures.place

pub returns-clause-apart : goal.returns-clause-apart
returns-clause-apart c is_ok =
    let at = c.loop-receiver in
    let all = AreHeadersWrittenTo-end (calls.header_in c.in-Ok.template) _ c.args.bytes.now c.args.receivers.now at.receiver-items c.args.buf.now at.buf at.receiver-index at.at at.invariant (omega (arith, c.loop-receiver-test.false)) in
    are-apart (calls.header_in c.in-Ok.template) _ c.args.bytes.now 0 c.args.receivers.now at.receiver-items c.args.buf.now at.buf all.0

pub returns-clause-within : goal.returns-clause-within
returns-clause-within c is_ok =
    let at = c.loop-receiver in
    let all = AreHeadersWrittenTo-end (calls.header_in c.in-Ok.template) _ c.args.bytes.now c.args.receivers.now at.receiver-items c.args.buf.now at.buf at.receiver-index at.at at.invariant (omega (arith, c.loop-receiver-test.false)) in
    end-within (calls.header_in c.in-Ok.template) _ c.args.bytes.now 0 c.args.receivers.now at.receiver-items c.args.buf.now at.buf _ all.0 all.1
