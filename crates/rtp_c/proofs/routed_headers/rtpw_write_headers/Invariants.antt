use Rattle.rtp_route.specs.Calls as calls
use Rattle.rtp_c.specs.StoredTemplate.{slots_of}
use Rattle.rtp_c.proofs.InTurnLemmas.{AreHeadersWrittenTo}
use Rattle.rtp_c.proofs.routed_headers.rtpw_write_headers.Given as goal

abbrev pub invariant-loop-receiver : goal.invariant-loop-receiver
invariant-loop-receiver l =
    AreHeadersWrittenTo (calls.header_in l.template) (slots_of l.slots.made.now) l.bytes l.initial.receiver-items l.receiver-items l.initial.buf l.buf l.receiver-index l.at
