use Rattle.std.proofs.Common.{sym}
use Rattle.rtp_values.proofs.EmptyDataLemmas.{no_empty_data}
use Rattle.rtp_c.proofs.given_values.GivenValuesElementValues.has_empty_data.Goals as goal

pub returns-in_default : goal.returns-in_default
returns-in_default c = sym (no_empty_data c.args.kind c.args.self.now c.in_default.not-RtpStreamId c.in_default.not-RepairedRtpStreamId c.in_default.not-RtpMid)
