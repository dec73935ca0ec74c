use Rattle.rtp_values.proofs.SendTimeLemmas.{one_send_time, latest-near}
use Rattle.rtp_values.proofs.value.values.ExtensionValues.update_absolute_send_time.Goals as goal

pub returns-in-Some-latest_moment-clause-near : goal.returns-in-Some-latest_moment-clause-near
returns-in-Some-latest_moment-clause-near c time past soon is =
    latest-near c.in-Some-latest_moment.ensures.found time (one_send_time c.self.view_is c.in-Some.is is) past soon
