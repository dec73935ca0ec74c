use Rattle.std.proofs.Common.{arith}
use Rattle.rtp_c.proofs.ElementLemmas.{IsNextElement-place}
use Rattle.rtp_c.proofs.packet.rtpw_next_element.Goals as goal

pub returns-clause-found : goal.returns-clause-found
returns-clause-found c is_ok =
    (c.in-Some.form, c.in-Some.ensures.found, IsNextElement-place c.in-Some.form c.args.body.now c.args.at c.in-Some-next_place.place (omega arith) c.in-Some-next_place.ensures.found)
