use Rattle.std.proofs.Common.{refl}
use Rattle.rtp_c.proofs.ElementLemmas.{IsLastElement-place}
use Rattle.rtp_c.proofs.packet.rtpw_last_element.Goals as goal

pub returns-clause-found : goal.returns-clause-found
returns-clause-found c is_ok =
    (c.in-Some.form, c.in-Some.ensures.found, IsLastElement-place c.in-Some.form c.args.body.now c.args.id c.in-Some-last_place.last c.in-Some-last_place.ensures.found)

pub returns-clause-place : goal.returns-clause-place
returns-clause-place c is_ok = (
  c.in-Some.form,
  c.in-Some.ensures.found,
  record {
    place = c.in-Some-last_place.last;
    id_is = c.in-Some-last_place.ensures.id;
    lies = c.in-Some-last_place.ensures.lies;
    data_at_is = refl;
    ends = refl;
  },
)
