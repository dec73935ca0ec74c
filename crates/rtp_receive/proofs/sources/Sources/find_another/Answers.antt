use Rattle.std.proofs.Common.{sym}
use Rattle.rtp_receive.proofs.PlacesLemmas.{get-place, looked_through}
use Rattle.rtp_receive.proofs.sources.Sources.find_another.Goals as goal

pub returns-in-Some : goal.returns-in-Some
returns-in-Some c = sym (get-place c.args.places.now c.args.list.now.items c.args.ssrc c.in-Some.place c.requires c.in-Some.ensures)

pub returns-in-Some-found : goal.returns-in-Some-found
returns-in-Some-found c = sym (get-place c.args.places.now c.args.list.now.items c.args.ssrc c.in-Some-found.place c.requires c.in-Some-found.ensures.place)

pub returns-in_default-found : goal.returns-in_default-found
returns-in_default-found c = looked_through c.args.places.now c.args.list.now.items c.args.ssrc _ c.requires c.place_among-found.ensures.place c.place_among-found.ensures.none
