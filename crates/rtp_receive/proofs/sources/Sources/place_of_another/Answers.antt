use Rattle.std.proofs.Common.{sym}
use Rattle.rtp_receive.proofs.PlacesLemmas.{get-place, looked_through}
use Rattle.rtp_receive.proofs.sources.Sources.place_of_another.Goals as goal

pub returns-then-len-le-FEW : goal.returns-then-len-le-FEW
returns-then-len-le-FEW c = looked_through c.args.self.now.places c.args.self.now.list.items c.args.ssrc c.place_among.result c.requires c.place_among.ensures.place c.place_among.ensures.none

pub returns-in-Some : goal.returns-in-Some
returns-in-Some c = sym (get-place c.args.self.now.places c.args.self.now.list.items c.args.ssrc c.in-Some.place c.requires c.in-Some.ensures)
