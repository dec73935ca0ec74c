use Rattle.rtp_ext.proofs.Common.{ap, sym, ◌∙◌, known_slots}
use Rattle.rtp_ext.proofs.RenamedIdLemmas.{IsLowest-of_kind, IsUnmapped-of_kind}
use Rattle.rtp_ext.proofs.map.ExtensionMap.lowest_id.Goals as goal

pub returns-in-Some-clause-found : goal.returns-in-Some-clause-found
returns-in-Some-clause-found c = IsLowest-of_kind c.args.self.now _ c.in-Some.kind c.args.ext.now c.lowest_id.result (c.self.invariant.2 ∙ ap known_slots c.self.view_is) (sym c.in-Some.ensures.known) c.lowest_id.ensures.found

pub returns-in-Some-clause-none : goal.returns-in-Some-clause-none
returns-in-Some-clause-none c = IsUnmapped-of_kind c.args.self.now _ c.in-Some.kind c.args.ext.now c.lowest_id.result (c.self.invariant.2 ∙ ap known_slots c.self.view_is) (sym c.in-Some.ensures.known) c.lowest_id.ensures.none
