use Rattle.std.proofs.lemmas.List.{take_rest}
use Rattle.rtp_listing.proofs.MapLineLemmas.{at_space, first_space, some_space}
use Rattle.rtp_listing.proofs.map_line.around_space.Goals as goal

pub returns-in_err-space-clause-only : goal.returns-in_err-space-clause-only
returns-in_err-space-clause-only c before after all split = absurd (some_space c.args.text.now before after split c.in_err-space.ensures.none)

pub returns-clause-found : goal.returns-clause-found
returns-clause-found c =
    let found = c.in_ok-space.ensures.found in
    let text = c.args.text.now in
    let space = c.in_ok-space.space in
    rw take_rest (at_space text space found.0 found.1 found.2)

pub returns-clause-only : goal.returns-clause-only
returns-clause-only c before after all split =
    let found = c.in_ok-space.ensures.found in
    rw take_rest (first_space c.args.text.now before after c.in_ok-space.space found.0 found.1 found.2 all split)
