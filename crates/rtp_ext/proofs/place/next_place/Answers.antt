use Rattle.rtp_ext.proofs.Common.{length, arith, take_rest}
use Rattle.rtp_ext.proofs.PlaceLemmas.{length-begins, length-header-some, IsNextPlace-begins}
use Rattle.rtp_ext.proofs.place.next_place.Goals as goal

pub place_before-requires : goal.place_before-requires
place_before-requires c =
    omega (arith, length-begins c.args.body.now c.args.at c.in_ok-id.id c.in_ok-id.data.now c.requires (take_rest c.args.body.now c.args.at) c.in_ok-id.ensures)

pub returns-clause-found : goal.returns-clause-found
returns-clause-found c =
    IsNextPlace-begins c.args.body.now c.args.at c.in_ok-id.id c.in_ok-id.data.now c.requires (take_rest c.args.body.now c.args.at) c.in_ok-id.ensures
    c.place_before.result c.place_before.ensures.id c.place_before.ensures.start c.place_before.ensures.data_start c.place_before.ensures.end

pub returns-clause-further : goal.returns-clause-further
returns-clause-further c =
    let total = length-begins c.args.body.now c.args.at c.in_ok-id.id c.in_ok-id.data.now c.requires (take_rest c.args.body.now c.args.at) c.in_ok-id.ensures in
    let some = length-header-some c.args.form c.in_ok-id.id (length c.in_ok-id.data.now) in
    (omega (arith, total, some), omega arith)
