use Rattle.std.proofs.Common.{◌≡◌, ℕ, List, Option, All, sym, subst}
use Rattle.std.proofs.lemmas.Bool.{false≢true}
use Rattle.rtp_ext.specs.ElementsInPlace.{CanRenumber}
use Rattle.rtp_ext.specs.NewIds.{new_id}
use Rattle.rtp_wire.specs.PartsOf.{parts_of}
use Rattle.rtp_route.proofs.FormsLemmas.{start-two}
use Rattle.rtp_route.proofs.by_walk.write_in_two_byte_form.Goals as goal

pub write_from-requires-clause-start : goal.write_from-requires-clause-start
write_from-requires-clause-start g c =
    let known : c.new_ids.result ≡ g.G.GroupTable.ids c.args.group = c.new_ids.ensures in
    start-two (g.G.GroupTable.allows c.args.group) (new_id (g.G.GroupTable.ids c.args.group)) (parts_of c.args.packet).block c.in_ok-was.was' c.in_ok-was.body.now c.in_ok-was.ensures.parts c.requires.allowed
    (λ elements are carried.
    false≢true ((c.if-can_renumber.ensures elements are).1 (subst (λ (ids : List (Option ℕ)). All (CanRenumber c.in_ok-was.was' (new_id ids)) elements) (sym known) carried)))
