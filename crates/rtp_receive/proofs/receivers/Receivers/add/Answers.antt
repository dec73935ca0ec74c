use Rattle.std.proofs.Common.{ℕ, List, ap, ◌∙◌}
use Rattle.rtp_receive.specs.StreamState.{ReceiverState}
use Rattle.rtp_receive.specs.SourcePlaces.{held_of}
use Rattle.rtp_receive.specs.Receivers.{ReceiverStates, receiver_of}
use Rattle.rtp_receive.proofs.ReceiversLemmas.{no_place}
use Rattle.rtp_receive.proofs.PlacesLemmas.{ArePlaces-push, ArePlaces-same, held-push_same, held-push_other}
use Rattle.rtp_receive.proofs.receivers.Receivers.add.Goals as goal

pub add-requires : goal.add-requires
add-requires c = no_place c.self.inside.rollover_count c.self.inside.sources.places c.self.inside.sources.list.items c.args.self.now c.args.ssrc c.self.view_is c.requires

pub invariant_of-self : goal.invariant_of-self
invariant_of-self c =
    rw c.in_err-add.ensures.same_list (c.self.invariant.0, ArePlaces-same c.self.inside.sources.places c.add.new.self.places c.self.inside.sources.list.items c.in_err-add.ensures.same_places c.self.invariant.1)

pub invariant_of-self-2 : goal.invariant_of-self-2
invariant_of-self-2 c =
    let none = no_place c.self.inside.rollover_count c.self.inside.sources.places c.self.inside.sources.list.items c.args.self.now c.args.ssrc c.self.view_is c.requires in
    rw c.in_ok-add.ensures.list (c.self.invariant.0, ArePlaces-push c.self.inside.sources.places c.add.new.self.places c.self.inside.sources.list.items (c.args.ssrc, c.args.receiver) c.self.invariant.1 none c.in_ok-add.ensures.places)

pub returns-clause-added : goal.returns-clause-added
returns-clause-added c =
    ap (λ (list : List (ℕ × ReceiverState)). held_of c.add.new.self.places list c.args.ssrc) c.in_ok-add.ensures.list
    ∙ held-push_same c.add.new.self.places c.self.inside.sources.list.items (c.args.ssrc, c.args.receiver) c.in_ok-add.ensures.places.1

pub returns-clause-others : goal.returns-clause-others
returns-clause-others c source apart =
    ap (λ (list : List (ℕ × ReceiverState)). held_of c.add.new.self.places list source) c.in_ok-add.ensures.list
    ∙ held-push_other c.self.inside.sources.places c.add.new.self.places c.self.inside.sources.list.items (c.args.ssrc, c.args.receiver) source c.self.invariant.1 c.in_ok-add.ensures.places apart
    ∙ ap (λ (rs : ReceiverStates). receiver_of rs source) c.self.view_is
