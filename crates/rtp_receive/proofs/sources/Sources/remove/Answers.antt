use Rattle.std.proofs.Common.{rules, arith, refl, ℕ, sym, ap, subst, ◌∙◌}
use Rattle.std.specs.Prelude.{Option, Some, IsSome}
use Rattle.std.proofs.lemmas.List.{get_or_default}
use Rattle.rtp_receive.specs.StreamState.{ReceiverState}
use Rattle.rtp_receive.specs.SourcePlaces.{past_the_end}
use Rattle.rtp_receive.proofs.PlacesLemmas.{ArePlaces-same, filled_by, held_of-found, held_of-none, IsTaken, has_place, taken}
use Rattle.rtp_receive.proofs.sources.Sources.remove.Goals as goal

pub returns-in_default-clause-index : goal.returns-in_default-clause-index
returns-in_default-clause-index c = ArePlaces-same c.args.self.now.places c.remove.new.self c.args.self.now.list.items (search rules) c.requires

pub returns-in_default-clause-value : goal.returns-in_default-clause-value
returns-in_default-clause-value c = sym (held_of-none c.args.self.now.places c.args.self.now.list.items c.args.ssrc (search rules))

pub returns-in_default-clause-gone : goal.returns-in_default-clause-gone
returns-in_default-clause-gone c = held_of-none c.remove.new.self c.args.self.now.list.items c.args.ssrc (search rules)

pub swap_remove-receiver-requires : goal.swap_remove-receiver-requires
swap_remove-receiver-requires c = omega (arith, (c.requires.found c.args.ssrc c.in-Some.place (sym c.in-Some.ensures.value)).0, c.args.self.now.list.ok.0)

pub renumber-requires : goal.renumber-requires
renumber-requires c below =
    subst (λ (o : Option ℕ). IsSome o) (sym (has_place c.args.self.now.places c.remove.new.self c.args.self.now.list.items c.swap_remove-receiver.new.self.items c.args.ssrc c.in-Some.place c.requires
    (sym c.in-Some.ensures.value) (filled_by _ _ _ _ _ c.args.self.now.list.ok.0 c.swap_remove-receiver.new.self.ok.0 c.swap_remove-receiver.ensures.len
    (c.swap_remove-receiver.ensures.by_index.0 past_the_end) (λ k. c.swap_remove-receiver.ensures.by_index.1 k past_the_end)) c.in-Some.ensures.updates below)) refl

taken-here : (c : goal.After-renumber) → IsTaken c.args.self.now.places c.renumber.new.self.places c.args.self.now.list.items c.swap_remove-receiver.new.self.items c.args.ssrc
taken-here c = taken c.args.self.now.places c.remove.new.self c.args.self.now.list.items c.swap_remove-receiver.new.self.items c.args.ssrc c.in-Some.place c.requires
    (sym c.in-Some.ensures.value) (filled_by _ _ _ _ _ c.args.self.now.list.ok.0 c.swap_remove-receiver.new.self.ok.0 c.swap_remove-receiver.ensures.len
    (c.swap_remove-receiver.ensures.by_index.0 past_the_end) (λ k. c.swap_remove-receiver.ensures.by_index.1 k past_the_end)) c.in-Some.ensures.updates c.renumber.new.self.places c.renumber.ensures.moved c.renumber.ensures.none

pub returns-clause-index : goal.returns-clause-index
returns-clause-index c = rw c.renumber.ensures.list (taken-here c).index

pub returns-clause-value : goal.returns-clause-value
returns-clause-value c =
    let below = (c.requires.found c.args.ssrc c.in-Some.place (sym c.in-Some.ensures.value)).0 in
    ap (λ (e : ℕ × ReceiverState). Some e.1) (c.swap_remove-receiver.ensures.value ∙ get_or_default c.args.self.now.list.items c.in-Some.place c.swap_remove-receiver.result past_the_end below)
    ∙ sym (held_of-found c.args.self.now.places c.args.self.now.list.items c.args.ssrc c.in-Some.place (sym c.in-Some.ensures.value))

pub returns-clause-gone : goal.returns-clause-gone
returns-clause-gone c = rw c.renumber.ensures.list (taken-here c).gone

pub returns-clause-others : goal.returns-clause-others
returns-clause-others c = rw c.renumber.ensures.list (taken-here c).others
