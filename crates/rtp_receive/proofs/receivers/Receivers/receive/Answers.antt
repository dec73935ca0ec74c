use Rattle.std.proofs.Common.{arith, inl, refl, subst, sym, ap, ◌∙◌}
use Rattle.std.specs.Prelude.{Option, Some, IsSome, false}
use Rattle.rtp_base.specs.Window.{Numbers, including}
use Rattle.rtp_receive.specs.declared.receiver.Verdict.{Verdict}
use Rattle.rtp_receive.specs.StreamState.{ReceiverState}
use Rattle.rtp_receive.specs.Receiver.{Holds, IsJudged, taken_after}
use Rattle.rtp_receive.proofs.ReceiversLemmas.{no_receiver, Holds-new, receiver_read, Holds-read, ArePlaces-written, receiver_written, Holds-written, StaysBelowZeroIn-new, StaysBelowZeroIn-written, state_is, ChangesSource-written, ChangesSource-refused, ChangesSource-added}
use Rattle.rtp_receive.proofs.receivers.Receivers.receive.Goals as goal

pub index_mut-requires : goal.index_mut-requires
index_mut-requires c = omega (arith, (c.self.invariant.1.found c.args.ssrc c.in-Some.place (sym c.in-Some.ensures)).0, c.self.inside.sources.list.ok.0)

pub invariant_of-self : goal.invariant_of-self
invariant_of-self c = (c.self.invariant.0, ArePlaces-written c.self.inside.rollover_count c.self.inside.sources.places c.self.inside.sources.list.items c.args.self.now c.args.ssrc c.self.view_is c.in-Some.place c.index_mut.result.now c.self.invariant.1 (sym c.in-Some.ensures) c.index_mut.ensures.value c.receive.new.self)

pub add-requires : goal.add-requires
add-requires c = no_receiver c.self.inside.rollover_count c.self.inside.sources.places c.self.inside.sources.list.items _ c.args.ssrc refl (sym c.in_default.ensures)

pub returns-in-Some-clause-verdict : goal.returns-in-Some-clause-verdict
returns-in-Some-clause-verdict c count taken holds = c.receive.ensures.verdict count taken (Holds-read c.self.inside.rollover_count c.self.inside.sources.places c.self.inside.sources.list.items c.args.self.now c.args.ssrc c.self.view_is c.in-Some.place c.index_mut.result.now c.self.invariant.1 (sym c.in-Some.ensures) c.index_mut.ensures.value count taken holds)

pub returns-in-Some-clause-after : goal.returns-in-Some-clause-after
returns-in-Some-clause-after c count taken holds =
    Holds-written c.self.inside.rollover_count c.self.inside.sources.places c.self.inside.sources.list.items c.args.self.now c.args.ssrc c.self.view_is c.in-Some.place c.index_mut.result.now c.self.invariant.1 (sym c.in-Some.ensures) c.index_mut.ensures.value c.receive.new.self count _
    (c.receive.ensures.after count taken (Holds-read c.self.inside.rollover_count c.self.inside.sources.places c.self.inside.sources.list.items c.args.self.now c.args.ssrc c.self.view_is c.in-Some.place c.index_mut.result.now c.self.invariant.1 (sym c.in-Some.ensures) c.index_mut.ensures.value count taken holds))

pub returns-in-Some-clause-true_number : goal.returns-in-Some-clause-true_number
returns-in-Some-clause-true_number c count numbers number holds is =
    c.receive.ensures.true_number count numbers number (Holds-read c.self.inside.rollover_count c.self.inside.sources.places c.self.inside.sources.list.items c.args.self.now c.args.ssrc c.self.view_is c.in-Some.place c.index_mut.result.now c.self.invariant.1 (sym c.in-Some.ensures) c.index_mut.ensures.value count numbers holds) is

pub returns-in-Some-clause-true_numbers : goal.returns-in-Some-clause-true_numbers
returns-in-Some-clause-true_numbers c count numbers number holds is =
    Holds-written c.self.inside.rollover_count c.self.inside.sources.places c.self.inside.sources.list.items c.args.self.now c.args.ssrc c.self.view_is c.in-Some.place c.index_mut.result.now c.self.invariant.1 (sym c.in-Some.ensures) c.index_mut.ensures.value c.receive.new.self count _
    (c.receive.ensures.true_numbers count numbers number (Holds-read c.self.inside.rollover_count c.self.inside.sources.places c.self.inside.sources.list.items c.args.self.now c.args.ssrc c.self.view_is c.in-Some.place c.index_mut.result.now c.self.invariant.1 (sym c.in-Some.ensures) c.index_mut.ensures.value count numbers holds) is)

pub returns-in-Some-clause-unchanged : goal.returns-in-Some-clause-unchanged
returns-in-Some-clause-unchanged c refused =
    let had = receiver_read c.self.inside.rollover_count c.self.inside.sources.places c.self.inside.sources.list.items c.args.self.now c.args.ssrc c.self.view_is c.in-Some.place c.index_mut.result.now c.self.invariant.1 (sym c.in-Some.ensures) c.index_mut.ensures.value in (
      subst (λ (o : Option ReceiverState). IsSome o) (sym had) refl,
      receiver_written c.self.inside.rollover_count c.self.inside.sources.places c.self.inside.sources.list.items c.args.self.now c.args.ssrc c.self.view_is c.in-Some.place c.index_mut.result.now c.self.invariant.1 (sym c.in-Some.ensures) c.index_mut.ensures.value c.receive.new.self
          ∙ ap Some (c.receive.ensures.refused refused) ∙ sym had,
    )

pub returns-clause-verdict : goal.returns-clause-verdict
returns-clause-verdict c count taken holds = c.receive-verdict.ensures.verdict count taken (Holds-new c.self.inside.rollover_count c.self.inside.sources.places c.self.inside.sources.list.items c.args.self.now c.args.ssrc c.self.view_is c.starting_at-added.result (sym c.in_default.ensures) c.starting_at-added.ensures count taken holds)

pub returns-clause-after : goal.returns-clause-after
returns-clause-after c count taken holds =
    subst (λ (state : ReceiverState). Holds state count (taken_after taken c.receive-verdict.result)) (sym (state_is c.add.new.self c.args.ssrc c.receive-verdict.new.self c.in_ok-add.ensures.added))
    (c.receive-verdict.ensures.after count taken (Holds-new c.self.inside.rollover_count c.self.inside.sources.places c.self.inside.sources.list.items c.args.self.now c.args.ssrc c.self.view_is c.starting_at-added.result (sym c.in_default.ensures) c.starting_at-added.ensures count taken holds))

pub returns-clause-true_number : goal.returns-clause-true_number
returns-clause-true_number c count numbers number holds is =
    c.receive-verdict.ensures.true_number count numbers number (Holds-new c.self.inside.rollover_count c.self.inside.sources.places c.self.inside.sources.list.items c.args.self.now c.args.ssrc c.self.view_is c.starting_at-added.result (sym c.in_default.ensures) c.starting_at-added.ensures count numbers holds) is

pub returns-clause-true_numbers : goal.returns-clause-true_numbers
returns-clause-true_numbers c count numbers number holds is =
    subst (λ (state : ReceiverState). Holds state count (including numbers number)) (sym (state_is c.add.new.self c.args.ssrc c.receive-verdict.new.self c.in_ok-add.ensures.added))
    (c.receive-verdict.ensures.true_numbers count numbers number (Holds-new c.self.inside.rollover_count c.self.inside.sources.places c.self.inside.sources.list.items c.args.self.now c.args.ssrc c.self.view_is c.starting_at-added.result (sym c.in_default.ensures) c.starting_at-added.ensures count numbers holds) is)

pub returns-clause-unchanged : goal.returns-clause-unchanged
returns-clause-unchanged c refused =
    let none : Numbers = λ n. false in
    let judged = c.receive-verdict.ensures.verdict c.self.inside.rollover_count none (subst (λ (state : ReceiverState). Holds state c.self.inside.rollover_count none) (sym c.starting_at-added.ensures) (refl, λ n. refl)) in
    absurd (subst (λ (verdict : Verdict). IsJudged none judged.0 verdict) refused judged.2 (inl (λ n. refl)))

pub returns-in-Some-clause-below_zero : goal.returns-in-Some-clause-below_zero
returns-in-Some-clause-below_zero c =
    StaysBelowZeroIn-written c.self.inside.rollover_count c.self.inside.sources.places c.self.inside.sources.list.items c.args.self.now c.args.ssrc c.self.view_is c.in-Some.place c.index_mut.result.now c.self.invariant.1 (sym c.in-Some.ensures) c.index_mut.ensures.value c.receive.new.self
    c.receive.ensures.below_zero

pub returns-clause-below_zero : goal.returns-clause-below_zero
returns-clause-below_zero c =
    StaysBelowZeroIn-new c.self.inside.rollover_count c.self.inside.sources.places c.self.inside.sources.list.items c.args.self.now c.args.ssrc c.self.view_is c.starting_at-added.result c.receive-verdict.new.self c.add.new.self
    (sym c.in_default.ensures) c.starting_at-added.ensures c.in_ok-add.ensures.added c.receive-verdict.ensures.below_zero

pub returns-in-Some-clause-source : goal.returns-in-Some-clause-source
returns-in-Some-clause-source c = ChangesSource-written c.self.inside.rollover_count c.self.inside.sources.places c.self.inside.sources.list.items c.args.self.now c.args.ssrc c.self.view_is c.in-Some.place c.index_mut.result.now c.self.invariant.1 (sym c.in-Some.ensures) c.index_mut.ensures.value c.receive.new.self _

pub returns-in_err-add-clause-source : goal.returns-in_err-add-clause-source
returns-in_err-add-clause-source c = ChangesSource-refused c.self.inside.rollover_count c.self.inside.sources.places c.self.inside.sources.list.items c.args.self.now c.args.ssrc c.self.view_is c.from_residual.result c.add.new.self c.from_residual.ensures.0 (sym c.in_default.ensures) c.in_err-add.ensures.refused

pub returns-clause-source : goal.returns-clause-source
returns-clause-source c = ChangesSource-added c.self.inside.rollover_count c.self.inside.sources.places c.self.inside.sources.list.items c.args.self.now c.args.ssrc c.self.view_is _ _ (sym c.in_default.ensures) c.in_ok-add.ensures.added c.in_ok-add.ensures.others c.in_ok-add.ensures.count c.in_ok-add.ensures.one_more
