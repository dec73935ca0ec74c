use Rattle.std.proofs.Common.{arith, inl, refl, subst, sym, ap, ◌∙◌}
use Rattle.std.specs.Prelude.{Some}
use Rattle.rtp_base.specs.Window.{including}
use Rattle.rtp_receive.specs.StreamState.{ReceiverState}
use Rattle.rtp_receive.specs.declared.receiver.ReceiverState.TheVariants.{Start}
use Rattle.rtp_receive.specs.Receiver.{Holds}
use Rattle.rtp_receive.proofs.ReceiversLemmas.{no_receiver, Holds-new, receiver_read, Holds-read, ArePlaces-written, receiver_written, Holds-written, StaysBelowZeroIn-new, StaysBelowZeroIn-written, state_is, ChangesSource-written, ChangesSource-refused, ChangesSource-added}
use Rattle.rtp_receive.proofs.receivers.Receivers.record.Goals as goal

pub index_mut-requires : goal.index_mut-requires
index_mut-requires c = omega (arith, (c.self.invariant.1.found c.args.ssrc c.in-Some.place (sym c.in-Some.ensures)).0, c.self.inside.sources.list.ok.0)

pub invariant_of-self : goal.invariant_of-self
invariant_of-self c = (c.self.invariant.0, ArePlaces-written c.self.inside.rollover_count c.self.inside.sources.places c.self.inside.sources.list.items c.args.self.now c.args.ssrc c.self.view_is c.in-Some.place c.index_mut.result.now c.self.invariant.1 (sym c.in-Some.ensures) c.index_mut.ensures.value c.record.new.self)

pub add-requires : goal.add-requires
add-requires c = no_receiver c.self.inside.rollover_count c.self.inside.sources.places c.self.inside.sources.list.items _ c.args.ssrc refl (sym c.in_default.ensures)

pub returns-in-Some-clause-recorded : goal.returns-in-Some-clause-recorded
returns-in-Some-clause-recorded c count taken holds =
    Holds-written c.self.inside.rollover_count c.self.inside.sources.places c.self.inside.sources.list.items c.args.self.now c.args.ssrc c.self.view_is c.in-Some.place c.index_mut.result.now c.self.invariant.1 (sym c.in-Some.ensures) c.index_mut.ensures.value c.record.new.self count _
    (c.record.ensures.recorded count taken (Holds-read c.self.inside.rollover_count c.self.inside.sources.places c.self.inside.sources.list.items c.args.self.now c.args.ssrc c.self.view_is c.in-Some.place c.index_mut.result.now c.self.invariant.1 (sym c.in-Some.ensures) c.index_mut.ensures.value count taken holds))

pub returns-in-Some-clause-unchanged : goal.returns-in-Some-clause-unchanged
returns-in-Some-clause-unchanged c count taken holds stale =
    receiver_written c.self.inside.rollover_count c.self.inside.sources.places c.self.inside.sources.list.items c.args.self.now c.args.ssrc c.self.view_is c.in-Some.place c.index_mut.result.now c.self.invariant.1 (sym c.in-Some.ensures) c.index_mut.ensures.value c.record.new.self
    ∙ ap Some (c.record.ensures.unchanged count taken (Holds-read c.self.inside.rollover_count c.self.inside.sources.places c.self.inside.sources.list.items c.args.self.now c.args.ssrc c.self.view_is c.in-Some.place c.index_mut.result.now c.self.invariant.1 (sym c.in-Some.ensures) c.index_mut.ensures.value count taken holds) stale)
    ∙ sym (receiver_read c.self.inside.rollover_count c.self.inside.sources.places c.self.inside.sources.list.items c.args.self.now c.args.ssrc c.self.view_is c.in-Some.place c.index_mut.result.now c.self.invariant.1 (sym c.in-Some.ensures) c.index_mut.ensures.value)

pub returns-clause-recorded : goal.returns-clause-recorded
returns-clause-recorded c count taken holds =
    subst (λ (state : ReceiverState). Holds state count (including taken c.args.number)) (sym (state_is c.add.new.self c.args.ssrc c.record-2.new.self c.in_ok-add.ensures.added))
    (c.record-2.ensures.recorded count taken (Holds-new c.self.inside.rollover_count c.self.inside.sources.places c.self.inside.sources.list.items c.args.self.now c.args.ssrc c.self.view_is c.starting_at-receiver.result (sym c.in_default.ensures) c.starting_at-receiver.ensures count taken holds))

pub returns-clause-unchanged : goal.returns-clause-unchanged
returns-clause-unchanged c count taken holds stale =
    absurd (stale (inl (Holds-new c.self.inside.rollover_count c.self.inside.sources.places c.self.inside.sources.list.items c.args.self.now c.args.ssrc c.self.view_is (Start c.self.inside.rollover_count) (sym c.in_default.ensures) refl count taken holds).1))

pub returns-in-Some-clause-below_zero : goal.returns-in-Some-clause-below_zero
returns-in-Some-clause-below_zero c =
    StaysBelowZeroIn-written c.self.inside.rollover_count c.self.inside.sources.places c.self.inside.sources.list.items c.args.self.now c.args.ssrc c.self.view_is c.in-Some.place c.index_mut.result.now c.self.invariant.1 (sym c.in-Some.ensures) c.index_mut.ensures.value c.record.new.self
    c.record.ensures.below_zero

pub returns-clause-below_zero : goal.returns-clause-below_zero
returns-clause-below_zero c =
    StaysBelowZeroIn-new c.self.inside.rollover_count c.self.inside.sources.places c.self.inside.sources.list.items c.args.self.now c.args.ssrc c.self.view_is c.starting_at-receiver.result c.record-2.new.self c.add.new.self
    (sym c.in_default.ensures) c.starting_at-receiver.ensures c.in_ok-add.ensures.added c.record-2.ensures.below_zero

pub returns-in-Some-clause-source : goal.returns-in-Some-clause-source
returns-in-Some-clause-source c = ChangesSource-written c.self.inside.rollover_count c.self.inside.sources.places c.self.inside.sources.list.items c.args.self.now c.args.ssrc c.self.view_is c.in-Some.place c.index_mut.result.now c.self.invariant.1 (sym c.in-Some.ensures) c.index_mut.ensures.value c.record.new.self _

pub returns-in_err-add-clause-source : goal.returns-in_err-add-clause-source
returns-in_err-add-clause-source c = ChangesSource-refused c.self.inside.rollover_count c.self.inside.sources.places c.self.inside.sources.list.items c.args.self.now c.args.ssrc c.self.view_is c.from_residual.result c.add.new.self c.from_residual.ensures.0 (sym c.in_default.ensures) c.in_err-add.ensures.refused

pub returns-clause-source : goal.returns-clause-source
returns-clause-source c = ChangesSource-added c.self.inside.rollover_count c.self.inside.sources.places c.self.inside.sources.list.items c.args.self.now c.args.ssrc c.self.view_is _ _ (sym c.in_default.ensures) c.in_ok-add.ensures.added c.in_ok-add.ensures.others c.in_ok-add.ensures.count c.in_ok-add.ensures.one_more
