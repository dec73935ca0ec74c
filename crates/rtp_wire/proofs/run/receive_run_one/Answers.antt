use Rattle.rtp_wire.proofs.Common.{◌≡◌, ℕ, ◌+◌, List, [], ◌∷◌, ◌++◌, map, length, get_or, refl, sym, ap, ◌∙◌, subst, arith, Option, Vec, get_or-map, length-map, length_push, Verdict, PacketId, taken_by, SoFar, SoFar-none, SoFar-more, TakesOnce-run, packet_id_in, IsPacketId}
use Rattle.rtp_receive.specs.Receiver.{Holds, IsNothing}
use Rattle.rtp_wire.proofs.RunLemmas.{ReadSoFar-none, ReadSoFar-more, ReadSoFar-all, AreVerdicts-read, AreTrueVerdicts-of}
use Rattle.rtp_wire.proofs.SendingLemmas.{AreTrueVerdicts-sent}
use Rattle.rtp_wire.proofs.run.receive_run_one.Goals as goal

nothing : IsNothing (taken_by [])
nothing n = refl

pub loop-datagram-init : goal.loop-datagram-init
loop-datagram-init c =
    let holds = subst (λ state. Holds state 0 (taken_by [])) (sym c.new-receiver.ensures) (refl, nothing) in (
      ReadSoFar-none (λ packet_ids. SoFar packet_ids c.in_ok-verdicts.verdicts.items c.new-receiver.result)
          (subst (λ (vs : List Verdict). SoFar [] vs c.new-receiver.result) (sym c.in_ok-verdicts.ensures.items) (SoFar-none c.new-receiver.result holds)),
      c.in_ok-verdicts.ensures.exact,
      ap length c.in_ok-verdicts.ensures.items,
    )

pub loop-datagram-preserved : goal.loop-datagram-preserved
loop-datagram-preserved c =
    let bytes = λ (d : Vec ℕ). d.items in
    let datagrams = map bytes c.args.datagrams.now in
    let done = c.loop-datagram.datagram-index in
    let verdicts = c.loop-datagram.verdicts.items in
    let found = c.loop-datagram.invariant.0 in
    let many = length-map c.args.datagrams.now bytes in
    let here : get_or datagrams done [] ≡ c.deref.result.now =
    get_or-map bytes c.args.datagrams.now done c.datagram-item.result [] c.loop-datagram-test.true
    ∙ ap bytes (sym c.datagram-item.is) ∙ sym c.deref.ensures.value in
    let packet_id : Option PacketId = packet_id_in c.packet_id.result in
    let After : List (Option PacketId) → Type 0 = λ packet_ids. SoFar packet_ids c.push_reserved.new.self.items c.verdict_on.new.receiver in
    let more = SoFar-more found.packet_ids verdicts c.loop-datagram.receiver c.verdict_on.new.receiver packet_id c.verdict_on.result found.so_far
    (c.verdict_on.ensures.verdict 0 (taken_by verdicts) found.so_far.holds) (c.verdict_on.ensures.after 0 (taken_by verdicts) found.so_far.holds) in (
      ReadSoFar-more datagrams done packet_id (λ packet_ids. SoFar packet_ids verdicts c.loop-datagram.receiver) After (omega (arith, many, c.loop-datagram-test.true)) found
          (λ exts. subst (λ (d : List ℕ). IsPacketId exts d packet_id) (sym here) (c.packet_id.ensures exts))
          (subst (λ (vs : List Verdict). SoFar (found.packet_ids ++ packet_id ∷ []) vs c.verdict_on.new.receiver) (sym c.push_reserved.ensures.items) more),
      c.push_reserved.ensures.capacity ∙ c.loop-datagram.invariant.1,
      ap length c.push_reserved.ensures.items ∙ length_push verdicts c.verdict_on.result ∙ ap (λ (k : ℕ). k + 1) c.loop-datagram.invariant.2,
    )

pub returns-clause-any_map : goal.returns-clause-any_map
returns-clause-any_map c other =
    let bytes = λ (d : Vec ℕ). d.items in
    let datagrams = map bytes c.args.datagrams.now in
    let verdicts = c.loop-datagram.verdicts.items in
    AreVerdicts-read other datagrams verdicts c.loop-datagram.receiver
    (ReadSoFar-all datagrams c.loop-datagram.datagram-index (λ ids. SoFar ids verdicts c.loop-datagram.receiver) (omega (arith, length-map c.args.datagrams.now bytes)) c.loop-datagram.invariant.0)

pub returns-clause-verdicts : goal.returns-clause-verdicts
returns-clause-verdicts c = returns-clause-any_map c c.args.exts.now

pub returns-clause-once : goal.returns-clause-once
returns-clause-once c =
    let found = c.loop-datagram.invariant.0 in
    TakesOnce-run 0 found.packet_ids c.loop-datagram.verdicts.items found.so_far.run

pub returns-clause-true_numbers : goal.returns-clause-true_numbers
returns-clause-true_numbers c packet_ids numbers read are =
    let datagrams = map (λ (d : Vec ℕ). d.items) c.args.datagrams.now in
    AreTrueVerdicts-of c.args.exts.now datagrams c.loop-datagram.verdicts.items packet_ids numbers (returns-clause-any_map c c.args.exts.now) read are

pub returns-clause-sent : goal.returns-clause-sent
returns-clause-sent c senders headers numbers sent =
    let datagrams = map (λ (d : Vec ℕ). d.items) c.args.datagrams.now in
    AreTrueVerdicts-sent senders headers numbers datagrams c.loop-datagram.verdicts.items (returns-clause-any_map c senders) sent
