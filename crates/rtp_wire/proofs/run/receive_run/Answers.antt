use Rattle.rtp_wire.proofs.Common.{◌≡◌, ℕ, ◌+◌, List, [], ◌∷◌, ◌++◌, map, length, get_or, sym, ap, ◌∙◌, subst, arith, Option, Vec, get_or-map, length-map, length_push, Verdict, PacketId, packet_id_in, IsPacketId, at_source, taken_of, TakesOnce-run, SoFarEach, SoFarEach-none, SoFarEach-more, AllZip-at_source}
use Rattle.rtp_wire.proofs.SendingLemmas.{AreTrueVerdicts-sent}
use Rattle.rtp_wire.proofs.RunLemmas.{ReadSoFar-none, ReadSoFar-more, ReadSoFar-all, AreTrueVerdicts-of, AreVerdictsBySource-read, AreVerdicts-each, AreTrueVerdicts-sent_each}
use Rattle.rtp_wire.proofs.run.receive_run.Goals as goal

pub loop-datagram-init : goal.loop-datagram-init
loop-datagram-init c = (
  ReadSoFar-none (λ packet_ids. SoFarEach packet_ids c.in_ok-verdicts.verdicts.items c.new-receivers.result)
      (subst (λ (vs : List Verdict). SoFarEach [] vs c.new-receivers.result) (sym c.in_ok-verdicts.ensures.items) (SoFarEach-none c.new-receivers.result c.new-receivers.ensures)),
  c.in_ok-verdicts.ensures.exact,
  ap length c.in_ok-verdicts.ensures.items,
)

pub loop-datagram-preserved : goal.loop-datagram-preserved
loop-datagram-preserved c =
    let bytes = λ (d : Vec ℕ). d.items in
    let datagrams = map bytes c.args.datagrams.now in
    let done = c.loop-datagram.datagram-index in
    let verdicts = c.loop-datagram.verdicts.items in
    let found = c.loop-datagram.invariant.0 in
    let taken = taken_of found.packet_ids verdicts in
    let many = length-map c.args.datagrams.now bytes in
    let here : get_or datagrams done [] ≡ c.deref.result.now =
    get_or-map bytes c.args.datagrams.now done c.datagram-item.result [] c.loop-datagram-test.true
    ∙ ap bytes (sym c.datagram-item.is) ∙ sym c.deref.ensures.value in
    let packet_id : Option PacketId = packet_id_in c.packet_id.result in
    let After : List (Option PacketId) → Type 0 = λ packet_ids. SoFarEach packet_ids c.push_reserved.new.self.items c.verdict_by_source.new.receivers in
    let more = SoFarEach-more found.packet_ids packet_id verdicts c.in_ok-verdict.verdict c.loop-datagram.receivers c.verdict_by_source.new.receivers found.so_far
    (c.in_ok-verdict.ensures.verdict 0 taken found.so_far.holds) (c.in_ok-verdict.ensures.after 0 taken found.so_far.holds) in (
      ReadSoFar-more datagrams done packet_id (λ packet_ids. SoFarEach packet_ids verdicts c.loop-datagram.receivers) After (omega (arith, many, c.loop-datagram-test.true)) found
          (λ exts. subst (λ (d : List ℕ). IsPacketId exts d packet_id) (sym here) (c.packet_id.ensures exts))
          (subst (λ (vs : List Verdict). SoFarEach (found.packet_ids ++ packet_id ∷ []) vs c.verdict_by_source.new.receivers) (sym c.push_reserved.ensures.items) more),
      c.push_reserved.ensures.capacity ∙ c.loop-datagram.invariant.1,
      ap length c.push_reserved.ensures.items ∙ length_push verdicts c.in_ok-verdict.verdict ∙ ap (λ (k : ℕ). k + 1) c.loop-datagram.invariant.2,
    )

pub returns-clause-any_map : goal.returns-clause-any_map
returns-clause-any_map c other =
    let bytes = λ (d : Vec ℕ). d.items in
    let datagrams = map bytes c.args.datagrams.now in
    let verdicts = c.loop-datagram.verdicts.items in
    AreVerdictsBySource-read other datagrams verdicts c.loop-datagram.receivers
    (ReadSoFar-all datagrams c.loop-datagram.datagram-index (λ ids. SoFarEach ids verdicts c.loop-datagram.receivers) (omega (arith, length-map c.args.datagrams.now bytes)) c.loop-datagram.invariant.0)

pub returns-clause-verdicts : goal.returns-clause-verdicts
returns-clause-verdicts c = returns-clause-any_map c c.args.exts.now

pub returns-clause-isolated : goal.returns-clause-isolated
returns-clause-isolated c packet_ids read source =
    let bytes = λ (d : Vec ℕ). d.items in
    let datagrams = map bytes c.args.datagrams.now in
    let verdicts = c.loop-datagram.verdicts.items in
    AreVerdicts-each c.args.exts.now c.args.exts.now datagrams verdicts c.loop-datagram.receivers packet_ids source
    (ReadSoFar-all datagrams c.loop-datagram.datagram-index (λ ids. SoFarEach ids verdicts c.loop-datagram.receivers) (omega (arith, length-map c.args.datagrams.now bytes)) c.loop-datagram.invariant.0) read

pub returns-clause-once : goal.returns-clause-once
returns-clause-once c packet_ids read source =
    let are = returns-clause-isolated c packet_ids read source in
    TakesOnce-run 0 are.packet_ids (at_source source packet_ids c.loop-datagram.verdicts.items) are.run

pub returns-clause-true_numbers : goal.returns-clause-true_numbers
returns-clause-true_numbers c numbers packet_ids read source true_are =
    let datagrams = map (λ (d : Vec ℕ). d.items) c.args.datagrams.now in
    AreTrueVerdicts-of c.args.exts.now (at_source source packet_ids datagrams) (at_source source packet_ids c.loop-datagram.verdicts.items) (at_source source packet_ids packet_ids) numbers
    (returns-clause-isolated c packet_ids read source) (AllZip-at_source (IsPacketId c.args.exts.now) source packet_ids datagrams packet_ids read) true_are

pub returns-clause-sent_among : goal.returns-clause-sent_among
returns-clause-sent_among c senders headers numbers packet_ids read source sent =
    let bytes = λ (d : Vec ℕ). d.items in
    let datagrams = map bytes c.args.datagrams.now in
    let verdicts = c.loop-datagram.verdicts.items in
    let alone = AreVerdicts-each c.args.exts.now senders datagrams verdicts c.loop-datagram.receivers packet_ids source
    (ReadSoFar-all datagrams c.loop-datagram.datagram-index (λ ids. SoFarEach ids verdicts c.loop-datagram.receivers) (omega (arith, length-map c.args.datagrams.now bytes)) c.loop-datagram.invariant.0) read in
    AreTrueVerdicts-sent senders headers numbers (at_source source packet_ids datagrams) (at_source source packet_ids verdicts) alone sent

pub returns-clause-sent : goal.returns-clause-sent
returns-clause-sent c senders headers numbers sent =
    let bytes = λ (d : Vec ℕ). d.items in
    let datagrams = map bytes c.args.datagrams.now in
    let verdicts = c.loop-datagram.verdicts.items in
    AreTrueVerdicts-sent_each senders headers numbers datagrams verdicts c.loop-datagram.receivers
    (ReadSoFar-all datagrams c.loop-datagram.datagram-index (λ ids. SoFarEach ids verdicts c.loop-datagram.receivers) (omega (arith, length-map c.args.datagrams.now bytes)) c.loop-datagram.invariant.0) sent
