use Rattle.std.proofs.Common.{◌≡◌, ℕ, ◌+◌, List, [], ◌∷◌, ◌++◌, take, length, sym, ap, ◌∙◌, subst, arith}
use Rattle.std.specs.Prelude.{Option, Some, None}
use Rattle.std.proofs.lemmas.List.{get_or-map, length-map, length_push, take_more, take_all}
use Rattle.rtp_wire.specs.declared.header.rtp_header.RtpHeader.{RtpHeader}
use Rattle.rtp_receive.specs.declared.receiver.Verdict.{Verdict}
use Rattle.rtp_wire.specs.Sending.{packet_ids_of}
use Rattle.rtp_receive.specs.Verdicts.{PacketId, taken_by, IsRun}
use Rattle.rtp_wire.specs.PacketIds.{packet_id_of}
use Rattle.rtp_receive.proofs.TrueNumberLemmas.{AreTrueVerdicts-run}
use Rattle.rtp_receive.proofs.VerdictLemmas.{SoFar, SoFar-more}
use Rattle.rtp_uses.proofs.receiving.receive_each.Goals as goal

pub loop-header-preserved : goal.loop-header-preserved
loop-header-preserved c =
    let headers = c.args.headers.now in
    let packet_ids = packet_ids_of headers in
    let i = c.loop-header.header-index in
    let verdicts = c.loop-header.verdicts.items in
    let header = c.header-item.result in
    let packet_id = λ (h : RtpHeader). Some (packet_id_of h) in
    let so_far = c.loop-header.invariant.so_far in
    let one : take (i + 1) packet_ids ≡ take i packet_ids ++ packet_id header ∷ [] =
    take_more packet_ids i None (omega (arith, length-map headers packet_id, c.loop-header-test.true))
    ∙ ap (λ (r : Option PacketId). take i packet_ids ++ r ∷ []) (get_or-map packet_id headers i header None c.loop-header-test.true ∙ ap packet_id (sym c.header-item.is)) in
    record {
      so_far = subst (λ rs. SoFar rs c.push_reserved.new.self.items c.receive.new.self) (sym one)
          (subst (λ (vs : List Verdict). SoFar (take i packet_ids ++ packet_id header ∷ []) vs c.receive.new.self) (sym c.push_reserved.ensures.items)
          (SoFar-more (take i packet_ids) verdicts c.loop-header.receiver c.receive.new.self (packet_id header) c.receive.result so_far
          (c.receive.ensures.verdict 0 (taken_by verdicts) so_far.holds) (c.receive.ensures.after 0 (taken_by verdicts) so_far.holds)));
      room = c.push_reserved.ensures.capacity ∙ c.loop-header.invariant.room;
      as_many = ap length c.push_reserved.ensures.items ∙ length_push verdicts c.receive.result
          ∙ ap (λ (k : ℕ). k + 1) c.loop-header.invariant.as_many;
    }

pub returns : goal.returns
returns c numbers are =
    let headers = c.args.headers.now in
    let packet_ids = packet_ids_of headers in
    let whole = take_all c.loop-header.header-index packet_ids (omega (arith, length-map headers (λ h. Some (packet_id_of h)))) in
    AreTrueVerdicts-run 0 packet_ids c.loop-header.verdicts.items numbers
    (subst (λ rs. IsRun 0 rs c.loop-header.verdicts.items) whole c.loop-header.invariant.so_far.run) are
