use Rattle.rtp_wire.proofs.Common.{◌≡◌, ◌↔◌, Option, Some, arith, sym, subst, IsTrue, ExtensionsForm, parts_of}
use Rattle.rtp_wire.proofs.PartsLemmas.{IsPacket-found}
use Rattle.rtp_wire.proofs.PutPlanLemmas.{IsFound, found-some, found-none, short-body, form-tested}
use Rattle.rtp_wire.proofs.packet.rewriting.Plan.new.Goals as goal
use Rattle.rtp_wire.proofs.packet.rewriting.Plan.new.Goals.{After-eq, in-Some, in-None}

found : (c : After-eq) → IsFound (parts_of c.args.packet.now).block c.args.new_form c.args.goes c.match-block.form
found c = elim c.match-block.branch [
  | in-Some w ↦
      subst (IsFound (parts_of c.args.packet.now).block c.args.new_form c.args.goes) (sym w.form-is)
      (found-some c.block.result _ c.args.new_form c.args.goes _ _ _ c.block.ensures.parts w.in-Some.is w.survey_of.ensures)
  | in-None w ↦
      subst (IsFound (parts_of c.args.packet.now).block c.args.new_form c.args.goes) (sym w.form-is)
      (found-none c.block.result _ c.args.new_form c.args.goes _ c.block.ensures.parts w.in-None.is w.survey_of-in-None.ensures)
]

pub returns-clause-plan : goal.returns-clause-plan
returns-clause-plan c =
    let all = found (goal.at.returns-clause-plan c).After-eq in
    record {
      is_packet = IsPacket-found c.args.packet.now;
      no_other = c.requires;
      block_is = c.sources_end.ensures;
      payload_is = c.header_len.ensures;
      body_is = all.0;
      few = omega (arith, all.0, short-body c.args.packet.now);
      was_form = all.1;
      survey_is = all.2;
      announced = subst (λ (f : Option ExtensionsForm). IsTrue c.eq.result ↔ (f ≡ Some c.args.new_form)) c.form.ensures (form-tested c.form.result c.args.new_form c.eq.result c.eq.ensures);
    }
