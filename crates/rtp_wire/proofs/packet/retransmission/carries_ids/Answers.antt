use Rattle.rtp_wire.proofs.Common.{◌≡◌, true, Some, None, length, refl, ap, ◌∙◌, arith, OnTrue_from, OnFalse_from, new_id, PacketParts}
use Rattle.rtp_wire.proofs.ChangedPackets.{HasHeader-laid_out}
use Rattle.rtp_wire.proofs.RetransmissionHeaders.{parts-of_bytes, carried-told, high-told}
use Rattle.rtp_wire.proofs.packet.retransmission.carries_ids.Goals as goal

pub new-requires-clause-announced : goal.new-requires-clause-announced
new-requires-clause-announced c = (HasHeader-laid_out c.args.header.now (length c.args.header.now) c.args.form c.requires).announced

pub new-requires-clause-ends : goal.new-requires-clause-ends
new-requires-clause-ends c = (HasHeader-laid_out c.args.header.now (length c.args.header.now) c.args.form c.requires).ends

pub returns-in-Some-clause-carried : goal.returns-in-Some-clause-carried
returns-in-Some-clause-carried c parts is =
    let block : Some (c.in-Some.form, c.in-Some.body.now) ≡ parts.block =
    c.in-Some.ensures.parts ∙ ap (λ (p : PacketParts). p.block) (parts-of_bytes c.args.header.now _ parts c.new.ensures is) in
    OnTrue_from _ _ (λ yes_all. carried-told (new_id c.args.ids.now) c.can_renumber.result _ parts block c.can_renumber.ensures yes_all)

pub returns-in-Some-clause-high : goal.returns-in-Some-clause-high
returns-in-Some-clause-high c parts is =
    let block : Some (c.in-Some.form, c.in-Some.body.now) ≡ parts.block =
    c.in-Some.ensures.parts ∙ ap (λ (p : PacketParts). p.block) (parts-of_bytes c.args.header.now _ parts c.new.ensures is) in
    OnFalse_from _ _ (high-told (new_id c.args.ids.now) c.can_renumber.result _ c.args.header.now parts (λ i. omega (arith, c.type_inv.header i)) is block c.can_renumber.ensures)

pub returns-in-None-clause-carried : goal.returns-in-None-clause-carried
returns-in-None-clause-carried c parts is =
    let block : None ≡ parts.block =
    c.in-None.ensures.parts ∙ ap (λ (p : PacketParts). p.block) (parts-of_bytes c.args.header.now _ parts c.new.ensures is) in
    carried-told (new_id c.args.ids.now) true _ parts block (λ elements none. (λ _. tt, λ _. refl)) refl
