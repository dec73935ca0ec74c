use Rattle.std.proofs.Common.{◌≡◌, Bool, true, false, not, is_some, ◌&&◌, sym, ap, ◌∙◌}
use Rattle.rtp_wire.specs.PartsAt.{has_block, form_in, parts_at}
use Rattle.rtp_wire.proofs.AnyBlockLemmas.{is_some-other}
use Rattle.rtp_wire.proofs.packet.rtp_packet.RtpPacket.has_other_form.Goals as goal

pub returns-then-is_none : goal.returns-then-is_none
unfolding parts_at
returns-then-is_none c =
    let packet = c.args.self.now in
    let none : is_some (form_in packet.datagram.now) ≡ false = ap is_some (sym packet.announced) ∙ c.is_none.ensures ∙ ap not c.if-is_none.true in
    c.has_extension.ensures ∙ sym (is_some-other packet.datagram.now ∙ ap (λ (b : Bool). not b && has_block packet.datagram.now) none)

pub returns-else-is_none : goal.returns-else-is_none
returns-else-is_none c =
    let packet = c.args.self.now in
    let some : is_some (form_in packet.datagram.now) ≡ true = ap is_some (sym packet.announced) ∙ c.is_none.ensures ∙ ap not c.if-is_none.false in
    c.if-is_none.false ∙ sym (is_some-other packet.datagram.now ∙ ap (λ (b : Bool). not b && has_block packet.datagram.now) some)
