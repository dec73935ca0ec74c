use Rattle.std.proofs.Common.{◌≡◌, ℕ, sym, ap, ◌∙◌, subst, rules}
use Rattle.std.specs.Prelude.{IsSome, IfOk}
use Rattle.rtp_receive.specs.declared.receiver.Verdict.{Verdict}
use Rattle.rtp_wire.specs.Packet.{PacketParts, IsPacket}
use Rattle.rtp_receive.specs.Receiver.{Holds, IsNumberOf, IsJudged}
use Rattle.rtp_receive.specs.Receivers.{receiver_of, state_of}
use Rattle.rtp_uses.proofs.receiving.receive_datagram.Goals as goal

source_is : (c : goal.After-receive) (parts : PacketParts) → IsPacket c.args.datagram.now parts → c.ssrc.result ≡ parts.ssrc
source_is c parts is = c.ssrc.ensures ∙ ap (λ (p : PacketParts). p.ssrc) (c.in-Ok.ensures.only parts is)

pub returns-clause-verdict : goal.returns-clause-verdict
returns-clause-verdict c parts is count taken =
    let low_is : c.sequence_number.result ≡ parts.sequence_number = c.sequence_number.ensures ∙ ap (λ (p : PacketParts). p.sequence_number) (c.in-Ok.ensures.only parts is) in
    subst (λ (source : ℕ). Holds (state_of c.args.receivers.now source) count taken → IfOk c.receive.result (λ (verdict : Verdict). (number : ℕ) × IsNumberOf count taken parts.sequence_number number × IsJudged taken number verdict))
    (source_is c parts is)
    (subst (λ (low : ℕ). Holds (state_of c.args.receivers.now c.ssrc.result) count taken → IfOk c.receive.result (λ (verdict : Verdict). (number : ℕ) × IsNumberOf count taken low number × IsJudged taken number verdict))
    low_is (c.receive.ensures.verdict count taken))

pub returns-in_default-clause-verdict : goal.returns-in_default-clause-verdict
returns-in_default-clause-verdict c parts is count taken holds = absurd (c.in_default.ensures.only parts is)

pub returns-clause-succeeds : goal.returns-clause-succeeds
returns-clause-succeeds c parts is known =
    let here : IsSome (receiver_of c.args.receivers.now c.ssrc.result) = subst (λ (source : ℕ). IsSome (receiver_of c.args.receivers.now source)) (sym (source_is c parts is)) known in
    search rules
