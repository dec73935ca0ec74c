use Rattle.rtp_c.proofs.Common.{◌≡◌, ℕ, List, ◌<◌, true, length, refl, sym, subst, rules, false≢true, HasUnpadded, PacketParts}
use Rattle.rtp_wire.specs.Padding.{padding_count}
use Rattle.rtp_c.proofs.StatusLemmas.{bad_field≢ok}
use Rattle.rtp_c.proofs.ChangeLemmas.{parts-in}
use Rattle.rtp_c.proofs.padding.rtpw_remove_padding.Goals as goal

has_unpadded : (q parts : PacketParts) (new bytes : List ℕ) (len : ℕ) → q ≡ parts → new ≡ bytes → HasUnpadded q new len → HasUnpadded parts bytes len
has_unpadded q parts new bytes len parts-is bytes-is has =
    subst (λ (b : List ℕ). HasUnpadded parts b len) bytes-is (subst (λ (p : PacketParts). HasUnpadded p new len) parts-is has)

pub returns-in_default-clause-too_long : goal.returns-in_default-clause-too_long
returns-in_default-clause-too_long c parts is =
    let same = parts-in c.args.datagram.now parts c.new-packet.result is c.new-packet.ensures.same_bytes in (
      λ _. subst (λ (q : PacketParts). (q.has_padding ≡ true) × (length q.payload < padding_count q.payload)) same (c.in_default.ensures.refused.0 refl),
      λ _. refl,
    )

pub returns-in-Some-clause-unpadded : goal.returns-in-Some-clause-unpadded
returns-in-Some-clause-unpadded c parts is ok =
    has_unpadded _ parts c.remove_padding.new.self.datagram.now _ c.in-Some.left
    (parts-in c.args.datagram.now parts c.new-packet.result is c.new-packet.ensures.same_bytes) (search rules) c.in-Some.ensures.packet

pub returns-in-Some-clause-too_long : goal.returns-in-Some-clause-too_long
returns-in-Some-clause-too_long c parts is =
    let same = sym (parts-in c.args.datagram.now parts c.new-packet.result is c.new-packet.ensures.same_bytes) in (
      λ wrong. absurd (bad_field≢ok (sym wrong)),
      λ both. absurd (false≢true (sym (c.in-Some.ensures.refused.1
          (subst (λ (q : PacketParts). (q.has_padding ≡ true) × (length q.payload < padding_count q.payload)) same both)))),
    )

pub returns-in-Err-clause-too_long : goal.returns-in-Err-clause-too_long
returns-in-Err-clause-too_long c parts is = absurd (c.in-Err.ensures.only parts is)

pub returns-in-Err-clause-otherwise : goal.returns-in-Err-clause-otherwise
returns-in-Err-clause-otherwise c parts is not_ok = absurd (c.in-Err.ensures.only parts is)

pub returns-in-Some-clause-cause : goal.returns-in-Some-clause-cause
returns-in-Some-clause-cause c none = absurd (false≢true (c.in-Ok.ensures.refused.1 none))
