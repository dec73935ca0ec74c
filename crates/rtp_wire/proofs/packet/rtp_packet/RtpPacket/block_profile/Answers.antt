use Rattle.rtp_wire.proofs.Common.{◌≡◌, ◌+◌, ◌≤◌, ℕ, length, drop, arith, sym, ap, ◌∙◌, word_at, sources_end}
use Rattle.rtp_wire.specs.PartsAt.{parts_at}
use Rattle.rtp_wire.proofs.HeaderFound.{HasHeader-packet}
use Rattle.rtp_wire.proofs.PartsLemmas.{body_within}
use Rattle.rtp_wire.proofs.ChangedPackets.{if_none}
use Rattle.rtp_wire.proofs.AnyBlockLemmas.{profile-clear, other-clear, word-after, profile-set, IsFormWord-block, profile-other}
use Rattle.rtp_wire.proofs.packet.rtp_packet.RtpPacket.block_profile.Goals as goal
use Rattle.rtp_wire.proofs.packet.rtp_packet.RtpPacket.block_profile.Goals.{After-sources_end-start, After-from_be_bytes}

pub returns-then-not-has_extension-clause-bits : goal.returns-then-not-has_extension-clause-bits
unfolding parts_at
returns-then-not-has_extension-clause-bits c = profile-clear c.args.self.now.datagram.now (sym c.has_extension.ensures ∙ c.if-not-has_extension.true)

pub returns-then-not-has_extension-clause-other : goal.returns-then-not-has_extension-clause-other
unfolding parts_at
returns-then-not-has_extension-clause-other c = if_none _ _ (other-clear c.args.self.now.datagram.now (sym c.has_extension.ensures ∙ c.if-not-has_extension.true))

-- the four bytes before the body are there
within : (c : After-sources_end-start) → c.sources_end-start.result + 4 ≤ length c.args.self.now.datagram.now
unfolding parts_at
within c =
    let packet = c.args.self.now in
    let fits = packet.within in
    omega (arith, c.sources_end-start.ensures, body_within _ _ _ (HasHeader-packet packet) (sym c.has_extension.ensures ∙ c.if-not-has_extension.false))

pub bounds-self-start : goal.bounds-self-start
bounds-self-start c = omega (arith, within c)

pub bounds-self-start-2 : goal.bounds-self-start-2
bounds-self-start-2 c = omega (arith, within c.before)

profile_is : (c : After-from_be_bytes) → c.from_be_bytes.result ≡ word_at (drop (sources_end c.args.self.now.datagram.now) c.args.self.now.datagram.now) 0
profile_is c =
    let bytes = c.args.self.now.datagram.now in
    c.from_be_bytes.ensures ∙ sym (word-after bytes c.sources_end-start.result) ∙ ap (λ (k : ℕ). word_at (drop k bytes) 0) c.sources_end-start.ensures

pub returns-clause-bits : goal.returns-clause-bits
unfolding parts_at
returns-clause-bits c = profile-set c.args.self.now.datagram.now _ (sym c.has_extension.ensures ∙ c.if-not-has_extension.false) (profile_is c)

pub returns-clause-form : goal.returns-clause-form
unfolding parts_at
returns-clause-form c = IsFormWord-block c.args.self.now.datagram.now _ (sym c.has_extension.ensures ∙ c.if-not-has_extension.false) (profile_is c)

pub returns-clause-other : goal.returns-clause-other
returns-clause-other c = profile-other c.args.self.now.datagram.now _ (profile_is c)
