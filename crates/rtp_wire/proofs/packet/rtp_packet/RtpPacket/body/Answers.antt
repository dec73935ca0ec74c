use Rattle.rtp_wire.proofs.Common.{rules, arith, sym, ap, ◌∙◌, ◌≡◌, ◌+◌, ◌≤◌, ℕ, slice_range, sources_end}
use Rattle.rtp_wire.specs.PartsAt.{header_end, parts_at}
use Rattle.rtp_wire.proofs.PartsLemmas.{body_within}
use Rattle.rtp_wire.proofs.HeaderFound.{HasHeader-packet}
use Rattle.rtp_wire.proofs.BlockLemmas.{bytes-slice_range}
use Rattle.rtp_wire.proofs.ChangedPackets.{if_none}
use Rattle.rtp_wire.proofs.AnyBlockLemmas.{block-clear, other-clear, body-block, body-other}
use Rattle.rtp_wire.proofs.packet.rtp_packet.RtpPacket.body.Goals as goal

pub returns-then-not-has_extension-clause-block : goal.returns-then-not-has_extension-clause-block
unfolding parts_at
returns-then-not-has_extension-clause-block c = if_none _ _ (block-clear c.args.self.now.datagram.now (sym c.has_extension.ensures ∙ c.if-not-has_extension.true))

pub returns-then-not-has_extension-clause-other : goal.returns-then-not-has_extension-clause-other
unfolding parts_at
returns-then-not-has_extension-clause-other c = if_none _ _ (other-clear c.args.self.now.datagram.now (sym c.has_extension.ensures ∙ c.if-not-has_extension.true))

-- the body begins within the header
fits : (c : goal.After-way_told-1) → c.body_start-start.result ≤ c.args.self.now.header_len
unfolding parts_at
fits c = omega (arith, c.body_start-start.ensures, body_within _ _ _ (HasHeader-packet c.args.self.now) (sym c.has_extension.ensures ∙ c.if-not-has_extension.false))

pub slice_bounds-result-count : goal.slice_bounds-result-count
slice_bounds-result-count c = fits c

pub slice_bounds-result-start : goal.slice_bounds-result-start
slice_bounds-result-start c = let start = fits c in search rules

-- it is what stands between the four bytes and the end of the header
body_is : (c : goal.After-result-2-1) → slice_range c.args.self.now.datagram.now c.body_start-start.result c.args.self.now.header_len
    ≡ slice_range c.args.self.now.datagram.now (sources_end c.args.self.now.datagram.now + 4) (header_end c.args.self.now.datagram.now)
body_is c =
    let packet = c.args.self.now in
    ap (λ (k : ℕ). slice_range packet.datagram.now k packet.header_len) (omega (arith, c.body_start-start.ensures))
    ∙ ap (slice_range packet.datagram.now (sources_end packet.datagram.now + 4)) packet.ends

pub returns-clause-block : goal.returns-clause-block
returns-clause-block c = body-block c.args.self.now.datagram.now _ (body_is c)

pub returns-clause-other : goal.returns-clause-other
returns-clause-other c = body-other c.args.self.now.datagram.now _ (body_is c)

pub returns-clause-bytes : goal.returns-clause-bytes
returns-clause-bytes c i = bytes-slice_range c.args.self.now.datagram.now _ _ c.args.self.now.bytes i
