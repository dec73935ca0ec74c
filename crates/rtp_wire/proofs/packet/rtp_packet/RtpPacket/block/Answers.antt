use Rattle.rtp_wire.proofs.Common.{rules, arith, Some, ap, ◌∙◌, ◌≤◌, ℕ, slice_range}
use Rattle.rtp_wire.proofs.PartsLemmas.{block-header, has_block-form, body_within}
use Rattle.rtp_wire.proofs.HeaderFound.{HasHeader-packet}
use Rattle.rtp_wire.proofs.BlockLemmas.{bytes-slice_range}
use Rattle.rtp_wire.proofs.packet.rtp_packet.RtpPacket.block.Goals as goal

pub returns-in_default-clause-parts : goal.returns-in_default-clause-parts
returns-in_default-clause-parts c = rw c.in_default.is at (block-header _ _ _ (HasHeader-packet c.args.self.now))

-- the body begins within the header
fits : (c : goal.After-way_told-1) → c.body_start-start.result ≤ c.args.self.now.header_len
fits c =
    let header = HasHeader-packet c.args.self.now in
    omega (arith, c.body_start-start.ensures, body_within _ _ _ header (has_block-form _ _ _ c.in-Some.form header c.in-Some.is))

pub slice_bounds-result-count : goal.slice_bounds-result-count
slice_bounds-result-count c = fits c

pub slice_bounds-result-start : goal.slice_bounds-result-start
slice_bounds-result-start c = let start = fits c in search rules

pub returns-clause-parts : goal.returns-clause-parts
returns-clause-parts c =
    let bytes = c.args.self.now.datagram.now in
    ap (λ (start : ℕ). Some (c.in-Some.form, slice_range bytes start c.args.self.now.header_len)) (omega (arith, c.body_start-start.ensures))
    ∙ (rw c.in-Some.is at (block-header _ _ _ (HasHeader-packet c.args.self.now)))

pub returns-clause-bytes : goal.returns-clause-bytes
returns-clause-bytes c i = bytes-slice_range c.args.self.now.datagram.now _ _ c.args.self.now.bytes i
