use Rattle.std.proofs.Common.{◌+◌, ◌≤◌, length, arith}
use Rattle.rtp_route.specs.declared.slots.Slot.{Slot}
use Rattle.rtp_route.specs.Template.{slot_lengths, pieces, filled_in}
use Rattle.rtp_route.proofs.LengthLemmas.{joined-at, joined-on, one-of}
use Rattle.rtp_route.proofs.slots.fill_joined.Goals as goal

pub split_at-requires : goal.split_at-requires
split_at-requires g c = (joined-at (g.S.SlotList.slots c.args.slots) c.loop-index.index c.at-slot.result c.loop-index.left.now c.at-slot.ensures c.loop-index.invariant.2).0

pub put_piece-requires : goal.put_piece-requires
put_piece-requires g c =
    let lies = one-of (λ (s : Slot). s.start + s.len ≤ length c.args.buf.now) (g.S.SlotList.slots c.args.slots) c.loop-index.index c.at-slot.result c.at-slot.ensures c.requires.within in
    omega (arith, lies, c.split_at.ensures, c.loop-index.invariant.1)

pub loop-index-preserved : goal.loop-index-preserved
loop-index-preserved g c =
    let slots = g.S.SlotList.slots c.args.slots in
    let i = c.loop-index.index in
    let slot = c.at-slot.result in
    let left = c.loop-index.left.now in
    let next = joined-on slots i slot left c.loop-index.buf (filled_in slots (pieces (slot_lengths slots) c.args.bytes.now) c.args.buf.now) c.at-slot.ensures c.loop-index.invariant.0 in
    let after = (joined-at slots i slot left c.at-slot.ensures c.loop-index.invariant.2).1 in (
      rw (c.put_piece.ensures, c.split_at.ensures.front, c.split_at.ensures.back) next,
      omega (arith, c.put_piece.auto.buf, c.loop-index.invariant.1),
      rw c.split_at.ensures.back after,
    )
