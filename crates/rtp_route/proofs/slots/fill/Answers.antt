use Rattle.std.proofs.Common.{ℕ, List, [], arith, refl}
use Rattle.std.specs.Borrow.{Bor}
use Rattle.rtp_route.specs.declared.slots.Slot.{Slot}
use Rattle.rtp_route.proofs.SlotLemmas.{length-at}
use Rattle.rtp_route.proofs.slots.fill.Goals as goal

pub put_few-requires : goal.put_few-requires
put_few-requires c =
    let slot : Slot = record { start = 0; len = 0 } in
    let bytes : Bor (List ℕ) = record { ref_ptr = (0, 0); now = [] } in
    let at = c.requires.within c.loop-index.index slot (omega (arith, c.loop-index-test.true)) in
    omega (arith, at, length-at c.args.slots.now c.args.contents.now c.loop-index.index slot bytes refl c.requires.lengths, c.loop-index.invariant.1)
