use Rattle.std.proofs.Common.{arith}
use Rattle.rtp_base.proofs.BitmapLemmas.{masked-set, masked-set-already, masked-clear, with-at}
use Rattle.rtp_base.proofs.seq_no_window.set.Goals as goal

pub returns-then-bits-bit-ne0-clause-clear : goal.returns-then-bits-bit-ne0-clause-clear
returns-then-bits-bit-ne0-clause-clear c = let is = masked-set c.args.bits.now c.args.index c.requires c.if-bits-bit-ne0.true in grind arith

pub returns-then-bits-bit-ne0-clause-after : goal.returns-then-bits-bit-ne0-clause-after
returns-then-bits-bit-ne0-clause-after c k below = masked-set-already c.args.bits.now c.args.index k c.requires c.if-bits-bit-ne0.true

pub returns-clause-clear : goal.returns-clause-clear
returns-clause-clear c = let is = masked-clear c.args.bits.now c.args.index c.requires c.if-bits-bit-ne0.false in grind arith

pub returns-clause-after : goal.returns-clause-after
returns-clause-after c k below = with-at c.args.bits.now c.args.index k c.requires below
