use Rattle.std.proofs.Common.{arith}
use Rattle.rtp_ext.proofs.ElementLemmasOfBodies.{AreElements-found, AreElements-only}
use Rattle.rtp_ext.proofs.elements.Elements.new.Goals as goal

pub returns-clause-found : goal.returns-clause-found
returns-clause-found c =
    AreElements-found c.args.form c.args.block.now (λ i. omega (arith, c.type_inv.block i))

pub returns-clause-only : goal.returns-clause-only
returns-clause-only c = AreElements-only c.args.form c.args.block.now
