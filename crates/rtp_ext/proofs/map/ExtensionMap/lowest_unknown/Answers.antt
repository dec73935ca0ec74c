use Rattle.std.proofs.Common.{rules, tests}
use Rattle.rtp_ext.proofs.RenamedIdLemmas.{AreLeft-next}
use Rattle.rtp_ext.proofs.map.ExtensionMap.lowest_unknown.Goals as goal

pub loop-id-preserved : goal.loop-id-preserved
loop-id-preserved c =
    AreLeft-next c.args.self.now c.args.ext.now c.loop-id.id-iterator _ (c.in-Some.id, c.in-Some.held.now) c.loop-id.invariant c.in-Some.ensures.steps
    (λ same. let told = c.if-eq.ensures in let false_is = c.if-eq.false in search (rules, tests, told, false_is, same))
