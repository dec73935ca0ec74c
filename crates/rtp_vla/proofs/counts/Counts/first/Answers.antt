use Rattle.std.proofs.Common.{◌≤◌, arith, ap, sym, ◌∙◌, length}
use Rattle.rtp_vla.proofs.CountsLemmas.{length-counts_in, counts_in-next, first_is}
use Rattle.rtp_vla.proofs.counts.Counts.first.Goals as goal

pub returns-clause-first : goal.returns-clause-first
returns-clause-first c count left is =
    let some : 1 ≤ c.self.inside.left = omega (arith, c.requires, ap length c.self.view_is, length-counts_in c.self.inside.left c.self.inside.bits) in
    first_is _ _ _ _ (sym (counts_in-next c.self.inside.left c.self.inside.bits some) ∙ c.self.view_is ∙ is)
