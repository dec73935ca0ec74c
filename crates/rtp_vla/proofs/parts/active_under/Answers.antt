use Rattle.std.proofs.Common.{arith, ap, ◌*◌, ℕ, length, sym, ◌∙◌}
use Rattle.rtp_vla.proofs.AllocationReadingLemmas.{active_shared}
use Rattle.rtp_vla.proofs.parts.active_under.Goals as goal

pub returns-clause-active : goal.returns-clause-active
returns-clause-active c =
    ap (λ (k : ℕ). length c.args.masks.now * k) c.active_in.ensures.active ∙ sym (active_shared c.args.masks.now c.args.shared (c.requires.shared (omega arith)))
