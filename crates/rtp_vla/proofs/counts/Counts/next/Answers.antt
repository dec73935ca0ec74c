use Rattle.rtp_vla.proofs.Common.{◌≡◌, ◌-◌, ◌*◌, ◌/◌, ◌%◌, ◌∷◌, ℕ, arith, ap, sym, ◌∙◌, length, counts_in}
use Rattle.rtp_vla.proofs.CountsLemmas.{length-counts_in, counts_in-next}
use Rattle.rtp_vla.proofs.counts.Counts.next.Goals as goal

pub overflow_sub-self : goal.overflow_sub-self
overflow_sub-self c = omega (arith, c.requires, ap length c.self.view_is, length-counts_in c.self.inside.left c.self.inside.bits)

pub returns-clause-next : goal.returns-clause-next
returns-clause-next c =
    let left = counts_in (c.self.inside.left - 1) (c.self.inside.bits * 4 % 4294967296) in
    let all : c.args.self.now ≡ c.self.inside.bits / 1073741824 ∷ left =
    sym c.self.view_is
    ∙ counts_in-next c.self.inside.left c.self.inside.bits (omega (arith, c.requires, ap length c.self.view_is, length-counts_in c.self.inside.left c.self.inside.bits)) in
    all ∙ ap (λ (n : ℕ). n ∷ left) (sym (c.first-count.ensures.first _ _ all))
