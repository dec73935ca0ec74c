use Rattle.rtp_base.proofs.Common.{◌≡◌, ◌*◌, inl, inr, true, false, get_or, sym, subst, arith, cases_Bool, WindowState, KeepsOf, including, ring_bits}
use Rattle.rtp_base.proofs.WindowLemmas.{KeepsOf-first, KeepsOf-shown}
use Rattle.rtp_base.proofs.wide_window.WideWindow.take.Goals as goal

pub invariant_of-self : goal.invariant_of-self
invariant_of-self g c =
    let first : get_or (ring_bits c.ring_take.new.words c.ring_take.new.greatest) 0 false ≡ true =
    elim (cases_Bool c.ring_take.result) [
      | inl done ↦
          let recorded = rw c.self.invariant.1 at c.ring_take.ensures.recorded in
          let some = KeepsOf-shown (64 * g.row.N) c.self.inside.greatest (ring_bits c.self.inside.words c.self.inside.greatest) (omega (arith, c.self.invariant.0)) c.self.invariant.2 in
          KeepsOf-first (64 * g.row.N) c.ring_take.new.greatest (ring_bits c.ring_take.new.words c.ring_take.new.greatest) (including some.0 c.args.seq)
          (omega (arith, c.self.invariant.0)) (recorded some.0 some.1 done)
      | inr refused ↦ let same = c.ring_take.ensures.refused refused in rw (same.0, same.1) c.self.invariant.2
    ]
    in
    (c.self.invariant.0, omega (arith, c.self.invariant.1), first)

pub returns-clause-accepts : goal.returns-clause-accepts
returns-clause-accepts g c taken keeps =
    let is = rw c.self.invariant.1 at c.ring_take.ensures.accepts in
    is taken (subst (λ (w : WindowState). KeepsOf (64 * g.row.N) w taken) (sym c.self.view_is) keeps)

pub returns-clause-recorded : goal.returns-clause-recorded
returns-clause-recorded g c taken keeps =
    let is = rw c.self.invariant.1 at c.ring_take.ensures.recorded in
    is taken (subst (λ (w : WindowState). KeepsOf (64 * g.row.N) w taken) (sym c.self.view_is) keeps)
