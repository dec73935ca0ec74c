use Rattle.rtp_c.proofs.Common.{refl, sym, ap, ◌∙◌, subst, false, get_or, arith, ring_bit, WindowState, HasStarted, StoredRestarting}
use Rattle.rtp_c.proofs.StoredWideLemmas.{highest_bit}
use Rattle.rtp_c.proofs.restarting.store.Goals.{in-None, in-Some}
use Rattle.rtp_c.proofs.restarting.store.Goals as goal

pub returns-clause-started : goal.returns-clause-started
returns-clause-started c started = elim c.match-window.branch [
  | in-None w ↦ absurd (omega (arith, started, ap (λ (stored : StoredRestarting). stored.started) w.stored-is))
  | in-Some w ↦
      let parts = w.parts-highest in
      let recorded = ap (λ (window : WindowState). get_or window.recorded 0 false) parts.ensures.whole ∙ parts.ensures.recorded in
      let bit = highest_bit parts.result.1.now parts.result.0 recorded in
      subst (λ (stored : StoredRestarting). HasStarted stored.started stored.highest stored.words) (sym w.stored-is)
      (record { started_is = refl; highest_bit = ap (ring_bit parts.result.1.now) w.get-stored.ensures ∙ bit })
]
