use Rattle.rtp_base.proofs.Common.{◌*◌, inl, inr, sym, subst, both_ways, cases_Bool, WindowState, KeepsOf}
use Rattle.rtp_base.proofs.WindowLemmas.{KeepsOf-refused}
use Rattle.rtp_base.proofs.wide_window.WideWindow.update.Goals as goal

pub returns-clause-recorded : goal.returns-clause-recorded
returns-clause-recorded g c taken keeps =
    elim (cases_Bool c.take.result) [
      | inl done ↦ c.take.ensures.recorded taken keeps done
      | inr refused ↦
          KeepsOf-refused (64 * g.row.N) c.take.new.self taken c.args.seq
          (subst (λ (w : WindowState). KeepsOf (64 * g.row.N) w taken) (sym (c.take.ensures.refused refused)) keeps)
          (λ accepted. both_ways c.take.result refused ((c.take.ensures.accepts taken keeps).1 accepted))
    ]
