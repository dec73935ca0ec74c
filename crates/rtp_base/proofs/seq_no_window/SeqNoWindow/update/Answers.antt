use Rattle.rtp_base.proofs.Common.{inl, inr, sym, subst, both_ways, cases_Bool, WindowState, Keeps}
use Rattle.rtp_base.proofs.WindowLemmas.{Keeps-refused}
use Rattle.rtp_base.proofs.seq_no_window.SeqNoWindow.update.Goals as goal

pub returns-clause-recorded : goal.returns-clause-recorded
returns-clause-recorded c taken keeps =
    elim (cases_Bool c.take.result) [
      | inl done ↦ c.take.ensures.recorded taken keeps done
      | inr refused ↦ Keeps-refused c.take.new.self taken c.args.seq (subst (λ (w : WindowState). Keeps w taken) (sym (c.take.ensures.refused refused)) keeps)
          (λ accepted. both_ways c.take.result refused ((c.take.ensures.accepts taken keeps).1 accepted))
    ]

pub returns-clause-unchanged : goal.returns-clause-unchanged
returns-clause-unchanged c taken keeps none =
    elim (cases_Bool c.take.result) [
      | inl done ↦ absurd (none ((c.take.ensures.accepts taken keeps).0 done))
      | inr refused ↦ c.take.ensures.refused refused
    ]
