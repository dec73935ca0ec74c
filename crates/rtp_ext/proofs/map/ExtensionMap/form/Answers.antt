use Rattle.rtp_ext.proofs.Common.{refl, subst, Slots, known_slots, TakesAtMost17Each}
use Rattle.rtp_ext.proofs.ShortBlockLemmas.{short_known}
use Rattle.rtp_ext.proofs.map.ExtensionMap.form.Goals as goal

pub returns-clause-short : goal.returns-clause-short
returns-clause-short c = λ one.
    short_known c.args.self.now (known_slots c.args.self.now) c.args.ev.now refl
    (subst (λ (exts : Slots). TakesAtMost17Each (known_slots exts) c.args.ev.now) c.of.ensures (c.values_form.ensures.short one))
