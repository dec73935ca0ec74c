use Rattle.std.proofs.Common.{◌≡◌, Option, Some, None, subst, sym, ap, ◌∙◌, arith}
use Rattle.rtp_ext.specs.declared.form.ExtensionsForm.{ExtensionsForm}
use Rattle.rtp_ext.specs.declared.form.ExtensionsForm.TheVariants.{OneByte, TwoByte}
use Rattle.std.proofs.lemmas.Bool.{false≢true}
use Rattle.rtp_route.specs.Routing.{IsFormAfter}
use Rattle.rtp_route.proofs.KnownGroupLemmas.{narrow-after, keeps-all, wide-all, wide-first}
use Rattle.rtp_route.proofs.table.form_after.Goals as goal
use Rattle.rtp_route.proofs.table.form_after.Goals.{then-fits_one_byte, else-fits_one_byte}

pub returns-in_default : goal.returns-in_default
returns-in_default g c =
    let news = g.G.ElementList.elements c.args.group in
    subst (λ (allowed : Option ExtensionsForm). IsFormAfter allowed (Some c.args.was) news (Some c.if-fits_one_byte.needed)) (sym c.in_default.is ∙ c.allowed.ensures)
    (elim c.if-fits_one_byte.branch [
      | then-fits_one_byte w ↦
          subst (λ (form : ExtensionsForm). IsFormAfter None (Some c.args.was) news (Some form)) (sym w.needed-is) (keeps-all c.args.was news (c.fits_one_byte.ensures.0 w.if-fits_one_byte.true))
      | else-fits_one_byte w ↦
          subst (λ (form : ExtensionsForm). IsFormAfter None (Some c.args.was) news (Some form)) (sym w.needed-is)
          (wide-all c.args.was news (λ all. false≢true (sym w.if-fits_one_byte.false ∙ c.fits_one_byte.ensures.1 all)))
    ])

pub returns-in-TwoByte-default : goal.returns-in-TwoByte-default
returns-in-TwoByte-default g c =
    let news = g.G.ElementList.elements c.args.group in
    subst (λ (allowed : Option ExtensionsForm). IsFormAfter allowed (Some c.args.was) news (Some TwoByte)) (ap (λ (f : ExtensionsForm). Some f) (sym c.in-TwoByte-default.is-0) ∙ c.in-Some.ensures)
    (wide-first c.args.was news (omega (arith, c.if-count-eq0.false, c.count.ensures)))

pub returns-in-OneByte-OneByte : goal.returns-in-OneByte-OneByte
returns-in-OneByte-OneByte g c =
    let news = g.G.ElementList.elements c.args.group in
    subst (λ (allowed : Option ExtensionsForm). IsFormAfter allowed (Some c.args.was) news (Some OneByte)) (ap (λ (f : ExtensionsForm). Some f) (sym c.in-OneByte-OneByte.is-0) ∙ c.in-Some.ensures)
    (elim c.if-fits_one_byte.branch [
      | then-fits_one_byte w ↦
          subst (λ (form : ExtensionsForm). IsFormAfter (Some OneByte) (Some form) news (Some OneByte)) (sym c.in-OneByte-OneByte.is-1 ∙ w.needed-is)
          (narrow-after (Some OneByte) (λ same. let never : Some OneByte ≡ Some TwoByte = same in cc) news (c.fits_one_byte.ensures.0 w.if-fits_one_byte.true))
      | else-fits_one_byte w ↦ let never : OneByte ≡ TwoByte = sym c.in-OneByte-OneByte.is-1 ∙ w.needed-is in absurd cc
    ])
