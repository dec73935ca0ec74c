use Rattle.rtp_ext.proofs.Common.{suc, None, arith, ap, sym, ◌∙◌, length, get_or_default, false≢true, ◌<◌, extension_of}
use Rattle.rtp_ext.proofs.CopiedLemmas.{IsCopiedTo-start, IsCopiedTo-next, IsCopiedTo-end}
use Rattle.rtp_ext.proofs.slots.copy.Goals as goal

pub loop-index-init : goal.loop-index-init
loop-index-init c = IsCopiedTo-start c.args.from.now c.args.to.now (sym c.requires.length) c.requires.empty

pub loop-index-preserved : goal.loop-index-preserved
loop-index-preserved c =
    let within : c.loop-index.index < length c.args.from.now = omega (arith, c.loop-index-test.true, c.from-index-end.ensures, c.requires.within) in
    IsCopiedTo-next c.loop-index.invariant within
    (c.in_ok-to.ensures.same ∙ c.index-from-index.is ∙ sym (get_or_default c.args.from.now c.loop-index.index None c.index-from-index.result within))

pub returns-in_err-to-clause-known : goal.returns-in_err-to-clause-known
returns-in_err-to-clause-known c = λ no_text.
    let within : c.loop-index.index < length c.args.from.now = omega (arith, c.loop-index-test.true, c.from-index-end.ensures, c.requires.within) in
    let here = get_or_default c.args.from.now c.loop-index.index None c.index-from-index.result within ∙ sym c.index-from-index.is in
    absurd (false≢true (c.in_err-to.ensures.known (λ extension is. no_text (suc c.loop-index.index) extension (ap extension_of here ∙ is))))

pub returns-clause-same : goal.returns-clause-same
returns-clause-same c = IsCopiedTo-end c.args.last c.loop-index.invariant c.requires.none_above
    (omega (arith, c.loop-index-test.false, c.from-index-end.ensures))
