use Rattle.rtp_c.proofs.Common.{rules, List, All, length, refl, sym, subst, false≢true, Element, IsWritable, AreWritableIn}
use Rattle.rtp_c.proofs.WritingLemmas.{AreTooLong-carried}
use Rattle.rtp_c.proofs.writing.rtpw_write_elements.Goals as goal

pub returns-then-can_carry_all-clause-short : goal.returns-then-can_carry_all-clause-short
returns-then-can_carry_all-clause-short c =
    let form = c.in-Some.form in
    let is = c.in-Some-new.ensures.elements in (
      λ _. (
        form,
        c.in-Some.ensures.found,
        AreTooLong-carried form c.args.bytes.now c.args.elements.now (length c.args.buf.now) c.in-Some-new.ensures.within
            (λ fit. false≢true (c.in_default-write_elements.ensures.fits.1
            (subst (λ (es : List Element). AreWritableIn form es (length c.args.buf.now)) (sym is) fit)))
            (subst (All (IsWritable form)) is (c.can_carry_all.ensures.0 c.if-can_carry_all.true)),
      ),
      λ _. refl,
    )

pub returns-then-can_carry_all-clause-bad_field : goal.returns-then-can_carry_all-clause-bad_field
returns-then-can_carry_all-clause-bad_field c =
    let form = c.in-Some.form in (
      λ is. search rules,
      λ none. absurd (none form c.in-Some.ensures.found (record {
        within = c.in-Some-new.ensures.within;
        carried = subst (All (IsWritable form)) c.in-Some-new.ensures.elements (c.can_carry_all.ensures.0 c.if-can_carry_all.true);
      })),
    )
