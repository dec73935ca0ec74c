use Rattle.std.proofs.Common.{inl, inr, arith}
use Rattle.rtp_ext.proofs.FirstElementLemmas.{no_element, short_element, no_short_element, long_element, no_long_element}
use Rattle.rtp_ext.proofs.elements.first_element.Goals as goal

pub returns-in_err-unpadded : goal.returns-in_err-unpadded
returns-in_err-unpadded c = rw c.from_residual.ensures (no_element c.args.form c.args.bytes.now c.in_err-unpadded.ensures)

pub returns-then-first-ge240 : goal.returns-then-first-ge240
returns-then-first-ge240 c =
    rw c.in-OneByte.is
    (no_short_element c.args.bytes.now c.in_ok-unpadded.ensures.0 c.in_ok-unpadded.ensures.1 (inl c.if-first-ge240.true))

pub returns-in_err-element-in-OneByte : goal.returns-in_err-element-in-OneByte
returns-in_err-element-in-OneByte c =
    rw (c.from_residual-in_err-element-in-OneByte.ensures, c.in-OneByte.is)
    (no_short_element c.args.bytes.now c.in_ok-unpadded.ensures.0 c.in_ok-unpadded.ensures.1 (inr (c.if-first-ge240.false, omega (arith, c.from.ensures, c.in_err-element-in-OneByte.ensures.cases))))

pub returns-in_ok-element-in-OneByte : goal.returns-in_ok-element-in-OneByte
returns-in_ok-element-in-OneByte c =
    rw c.in-OneByte.is
    (short_element c.args.bytes.now c.in_ok-unpadded.ensures.0 c.in_ok-unpadded.ensures.1 _ _ c.if-first-ge240.false (rw c.from.ensures at c.in_ok-element-in-OneByte.ensures.cases))

pub returns-then-unpadded-lt2 : goal.returns-then-unpadded-lt2
returns-then-unpadded-lt2 c =
    rw c.in-TwoByte.is
    (no_long_element c.args.bytes.now c.in_ok-unpadded.ensures.0 c.in_ok-unpadded.ensures.1 (λ i. omega (arith, c.type_inv.bytes i)) (inl c.if-unpadded-lt2.true))

pub returns-in_err-element-in-TwoByte : goal.returns-in_err-element-in-TwoByte
returns-in_err-element-in-TwoByte c =
    rw (c.from_residual-in_err-element-in-TwoByte.ensures, c.in-TwoByte.is)
    (no_long_element c.args.bytes.now c.in_ok-unpadded.ensures.0 c.in_ok-unpadded.ensures.1 (λ i. omega (arith, c.type_inv.bytes i))
    (inr (c.if-unpadded-lt2.false, omega (arith, c.from-in-TwoByte.ensures, c.in_err-element-in-TwoByte.ensures.cases))))

pub returns-in_ok-element-in-TwoByte : goal.returns-in_ok-element-in-TwoByte
returns-in_ok-element-in-TwoByte c =
    rw c.in-TwoByte.is
    (long_element c.args.bytes.now c.in_ok-unpadded.ensures.0 c.in_ok-unpadded.ensures.1 (λ i. omega (arith, c.type_inv.bytes i)) _ _ c.if-unpadded-lt2.false
    (rw c.from-in-TwoByte.ensures at c.in_ok-element-in-TwoByte.ensures.cases))
