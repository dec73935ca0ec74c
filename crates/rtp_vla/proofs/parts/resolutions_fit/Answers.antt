use Rattle.rtp_vla.proofs.Common.{◌≤◌, length, refl, arith, false≢true}
use Rattle.rtp_vla.proofs.AllocationReadingLemmas.{FitResolutions-short, fits_first, fits_left}
use Rattle.rtp_vla.proofs.parts.resolutions_fit.Goals as goal

pub returns-in_default : goal.returns-in_default
returns-in_default c = (λ _. c.loop-i.invariant.0 (FitResolutions-short _ c.loop-i.after.now c.in_default.ensures.cases), λ _. refl)

pub returns-then-not-has_next : goal.returns-then-not-has_next
returns-then-not-has_next c =
    let split = c.in-Some.ensures.cases in
    let long : 5 ≤ length c.loop-i.after.now = omega (arith, split.2) in
    let left = fits_left _ _ _ _ c.loop-i-test.true c.loop-i.invariant in
    (λ no. absurd (false≢true no), λ all. absurd (false≢true (c.if-not-has_next.ensures.1 ((fits_first _ _ _ _ split.0 split.1 long).0 (left.1 all)).0)))

pub returns-then-not-has_next-2 : goal.returns-then-not-has_next-2
returns-then-not-has_next-2 c =
    let split = c.in-Some.ensures.cases in
    let long : 5 ≤ length c.loop-i.after.now = omega (arith, split.2) in
    let left = fits_left _ _ _ _ c.loop-i-test.true c.loop-i.invariant in
    (λ no. absurd (false≢true no), λ all. absurd (false≢true (c.if-not-has_next-2.ensures.1 ((fits_first _ _ _ _ split.0 split.1 long).0 (left.1 all)).1)))

pub loop-i-preserved : goal.loop-i-preserved
loop-i-preserved c =
    let split = c.in-Some.ensures.cases in
    let long : 5 ≤ length c.loop-i.after.now = omega (arith, split.2) in
    let left = fits_left _ _ _ _ c.loop-i-test.true c.loop-i.invariant in
    let first = fits_first _ _ _ _ split.0 split.1 long in
    (λ rest. left.0 (first.1 (c.if-not-has_next.ensures.0 refl, c.if-not-has_next-2.ensures.0 refl, rest)), λ all. (first.0 (left.1 all)).2)
