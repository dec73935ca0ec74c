use Rattle.rtp_listing.proofs.Common.{◌≡◌, ◌≤◌, ℕ, List, subst, ap, sym, length, ◌∙◌, arith, common_steps, IsUtf8, IsIdText}
use Rattle.rtp_listing.proofs.MapLineLemmas.{after_word, no_space, not_text, text_is}
use Rattle.rtp_listing.proofs.map_line.map_line.Goals as goal

pub returns-in_err-digits-clause-only : goal.returns-in_err-digits-clause-only
returns-in_err-digits-clause-only c id uri m =
    let rest = after_word c.args.line.now c.in_ok-strip_prefix.field-0.now id uri m c.in_ok-strip_prefix.ensures.cases.1 in
    absurd (c.in_err-digits.ensures.only m.digits uri (no_space m.digits m.digits_are.are_digits) rest)

pub returns-in_err-id-clause-only : goal.returns-in_err-id-clause-only
returns-in_err-id-clause-only c id uri m =
    let rest = after_word c.args.line.now c.in_ok-strip_prefix.field-0.now id uri m c.in_ok-strip_prefix.ensures.cases.1 in
    let parts = c.in_ok-digits.ensures.only m.digits uri (no_space m.digits m.digits_are.are_digits) rest in
    let none = c.in_err-id.ensures.only id (subst (λ (digits : List ℕ). IsIdText digits id) (sym parts.0) m.digits_are) in
    absurd (cc)

pub returns-then-is_empty-clause-only : goal.returns-then-is_empty-clause-only
returns-then-is_empty-clause-only c id uri m =
    let rest = after_word c.args.line.now c.in_ok-strip_prefix.field-0.now id uri m c.in_ok-strip_prefix.ensures.cases.1 in
    let parts = c.in_ok-digits.ensures.only m.digits uri (no_space m.digits m.digits_are.are_digits) rest in
    let some : 1 ≤ length uri = m.uri_some in
    let same : length c.in_ok-digits.uri.now ≡ length uri = ap length parts.1 in
    grind (arith, common_steps)

pub returns-in_err-ok-clause-only : goal.returns-in_err-ok-clause-only
returns-in_err-ok-clause-only c id uri m =
    let rest = after_word c.args.line.now c.in_ok-strip_prefix.field-0.now id uri m c.in_ok-strip_prefix.ensures.cases.1 in
    let parts = c.in_ok-digits.ensures.only m.digits uri (no_space m.digits m.digits_are.are_digits) rest in
    absurd (not_text c.from_utf8.result c.in_ok-digits.uri.now _ c.from_utf8.ensures.cases c.in_err-ok.ensures.value (subst IsUtf8 (sym parts.1) m.uri_is_text))

pub returns-clause-only : goal.returns-clause-only
returns-clause-only c id uri m =
    let rest = after_word c.args.line.now c.in_ok-strip_prefix.field-0.now id uri m c.in_ok-strip_prefix.ensures.cases.1 in
    let parts = c.in_ok-digits.ensures.only m.digits uri (no_space m.digits m.digits_are.are_digits) rest in
    let same = c.in_ok-id.ensures.only id (subst (λ (digits : List ℕ). IsIdText digits id) (sym parts.0) m.digits_are) in
    (cc, text_is c.from_utf8.result c.in_ok-digits.uri.now _ c.in_ok-ok.field-0 c.from_utf8.ensures.cases c.in_ok-ok.ensures.value ∙ parts.1)
