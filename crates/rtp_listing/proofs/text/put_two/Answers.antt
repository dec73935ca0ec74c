use Rattle.rtp_listing.proofs.Common.{◌≡◌, ℕ, List, ◌+◌, ◌-◌, ◌*◌, ◌++◌, length, take, drop, ap, sym, ◌∙◌, arith, two_digits, TWO_DIGITS}
use Rattle.rtp_listing.proofs.TextLemmas.{two_at}
use Rattle.rtp_listing.proofs.text.put_two.Goals as goal

pub returns : goal.returns
returns c =
    let pair = c.args.number * 2 in
    let at = c.args.at in
    let count : pair + 2 - pair ≡ 2 = omega arith in
    let two : take (pair + 2 - pair) (drop pair TWO_DIGITS) ≡ two_digits c.args.number =
    ap (λ (n : ℕ). take n (drop pair TWO_DIGITS)) count ∙ two_at c.args.number c.requires.small in
    ap (λ (n : ℕ). take n c.put_bytes.new.text) (sym (c.put_bytes.ensures.end ∙ ap (λ (xs : List ℕ). at + length xs) two))
    ∙ c.put_bytes.ensures.written ∙ ap (λ (xs : List ℕ). take at c.args.text.now ++ xs) two
