-- Bytes between those at the front and others that are moved behind them.
use Rattle.rtp_ext.proofs.Common.{◌≡◌, ℕ, ◌+◌, ◌-◌, ◌≤◌, List, ◌++◌, length, take, drop, append_assoc, length-append, length-drop, length-take-le, arith, sym, ap, ◌∙◌, slice_range, drop_at, take_at, take-append-le, take-take, paste}
use Rattle.rtp_base.specs.Overwriting.{overwritten}

pub between_is : (body : List ℕ) {moved new : List ℕ} (xs : List ℕ) (front at count end : ℕ) → end ≡ front + length xs → front ≤ at → at + count ≤ length body → front + length xs + count ≤ length body
    → moved ≡ paste body end (drop at body) (at + count - at) → new ≡ overwritten moved front xs
    → take (end + count) new ≡ take front body ++ (xs ++ slice_range body at (at + count))
unfolding overwritten
between_is body {moved} {new} xs front at count end end-is order within room moved-is new-is =
    let n : ℕ = at + count - at in
    let middle : List ℕ = take n (drop at body) in
    let rest : List ℕ = drop (end + n) body in
    let count_is : n ≡ count = omega arith in
    let parts : moved ≡ take end body ++ (middle ++ rest) = moved-is ∙ append_assoc (take end body) middle rest in
    let head : take front moved ≡ take front body =
    ap (take front) parts ∙ (take-append-le front (take end body) (middle ++ rest) (omega (arith, length-take-le end body (omega arith)))
    ∙ take-take front end body (omega arith)) in
    let tail : drop (front + length xs) moved ≡ middle ++ rest =
    ap (λ (k : ℕ). drop k moved) (sym end-is) ∙ (ap (drop end) parts ∙ drop_at (take end body) (middle ++ rest) end (length-take-le end body (omega arith))) in
    let long : length middle ≡ n = length-take-le n (drop at body) (omega (arith, length-drop at body)) in
    let whole : new ≡ (take front body ++ (xs ++ middle)) ++ rest =
    new-is ∙ (ap (λ b. b ++ (xs ++ drop (front + length xs) moved)) head ∙ (ap (λ b. take front body ++ (xs ++ b)) tail
    ∙ (ap (λ b. take front body ++ b) (sym (append_assoc xs middle rest)) ∙ sym (append_assoc (take front body) (xs ++ middle) rest)))) in
    ap (take (end + count)) whole
    ∙ take_at (take front body ++ (xs ++ middle)) rest (end + count)
    (omega (arith, length-append (take front body) (xs ++ middle), length-append xs middle, length-take-le front body (omega arith)))
