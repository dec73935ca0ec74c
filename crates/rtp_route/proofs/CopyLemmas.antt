-- Bytes that are copied in pieces, of which the last one may repeat some.
use Rattle.std.proofs.Common.{◌≡◌, ℕ, ◌+◌, ◌-◌, ◌≤◌, List, ◌++◌, length, take, drop, sym, ap, ◌∙◌, arith, append_assoc, length-take-le, length-drop, take_at, drop_at, take-add}
use Rattle.std.proofs.lemmas.List.{drop-drop, take-take, take-append-le, take-append-drop}
use Rattle.rtp_base.specs.Overwriting.{overwritten}
use Rattle.rtp_base.proofs.OverwritingLemmas.{overwritten-front, overwritten-overwritten}

-- the first bytes, and then the last ones
pub copied-last : (buf bytes : List ℕ) (count from : ℕ) → from ≤ count → count ≤ length bytes → length bytes ≤ length buf
    → overwritten (overwritten buf 0 (take count bytes)) from (drop from bytes) ≡ overwritten buf 0 bytes
unfolding overwritten
copied-last buf bytes count from within some room =
    let front = take count bytes in
    let last = drop from bytes in
    let len : length front ≡ count = length-take-le count bytes some in
    let rest = drop count buf in
    let one : overwritten buf 0 front ≡ front ++ rest = overwritten-front buf front ∙ ap (λ (n : ℕ). front ++ drop n buf) len in
    let kept : take from (front ++ rest) ≡ take from bytes =
    take-append-le from front rest (omega (arith, len, within)) ∙ take-take from count bytes within in
    let left = length bytes - count in
    let after : drop (from + length last) (front ++ rest) ≡ drop (length bytes) buf =
    ap (λ (n : ℕ). drop n (front ++ rest)) (omega (arith, length-drop from bytes, within, some))
    ∙ (sym (drop-drop left count (front ++ rest))
    ∙ (ap (drop left) (drop_at front rest count len)
    ∙ (drop-drop left count buf ∙ ap (λ (n : ℕ). drop n buf) (omega (arith, some))))) in
    ap (λ (b : List ℕ). overwritten b from last) one
    ∙ (ap (λ (xs : List ℕ). xs ++ (last ++ drop (from + length last) (front ++ rest))) kept
    ∙ (ap (λ (xs : List ℕ). take from bytes ++ (last ++ xs)) after
    ∙ (sym (append_assoc (take from bytes) last (drop (length bytes) buf))
    ∙ (ap (λ (xs : List ℕ). xs ++ drop (length bytes) buf) (take-append-drop from bytes)
    ∙ sym (overwritten-front buf bytes)))))

-- two of sixteen bytes are one of the first thirty-two
pub copied-two : (buf bytes : List ℕ) → 32 ≤ length bytes → length bytes ≤ length buf
    → overwritten (overwritten buf 0 (take 16 bytes)) 16 (take 16 (drop 16 bytes)) ≡ overwritten buf 0 (take 32 bytes)
copied-two buf bytes some room =
    overwritten-overwritten buf (take 16 bytes) (take 16 (drop 16 bytes)) 0 16 (omega (arith, length-take-le 16 bytes (omega (arith, some)))) (omega (arith, some, room))
    ∙ ap (overwritten buf 0) (sym (take-add 16 16 bytes))
