-- Bytes that are put into a buffer one after the other.
use Rattle.rtp_base.proofs.Common.{◌≡◌, ℕ, ◌+◌, ◌-◌, ◌<◌, ◌≤◌, List, [], ◌∷◌, ◌++◌, length, take, drop, replicate, refl, sym, ap, ◌∙◌, arith, append_assoc, length-append, length-take-le, length-drop, take_at, drop_at, set, suc, add-zero, zero-add, append-nil, length-replicate, take-append-drop, drop-drop, take-take, take-append-le, take_rest, drop_all, set_split}
use Rattle.rtp_base.specs.Overwriting.{overwritten}

-- what `copy_from_slice` into a part leaves
pub overwritten-copied : (buf bytes : List ℕ) (at : ℕ) → take at buf ++ (bytes ++ drop (at + length bytes - at) (drop at buf)) ≡ overwritten buf at bytes
unfolding overwritten
overwritten-copied buf bytes at =
    let len : at + length bytes - at ≡ length bytes = omega arith in
    ap (λ (rest : List ℕ). take at buf ++ (bytes ++ rest))
    (ap (λ (k : ℕ). drop k (drop at buf)) len ∙ drop-drop (length bytes) at buf)

pub length-overwritten : (buf bytes : List ℕ) (at : ℕ) → at + length bytes ≤ length buf → length (overwritten buf at bytes) ≡ length buf
unfolding overwritten
length-overwritten buf bytes at fits =
    omega (
      arith,
      length-append (take at buf) (bytes ++ drop (at + length bytes) buf),
      length-append bytes (drop (at + length bytes) buf),
      length-take-le at buf (omega arith),
      length-drop (at + length bytes) buf,
    )

pub overwritten-nil : (buf : List ℕ) (at : ℕ) → overwritten buf at [] ≡ buf
unfolding overwritten
overwritten-nil buf at = rw (add-zero at) (take-append-drop at buf)

-- from the front on
pub overwritten-front : (buf bytes : List ℕ) → overwritten buf 0 bytes ≡ bytes ++ drop (length bytes) buf
unfolding overwritten
overwritten-front buf bytes = rw (zero-add (length bytes)) refl

-- two pieces in a row are one
pub overwritten-overwritten : (buf xs ys : List ℕ) (at end : ℕ) → end ≡ at + length xs → end ≤ length buf → overwritten (overwritten buf at xs) end ys ≡ overwritten buf at (xs ++ ys)
unfolding overwritten
overwritten-overwritten buf xs ys at end is fits =
    let front = take at buf ++ xs in
    let rest = drop (at + length xs) buf in
    let len : length front ≡ end = omega (arith, length-append (take at buf) xs, length-take-le at buf (omega arith)) in
    let parts : take at buf ++ (xs ++ rest) ≡ front ++ rest = sym (append_assoc (take at buf) xs rest) in
    let kept : take end (take at buf ++ (xs ++ rest)) ≡ front = ap (λ (zs : List ℕ). take end zs) parts ∙ take_at front rest end len in
    let left : drop (end + length ys) (take at buf ++ (xs ++ rest)) ≡ drop (at + length (xs ++ ys)) buf =
    sym (drop-drop (length ys) end (take at buf ++ (xs ++ rest)))
    ∙ ap (λ (zs : List ℕ). drop (length ys) zs) (ap (λ (zs : List ℕ). drop end zs) parts ∙ drop_at front rest end len)
    ∙ drop-drop (length ys) (at + length xs) buf
    ∙ ap (λ (k : ℕ). drop k buf) (omega (arith, length-append xs ys)) in
    ap (λ (zs : List ℕ). zs ++ (ys ++ drop (end + length ys) (take at buf ++ (xs ++ rest)))) kept
    ∙ ap (λ (zs : List ℕ). front ++ (ys ++ zs)) left
    ∙ append_assoc (take at buf) xs (ys ++ drop (at + length (xs ++ ys)) buf)
    ∙ ap (λ (zs : List ℕ). take at buf ++ zs) (sym (append_assoc xs ys (drop (at + length (xs ++ ys)) buf)))

-- three pieces from the front on
pub overwritten-three : (buf xs ys zs : List ℕ) (first second : ℕ) → first ≡ length xs → second ≡ first + length ys → second ≤ length buf
    → overwritten (overwritten (overwritten buf 0 xs) first ys) second zs ≡ (xs ++ (ys ++ zs)) ++ drop (length (xs ++ (ys ++ zs))) buf
overwritten-three buf xs ys zs first second first-is second-is fits =
    let one : first ≡ 0 + length xs = omega arith in
    let two : second ≡ 0 + length (xs ++ ys) = omega (arith, length-append xs ys) in
    ap (λ (bytes : List ℕ). overwritten bytes second zs) (overwritten-overwritten buf xs ys 0 first one (omega arith))
    ∙ overwritten-overwritten buf (xs ++ ys) zs 0 second two fits
    ∙ ap (overwritten buf 0) (append_assoc xs ys zs) ∙ overwritten-front buf (xs ++ (ys ++ zs))

-- one number is put
pub overwritten-set : (buf : List ℕ) (at x : ℕ) → at < length buf → set buf at x ≡ overwritten buf at (x ∷ [])
unfolding overwritten
overwritten-set buf at x within =
    let next : suc at ≡ at + length (x ∷ []) = omega arith in
    set_split buf at x within ∙ ap (λ (k : ℕ). take at buf ++ (x ∷ drop k buf)) next

-- and another after it
pub overwritten-set_two : (buf : List ℕ) (at x y : ℕ) → at + 2 ≤ length buf → set (set buf at x) (at + 1) y ≡ overwritten buf at (x ∷ y ∷ [])
overwritten-set_two buf at x y within =
    let long = length-overwritten buf (x ∷ []) at (omega arith) in
    ap (λ (b : List ℕ). set b (at + 1) y) (overwritten-set buf at x (omega arith))
    ∙ (overwritten-set (overwritten buf at (x ∷ [])) (at + 1) y (omega arith)
    ∙ overwritten-overwritten buf (x ∷ []) (y ∷ []) at (at + 1) (omega arith) (omega arith))

-- what a call leaves that writes to the front of the rest of a buffer
pub overwritten-rest : (buf new bytes : List ℕ) (at : ℕ) → at + length bytes ≤ length buf
    → new ≡ bytes ++ drop (length bytes) (take (length buf - at) (drop at buf))
    → take at buf ++ (new ++ drop (length buf - at) (drop at buf)) ≡ overwritten buf at bytes
unfolding overwritten
overwritten-rest buf new bytes at within is =
    let none = drop_all (length buf - at) (drop at buf) (omega (arith, length-drop at buf)) in
    ap (λ (rest : List ℕ). take at buf ++ (new ++ rest)) none
    ∙ ap (λ (rest : List ℕ). take at buf ++ rest) (append-nil new ∙ is
    ∙ ap (λ (rest : List ℕ). bytes ++ rest) (ap (drop (length bytes)) (take_rest buf at) ∙ drop-drop (length bytes) at buf))

-- two pieces in a row, the second of which was put first
pub overwritten-before : (buf xs ys : List ℕ) (at end : ℕ) → end ≡ at + length xs → end + length ys ≤ length buf
    → overwritten (overwritten buf end ys) at xs ≡ overwritten buf at (xs ++ ys)
unfolding overwritten
overwritten-before buf xs ys at end is fits =
    let rest = ys ++ drop (end + length ys) buf in
    let len : length (take end buf) ≡ end = length-take-le end buf (omega arith) in
    let front : take at (take end buf ++ rest) ≡ take at buf =
    take-append-le at (take end buf) rest (omega arith) ∙ take-take at end buf (omega arith) in
    let after : drop (at + length xs) (take end buf ++ rest) ≡ rest =
    ap (λ (k : ℕ). drop k (take end buf ++ rest)) (sym is) ∙ drop_at (take end buf) rest end len in
    let last : end + length ys ≡ at + length (xs ++ ys) = omega (arith, length-append xs ys) in
    ap (λ (zs : List ℕ). zs ++ (xs ++ drop (at + length xs) (take end buf ++ rest))) front
    ∙ ap (λ (zs : List ℕ). take at buf ++ (xs ++ zs)) after
    ∙ ap (λ (zs : List ℕ). take at buf ++ zs) (sym (append_assoc xs ys (drop (end + length ys) buf))
    ∙ ap (λ (k : ℕ). (xs ++ ys) ++ drop k buf) last)

-- what `fill` of a part leaves
pub overwritten-filled : (buf new : List ℕ) (at count : ℕ) → new ≡ replicate count 0
    → take at buf ++ (new ++ drop (at + count - at) (drop at buf)) ≡ overwritten buf at (replicate count 0)
overwritten-filled buf new at count is =
    ap (λ (k : ℕ). take at buf ++ (new ++ drop (at + k - at) (drop at buf))) (sym (length-replicate count 0))
    ∙ ap (λ (ys : List ℕ). take at buf ++ (ys ++ drop (at + length {A = ℕ} (replicate count 0) - at) (drop at buf))) is
    ∙ overwritten-copied buf (replicate count 0) at

-- bytes after what was put to the front of a buffer
pub overwritten-after : (front bytes buf : List ℕ) (at end : ℕ) → at ≡ length front → end ≡ at + length bytes
    → overwritten (front ++ drop at buf) at bytes ≡ front ++ (bytes ++ drop end buf)
unfolding overwritten
overwritten-after front bytes buf at end is end-is =
    let rest : List ℕ = front ++ drop at buf in
    let kept : take at rest ≡ front = take_at front (drop at buf) at (sym is) in
    let left : drop (at + length bytes) rest ≡ drop end buf =
    sym (drop-drop (length bytes) at rest) ∙ ap (drop (length bytes)) (drop_at front (drop at buf) at (sym is))
    ∙ drop-drop (length bytes) at buf ∙ ap (λ (k : ℕ). drop k buf) (sym end-is) in
    ap (λ (xs : List ℕ). xs ++ (bytes ++ drop (at + length bytes) rest)) kept ∙ ap (λ (xs : List ℕ). front ++ (bytes ++ xs)) left

-- the same of bytes that are put to the front of what is left of the buffer
pub put-after : (front bytes buf between new : List ℕ) (at end : ℕ) → between ≡ front ++ drop at buf → at ≡ length front → end ≡ at + length bytes → end ≤ length between
    → new ≡ bytes ++ drop (length bytes) (take (length between - at) (drop at between))
    → take at between ++ (new ++ drop (length between - at) (drop at between)) ≡ (front ++ bytes) ++ drop end buf
put-after front bytes buf between new at end between-is at-is end-is room is =
    overwritten-rest between new bytes at (omega arith) is ∙ ap (λ (xs : List ℕ). overwritten xs at bytes) between-is
    ∙ overwritten-after front bytes buf at end at-is end-is ∙ sym (append_assoc front bytes (drop end buf))
