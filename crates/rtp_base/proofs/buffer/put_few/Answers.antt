use Rattle.std.proofs.Common.{◌≡◌, ℕ, ◌+◌, ◌≤◌, List, [], ◌∷◌, length, slice_index_or, slice_set, arith, ap, ◌∙◌}
use Rattle.rtp_base.specs.Overwriting.{overwritten}
use Rattle.rtp_base.proofs.OverwritingLemmas.{length-overwritten, overwritten-overwritten, overwritten-set, overwritten-set_two}
use Rattle.rtp_base.proofs.buffer.put_few.Goals as goal

one_put : (buf bytes : List ℕ) (at : ℕ) → length bytes ≡ 1 → at + length bytes ≤ length buf → slice_set buf at (slice_index_or bytes 0 0) ≡ overwritten buf at bytes
one_put buf [] at one within = absurd (omega arith)
one_put buf (x ∷ []) at one within = overwritten-set buf at x (omega arith)
one_put buf (x ∷ y ∷ bytes) at one within = absurd (omega arith)

two_put : (buf bytes : List ℕ) (at : ℕ) → length bytes ≡ 2 → at + length bytes ≤ length buf
    → slice_set (slice_set buf at (slice_index_or bytes 0 0)) (at + 1) (slice_index_or bytes 1 0) ≡ overwritten buf at bytes
two_put buf [] at two within = absurd (omega arith)
two_put buf (x ∷ []) at two within = absurd (omega arith)
two_put buf (x ∷ y ∷ []) at two within = overwritten-set_two buf at x y (omega arith)
two_put buf (x ∷ y ∷ z ∷ bytes) at two within = absurd (omega arith)

three_put : (buf bytes : List ℕ) (at : ℕ) → length bytes ≡ 3 → at + length bytes ≤ length buf
    → slice_set (slice_set (slice_set buf at (slice_index_or bytes 0 0)) (at + 1) (slice_index_or bytes 1 0)) (at + 2) (slice_index_or bytes 2 0) ≡ overwritten buf at bytes
three_put buf [] at three within = absurd (omega arith)
three_put buf (x ∷ []) at three within = absurd (omega arith)
three_put buf (x ∷ y ∷ []) at three within = absurd (omega arith)
three_put buf (x ∷ y ∷ z ∷ []) at three within =
    let long = length-overwritten buf (x ∷ y ∷ []) at (omega arith) in
    ap (λ (b : List ℕ). slice_set b (at + 2) z) (overwritten-set_two buf at x y (omega arith))
    ∙ (overwritten-set (overwritten buf at (x ∷ y ∷ [])) (at + 2) z (omega arith)
    ∙ overwritten-overwritten buf (x ∷ y ∷ []) (z ∷ []) at (at + 2) (omega arith) (omega arith))
three_put buf (x ∷ y ∷ z ∷ w ∷ bytes) at three within = absurd (omega arith)

pub returns-in-len1 : goal.returns-in-len1
returns-in-len1 c = one_put c.args.buf.now c.args.bytes.now c.args.at (omega (arith, c.in-len1.len_at_least, c.in-len1.len_below)) c.requires

pub returns-in-len2 : goal.returns-in-len2
returns-in-len2 c = two_put c.args.buf.now c.args.bytes.now c.args.at (omega (arith, c.in-len2.len_at_least, c.in-len2.len_below)) c.requires

pub returns-in-len3 : goal.returns-in-len3
returns-in-len3 c = three_put c.args.buf.now c.args.bytes.now c.args.at (omega (arith, c.in-len3.len_at_least, c.in-len3.len_below)) c.requires
