-- Bytes that are put into a buffer step by step.
use Rattle.rtp_vla.proofs.Common.{◌≡◌, ℕ, ◌+◌, ◌<◌, ◌≤◌, List, [], ◌∷◌, ◌++◌, length, take, drop, set, refl, sym, ap, ◌∙◌, arith, append_assoc, length-append, take_more_set, drop-set-lt, length-set, overwritten-nil, overwritten-overwritten, length-overwritten, Leaves}
use Rattle.rtp_base.specs.Overwriting.{overwritten}

-- one byte, and then the rest
pub set-overwritten : (buf bytes : List ℕ) (at byte : ℕ) → at < length buf → overwritten (set buf at byte) (at + 1) bytes ≡ overwritten buf at (byte ∷ bytes)
unfolding overwritten
set-overwritten buf bytes at byte within =
    let front : take (at + 1) (set buf at byte) ≡ take at buf ++ byte ∷ [] = take_more_set buf at byte within in
    let end : at + length (byte ∷ bytes) ≡ (at + 1) + length bytes = omega arith in
    let back : drop ((at + 1) + length bytes) (set buf at byte) ≡ drop (at + length (byte ∷ bytes)) buf =
    drop-set-lt _ buf at byte (omega arith) ∙ ap (λ (k : ℕ). drop k buf) (sym end) in
    ap (λ (xs : List ℕ). xs ++ (bytes ++ drop ((at + 1) + length bytes) (set buf at byte))) front
    ∙ append_assoc (take at buf) (byte ∷ []) (bytes ++ drop ((at + 1) + length bytes) (set buf at byte))
    ∙ ap (λ (xs : List ℕ). take at buf ++ (byte ∷ (bytes ++ xs))) back

-- at the start all is left, and at the end the bytes are put
pub Leaves-start : (buf bytes : List ℕ) (at : ℕ) → at + length bytes ≤ length buf → Leaves buf at bytes buf at bytes
Leaves-start buf bytes at room = record { makes = refl; ends = refl; room = room }

pub Leaves-byte : (buf bytes first all : List ℕ) (at from byte : ℕ) → Leaves buf at (byte ∷ bytes) first from all → Leaves (set buf at byte) (at + 1) bytes first from all
Leaves-byte buf bytes first all at from byte h = record {
  makes = set-overwritten buf bytes at byte (omega (arith, h.room)) ∙ h.makes;
  ends = omega (arith, h.ends);
  room = omega (arith, h.room, length-set buf at byte);
}

-- a part of what is left
pub Leaves-part : (buf new xs ys first all : List ℕ) (at end from : ℕ) → Leaves buf at (xs ++ ys) first from all → new ≡ overwritten buf at xs → end ≡ at + length xs → Leaves new end ys first from all
Leaves-part buf new xs ys first all at end from h new-is end-is =
    let fits : end ≤ length buf = omega (arith, h.room, length-append xs ys) in
    record {
      makes = ap (λ (b : List ℕ). overwritten b end ys) new-is ∙ overwritten-overwritten buf xs ys at end end-is fits ∙ h.makes;
      ends = omega (arith, h.ends, length-append xs ys);
      room = omega (arith, h.room, length-append xs ys, ap length new-is, length-overwritten buf xs at (omega arith));
    }

pub Leaves-end : (buf first all : List ℕ) (at from : ℕ) → Leaves buf at [] first from all → (buf ≡ overwritten first from all) × (at ≡ from + length all)
Leaves-end buf first all at from h = (sym (overwritten-nil buf at) ∙ h.makes, omega (arith, h.ends))

-- four parts in a row, from the front on
pub overwritten-four : (buf b₁ b₂ b₃ b₄ x₁ x₂ x₃ x₄ : List ℕ) (e₁ e₂ e₃ e₄ : ℕ) → length (x₁ ++ (x₂ ++ (x₃ ++ x₄))) ≤ length buf
    → b₁ ≡ overwritten buf 0 x₁ → e₁ ≡ 0 + length x₁ → b₂ ≡ overwritten b₁ e₁ x₂ → e₂ ≡ e₁ + length x₂ → b₃ ≡ overwritten b₂ e₂ x₃ → e₃ ≡ e₂ + length x₃
    → b₄ ≡ overwritten b₃ e₃ x₄ → e₄ ≡ e₃ + length x₄
    → (b₄ ≡ overwritten buf 0 (x₁ ++ (x₂ ++ (x₃ ++ x₄)))) × (e₄ ≡ length (x₁ ++ (x₂ ++ (x₃ ++ x₄))))
overwritten-four buf b₁ b₂ b₃ b₄ x₁ x₂ x₃ x₄ e₁ e₂ e₃ e₄ room w₁ p₁ w₂ p₂ w₃ p₃ w₄ p₄ =
    let all = x₁ ++ (x₂ ++ (x₃ ++ x₄)) in
    let l₀ = Leaves-start buf all 0 (omega (arith, room)) in
    let l₁ = Leaves-part buf b₁ x₁ (x₂ ++ (x₃ ++ x₄)) buf all 0 e₁ 0 l₀ w₁ p₁ in
    let l₂ = Leaves-part b₁ b₂ x₂ (x₃ ++ x₄) buf all e₁ e₂ 0 l₁ w₂ p₂ in
    let l₃ = Leaves-part b₂ b₃ x₃ x₄ buf all e₂ e₃ 0 l₂ w₃ p₃ in
    (w₄ ∙ l₃.makes, omega (arith, p₄, l₃.ends))
