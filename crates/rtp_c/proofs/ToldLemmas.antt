-- A text as C is told it.
use Rattle.rtp_c.proofs.Common.{◌≡◌, ℕ, ◌+◌, ◌-◌, ◌≤◌, List, ◌++◌, length, drop, replicate, ap, ◌∙◌, arith, append_assoc, drop-replicate}
use Rattle.std.proofs.lemmas.List.{length-append, length-replicate, replicate-append-replicate}
use Rattle.rtp_base.specs.Id.{zero_padded}
use Rattle.rtp_base.specs.Overwriting.{overwritten}
use Rattle.rtp_c.specs.Told.{ended_text}

-- a text filled up with zeros, at the front of one zero more
pub ended : (size : ℕ) (text : List ℕ) → length text ≤ size → overwritten (replicate (size + 1) 0) 0 (zero_padded size text) ≡ ended_text size text
unfolding overwritten
ended size text few =
    let zeros : List ℕ = replicate (size - length text) 0 in
    let long : 0 + length (text ++ zeros) ≡ size = omega (arith, length-append text zeros, length-replicate {A = ℕ} (size - length text) 0, few) in
    let one : size + 1 - size ≡ 1 = omega arith in
    ap (λ (k : ℕ). (text ++ zeros) ++ drop k (replicate (size + 1) 0)) long
    ∙ ap (λ (xs : List ℕ). (text ++ zeros) ++ xs) (drop-replicate size (size + 1) 0)
    ∙ ap (λ (n : ℕ). (text ++ zeros) ++ replicate n 0) one
    ∙ append_assoc text zeros (replicate 1 0)
    ∙ ap (λ (xs : List ℕ). text ++ xs) (replicate-append-replicate (size - length text) 1 0)

-- the bytes that a text fills with its zeros are at least its own
pub few : (size : ℕ) (text bytes : List ℕ) → bytes ≡ zero_padded size text → length bytes ≡ size → length text ≤ size
few size text bytes is long = omega (arith, ap length is, length-append text (replicate (size - length text) 0), long)
