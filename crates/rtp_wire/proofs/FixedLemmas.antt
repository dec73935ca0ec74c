-- The fixed bytes of a header, put together.
use Rattle.rtp_wire.proofs.Common.{◌≡◌, ℕ, ◌+◌, ◌*◌, Bool, List, ◌∷◌, ◌++◌, length, drop, replicate, ap, ◌∙◌, arith, length-append, append_assoc, w16, w32, to_be_bytes, append-nil, bit, overwritten-overwritten, RtpHeader, fixed_bytes}
use Rattle.rtp_base.specs.Overwriting.{overwritten}

-- ten bytes after the first two
ten_put : (first second : ℕ) (ten : List ℕ) → length ten ≡ 10 → overwritten (first ∷ second ∷ replicate 10 0) 2 ten ≡ first ∷ second ∷ ten
unfolding overwritten
ten_put first second ten len =
    ap (λ (k : ℕ). first ∷ second ∷ (ten ++ drop (2 + k) (first ∷ second ∷ replicate 10 0))) len
    ∙ ap (λ (bytes : List ℕ). first ∷ second ∷ bytes) (append-nil ten)

-- the number, the timestamp and the SSRC, one after another
three_put : (first second : ℕ) (n t s one two three : List ℕ) → one ≡ overwritten (first ∷ second ∷ replicate 10 0) 2 n → two ≡ overwritten one 4 t
    → three ≡ overwritten two 8 s → length n ≡ 2 → length t ≡ 4 → length s ≡ 4 → three ≡ first ∷ second ∷ (n ++ (t ++ s))
three_put first second n t s one two three one-is two-is three-is n-len t-len s-len =
    let start = first ∷ second ∷ replicate 10 0 in
    let both : length (n ++ t) ≡ 6 = omega (arith, length-append n t) in
    let all : length ((n ++ t) ++ s) ≡ 10 = omega (arith, both, length-append (n ++ t) s) in
    three-is
    ∙ ap (λ (bytes : List ℕ). overwritten bytes 8 s)
    (two-is ∙ ap (λ (bytes : List ℕ). overwritten bytes 4 t) one-is ∙ overwritten-overwritten start n t 2 4 (omega arith) (omega arith))
    ∙ overwritten-overwritten start (n ++ t) s 2 8 (omega (arith, both)) (omega arith)
    ∙ ten_put first second ((n ++ t) ++ s) all
    ∙ ap (λ (bytes : List ℕ). first ∷ second ∷ bytes) (append_assoc n t s)

pub fixed_put : (h : RtpHeader) (first second : ℕ) (n t s one two three : List ℕ) → one ≡ overwritten (first ∷ second ∷ replicate 10 0) 2 n
    → two ≡ overwritten one 4 t → three ≡ overwritten two 8 s
    → n ≡ to_be_bytes w16 h.sequence_number → t ≡ to_be_bytes w32 h.timestamp → s ≡ to_be_bytes w32 h.ssrc
    → first ≡ 2 * 64 + bit h.has_padding * 32 + bit h.has_extension * 16 + h.csrc_count → second ≡ bit h.marker * 128 + h.payload_type
    → three ≡ fixed_bytes h
fixed_put h first second n t s one two three one-is two-is three-is n-is t-is s-is first-is second-is =
    three_put first second n t s one two three one-is two-is three-is (omega (arith, ap length n-is)) (omega (arith, ap length t-is)) (omega (arith, ap length s-is))
    ∙ (λ i. first-is i ∷ second-is i ∷ (n-is i ++ (t-is i ++ s-is i)))

-- with an X that is the header's
pub fixed_with : (h : RtpHeader) {extension : Bool} {bytes : List ℕ} → bytes ≡ fixed_bytes (record h { has_extension = extension }) → extension ≡ h.has_extension
    → bytes ≡ fixed_bytes h
fixed_with h is x-is = is ∙ ap (λ (x : Bool). fixed_bytes (record h { has_extension = x })) x-is
