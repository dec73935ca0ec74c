use Rattle.rtp_c.proofs.Common.{◌≡◌, ℕ, ◌+◌, List, ◌++◌, length, drop, refl, ap, ◌∙◌, arith}
use Rattle.rtp_base.specs.Overwriting.{overwritten}
use Rattle.rtp_c.proofs.fixed_part.rtpw_write_fixed_part.Goals as goal

-- bytes that are put to the front
at_front : (buf bytes fixed new : List ℕ) → new ≡ overwritten buf 0 bytes → bytes ≡ fixed → length fixed ≡ 12 → new ≡ fixed ++ drop 12 buf
unfolding overwritten
at_front buf bytes fixed new is same len =
    let twelve : 0 + length fixed ≡ 12 = omega (arith, len) in
    is ∙ ap (λ (bs : List ℕ). bs ++ drop (0 + length bs) buf) same ∙ ap (λ (n : ℕ). fixed ++ drop n buf) twelve

pub returns-clause-written : goal.returns-clause-written
returns-clause-written c _ = at_front c.args.buf.now c.fixed_bytes.result _ c.put.new.buf c.put.ensures.written c.fixed_bytes.ensures.bytes refl
