use Rattle.rtp_ext.proofs.Common.{◌≡◌, ◌-◌, ℕ, length, replicate, arith, sym, subst, overwritten, overwritten-nil}
use Rattle.rtp_ext.proofs.raw_writing.clear_after.Goals as goal

pub returns-else-len-buf : goal.returns-else-len-buf
returns-else-len-buf c =
    let none : 0 ≡ length c.args.buf.now - c.args.len = omega (arith, c.if-len-buf.false) in
    subst (λ (n : ℕ). c.args.buf.now ≡ overwritten c.args.buf.now c.args.len (replicate n 0)) none (sym (overwritten-nil c.args.buf.now c.args.len))
