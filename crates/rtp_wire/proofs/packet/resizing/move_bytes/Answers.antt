use Rattle.rtp_wire.proofs.Common.{arith, ◌≡◌, ℕ, ◌+◌, ◌-◌, List, drop, ◌++◌, ap, sym, ◌∙◌, subst, take-add, copy_within, take-append-drop}
use Rattle.rtp_wire.proofs.packet.resizing.move_bytes.Goals as goal

-- bytes that are copied to where they stand
copied_there : (xs : List ℕ) (start end : ℕ) → xs ≡ copy_within xs start end start
copied_there xs start end =
    sym (take-append-drop (start + (end - start)) xs) ∙ ap (λ (ys : List ℕ). ys ++ drop (start + (end - start)) xs) (take-add start (end - start) xs)

pub returns-then-start-to : goal.returns-then-start-to
returns-then-start-to c =
    subst (λ (to : ℕ). c.args.buf.now ≡ copy_within c.args.buf.now c.args.start c.args.end to) (omega (arith, c.if-start-to.true)) (copied_there c.args.buf.now c.args.start c.args.end)
