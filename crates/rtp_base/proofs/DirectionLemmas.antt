-- Each name is one direction's.
use Rattle.rtp_base.proofs.Common.{◌≡◌, ℕ, ◌+◌, ◌*◌, List, get_or, arith, ap, refl, sym, ◌∙◌, SendOnly, RecvOnly, SendRecv, Inactive}
use Rattle.rtp_base.specs.declared.dir.Direction.{Direction}
use Rattle.rtp_base.specs.Direction.{direction_text, IsDirectionName}

-- two letters in which the names differ
abbrev key : List ℕ → ℕ
key text = 1000 * get_or text 0 0 + get_or text 4 0

direction_text-once : (d e : Direction) → direction_text d ≡ direction_text e → d ≡ e
direction_text-once SendOnly SendOnly same = refl
direction_text-once SendOnly RecvOnly same = absurd (omega (arith, ap key same))
direction_text-once SendOnly SendRecv same = absurd (omega (arith, ap key same))
direction_text-once SendOnly Inactive same = absurd (omega (arith, ap key same))
direction_text-once RecvOnly SendOnly same = absurd (omega (arith, ap key same))
direction_text-once RecvOnly RecvOnly same = refl
direction_text-once RecvOnly SendRecv same = absurd (omega (arith, ap key same))
direction_text-once RecvOnly Inactive same = absurd (omega (arith, ap key same))
direction_text-once SendRecv SendOnly same = absurd (omega (arith, ap key same))
direction_text-once SendRecv RecvOnly same = absurd (omega (arith, ap key same))
direction_text-once SendRecv SendRecv same = refl
direction_text-once SendRecv Inactive same = absurd (omega (arith, ap key same))
direction_text-once Inactive SendOnly same = absurd (omega (arith, ap key same))
direction_text-once Inactive RecvOnly same = absurd (omega (arith, ap key same))
direction_text-once Inactive SendRecv same = absurd (omega (arith, ap key same))
direction_text-once Inactive Inactive same = refl

pub IsDirectionName-from_text : (text : List ℕ) (d : Direction) → text ≡ direction_text d → IsDirectionName text d
IsDirectionName-from_text text d is = record {
  named = λ e same. direction_text-once d e (sym is ∙ same);
  otherwise = λ none. absurd (none d is);
}
