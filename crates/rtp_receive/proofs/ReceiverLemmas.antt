-- What may be taken is what the replay window accepts.
use Rattle.std.proofs.Common.{◌≡◌, ℕ, Bool, true, false, if◌then◌else◌, refl, sym, ◌∙◌, inl, inr}
use Rattle.std.specs.Prelude.{IsTrue}
use Rattle.std.proofs.lemmas.Bool.{false≢true}
use Rattle.rtp_base.specs.Window.{Numbers, WindowState, IsGreatest, KeepsOf, AcceptsOf, including}
use Rattle.rtp_base.proofs.WindowLemmas.{KeepsOf-refused}
use Rattle.rtp_receive.specs.StreamState.{ReceiverState}
use Rattle.rtp_receive.specs.declared.receiver.ReceiverState.TheVariants.{Start, Window}
use Rattle.rtp_receive.specs.Receiver.{HoldsOf, IsNothing, IsFreshOf}

-- a set with a greatest number is not empty
pub not_nothing : (taken : Numbers) (greatest : ℕ) → IsGreatest taken greatest → IsNothing taken → ⊥
not_nothing taken greatest is none = false≢true (sym (none greatest) ∙ is.member)

pub AcceptsOf-fresh : (size : ℕ) (taken : Numbers) (number greatest : ℕ) → IsGreatest taken greatest → IsFreshOf size taken number → AcceptsOf size taken number
AcceptsOf-fresh size taken number greatest is (inl none) = absurd (not_nothing taken greatest is none)
AcceptsOf-fresh size taken number greatest is (inr accepted) = accepted

-- what the window keeps once it has told whether it takes the number
pub KeepsOf-taken : (size : ℕ) (taken : Numbers) (number : ℕ) (answer : Bool) (window : WindowState) → (IsTrue answer → KeepsOf size window (including taken number))
    → (answer ≡ false → KeepsOf size window taken) → KeepsOf size window (if answer then including taken number else taken)
KeepsOf-taken size taken number true window accepted refused = accepted refl
KeepsOf-taken size taken number false window accepted refused = refused refl

-- a receiver tells a number that it refuses from no number that it took
pub HoldsOf-refused : (size : ℕ) (receiver : ReceiverState) (count : ℕ) (numbers : Numbers) (number : ℕ) → (IsFreshOf size numbers number → ⊥) → HoldsOf size receiver count numbers
    → HoldsOf size receiver count (including numbers number)
HoldsOf-refused size (Start start) count numbers number refused holds = absurd (refused (inl holds.1))
HoldsOf-refused size (Window window) count numbers number refused holds = KeepsOf-refused size window numbers number holds (λ accepts. refused (inr accepts))
