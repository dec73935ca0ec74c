use Rattle.rtp_vla.proofs.Common.{refl, ◌≡◌, ◌↔◌, ◌∷◌, [], ℕ, List, take, get_or, length, eqb, eqb-true, IsTrue, Option, Some, None, IfSome, IfNone, ⊎_elim, inl, inr, ap, arith, false≢true, is_some, Allocation, Means, nothing_sent, IsLaidOut, IsCutShort}
use Rattle.rtp_vla.specs.declared.parsing.Layout.{Layout}
use Rattle.rtp_vla.proofs.AllocationParts.{AreBytes, AreBytes-from}
use Rattle.rtp_vla.proofs.AllocationMeaning.{laid_out_from, packed_from, packed_long}
use Rattle.rtp_vla.proofs.parsing.is_allocation.Goals as goal

-- other bytes mean an allocation exactly where its parts are there
meant : (bytes : List ℕ) → AreBytes bytes → (bytes ≡ 0 ∷ [] → ⊥) → (masks : List ℕ) (layout : Option Layout)
    → IfSome layout (λ l. IsLaidOut bytes l.index (take l.streams masks) l.layers) → IfNone layout (IsCutShort bytes)
    → (IsTrue (is_some layout) ↔ ((a : Allocation) × Means bytes a))
meant bytes all other masks (Some l) found cut = (λ _. (_, inr (packed_from bytes _ _ _ all found)), λ _. refl)
meant bytes all other masks None found cut =
    (λ some. absurd (false≢true some), λ m. ⊎_elim (λ nothing. absurd (other nothing.0)) (λ p. absurd (cut _ _ _ (laid_out_from bytes m.0 p))) m.1)

-- a sole byte means that nothing is sent, or nothing
sole : (bytes : List ℕ) → length bytes ≡ 1 → (IsTrue (eqb (get_or bytes 0 0) 0) ↔ ((a : Allocation) × Means bytes a))
sole [] len = absurd (omega (arith, len))
sole (byte ∷ next ∷ bytes) len = absurd (omega (arith, len))
sole (byte ∷ []) len = (
  λ zero. (nothing_sent, inl (ap (λ b. b ∷ []) (eqb-true byte 0 zero), refl)),
  λ m. ⊎_elim (λ nothing. let e = nothing.0 in cc) (λ p. absurd (omega (arith, packed_long (byte ∷ []) m.0 p))) m.1,
)

pub returns-then-buf-eq1 : goal.returns-then-buf-eq1
returns-then-buf-eq1 c = sole c.args.buf.now c.if-buf-eq1.true

pub returns : goal.returns
returns c =
    rw c.is_some.ensures (meant c.args.buf.now (AreBytes-from c.args.buf.now (λ i. omega (arith, c.type_inv.buf i)))
    (λ nothing. c.if-buf-eq1.false (ap length nothing)) c.layout_of.new.masks c.layout_of.result c.layout_of.ensures.found c.layout_of.ensures.refused)
