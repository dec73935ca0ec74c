use Rattle.std.proofs.Common.{◌≡◌, ◌*◌, ◌%◌, ◌^◌, ◌<◌, ℕ, w32, sym, ap, ◌∙◌, subst, arith}
use Rattle.std.specs.Int.{bit_at}
use Rattle.std.specs.Int.Bits.{or_zero_l}
use Rattle.std.proofs.lemmas.Nat.Bits.{bit_at-zero, bit_at_set_same, bit_at_set_other}
use Rattle.rtp_values.specs.declared.known_kind.KnownKind.{KnownKind}
use Rattle.rtp_c.specs.KindNumbers.{kind_number}
use Rattle.rtp_c.proofs.KindNumberLemmas.{kind_low, number_of_kind}
use Rattle.rtp_c.proofs.left_out.bit_of.Goals as goal

-- a place of 32 bits
few : (kind : KnownKind) (number : ℕ) → number ≡ kind_number kind → number < 32
few kind number is = omega (arith, is, (kind_low (kind_number kind) kind (number_of_kind kind)).1)

pub returns-then-contains-clause-own : goal.returns-then-contains-clause-own
returns-then-contains-clause-own c =
    let number = c.number_of.result in
    let set : bit_at (1 * 2 ^ number % 2 ^ 32) number ≡ 1 =
    ap (λ (bits : ℕ). bit_at bits number) (sym (or_zero_l (1 * 2 ^ number % 2 ^ 32))) ∙ bit_at_set_same w32 0 number (few c.args.kind number c.number_of.ensures) in (
      λ _. sym c.contains.ensures ∙ c.if-contains.true,
      λ _. subst (λ (place : ℕ). bit_at (1 * 2 ^ number % 2 ^ 32) place ≡ 1) c.number_of.ensures set,
    )

pub returns-then-contains-clause-others : goal.returns-then-contains-clause-others
returns-then-contains-clause-others c place other =
    let number = c.number_of.result in
    ap (λ (bits : ℕ). bit_at bits place) (sym (or_zero_l (1 * 2 ^ number % 2 ^ 32)))
    ∙ bit_at_set_other w32 0 number (few c.args.kind number c.number_of.ensures) place (λ same. other (same ∙ c.number_of.ensures)) ∙ bit_at-zero place
