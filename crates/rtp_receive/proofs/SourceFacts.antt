-- Worked rows of a run of two sources, computed from the definitions: the numbers 65,535 of source 1, 10 of source 2, a datagram without a header, 0 of source 1 and 10 of source 2.
use Rattle.std.proofs.Common.{◌≡◌, ℕ, true, false, eqb, List, [], ◌∷◌, Option, Some, None, refl, inl, inr, arith}
use Rattle.std.proofs.lemmas.Bool.{eqb-true, or_cases, false≢true}
use Rattle.rtp_base.specs.Window.{Numbers, IsGreatest}
use Rattle.rtp_receive.specs.declared.receiver.Verdict.{Verdict}
use Rattle.rtp_receive.specs.declared.receiver.Verdict.TheVariants.{Unreadable, Taken, Refused}
use Rattle.rtp_receive.specs.Verdicts.{PacketId, IsVerdict}
use Rattle.rtp_receive.specs.Sources.{at_source, taken_of, numbers_beside}

abbrev of : ℕ → ℕ → Option PacketId
of source low = Some (record { source = source; low = low })

abbrev run : List (Option PacketId)
run = of 1 65535 ∷ of 2 10 ∷ None ∷ of 1 0 ∷ of 2 10 ∷ []

abbrev verdicts : List Verdict
verdicts = Taken 65535 ∷ Taken 10 ∷ Unreadable ∷ Taken 65536 ∷ Refused ∷ []

first_source_row : at_source 1 run verdicts ≡ Taken 65535 ∷ Taken 65536 ∷ []
first_source_row = refl

second_source_row : at_source 2 run verdicts ≡ Taken 10 ∷ Refused ∷ []
second_source_row = refl

other_source_row : at_source 0 run verdicts ≡ []
other_source_row = refl

-- before the number 0 of source 1
abbrev before : Numbers
before = numbers_beside (taken_of (of 1 65535 ∷ of 2 10 ∷ None ∷ []) (Taken 65535 ∷ Taken 10 ∷ Unreadable ∷ [])) (of 1 0)

its_own_row : before 65535 ≡ true
its_own_row = refl

of_the_other_row : before 10 ≡ false
of_the_other_row = refl

highest_row : IsGreatest before 65535
highest_row = record {
  member = refl;
  top = λ n is. elim (or_cases (eqb n 65535) false is) [
    | inl same ↦ let e = eqb-true n 65535 same in omega arith
    | inr none ↦ absurd (false≢true none)
  ];
}

-- across the rollover of source 1, whatever source 2 has sent
rollover_row : IsVerdict 0 before (of 1 0) (Taken 65536)
rollover_row = (
  65536,
  (Some 65535, highest_row, record { fits = omega arith; ends = refl; near = inl (omega arith) }),
  (refl, inr (record { greatest = 65535; is_greatest = highest_row; above_or_new = inl (omega arith) })),
)
