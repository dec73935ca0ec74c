-- Worked rows of send times, computed from the definitions.
use Rattle.std.proofs.Common.{◌≡◌, arith, refl, inl, inr}
use Rattle.rtp_values.specs.SendTime.{IsRecovered}
use Rattle.rtp_values.specs.Spelling.{carried_send_time}

-- what is read of a time that was written, and the moments of what is read
ticks_row : carried_send_time 4 ≡ 3
ticks_row = refl

wrapped_row : carried_send_time 1000000000 ≡ 40000000
wrapped_row = refl

latest_row : IsRecovered 1000050000 40000000 1000000000
latest_row = inl (record { possible = record { past = omega arith; same = refl }; latest = λ other is. let past = is.past in let same = is.same in omega arith })

before_wrap_row : IsRecovered 64500000 63000000 63000000
before_wrap_row = inl (record { possible = record { past = omega arith; same = refl }; latest = λ other is. let past = is.past in let same = is.same in omega arith })

whole_period_row : IsRecovered 5 64000000 0
whole_period_row = inl (record { possible = record { past = omega arith; same = refl }; latest = λ other is. let past = is.past in let same = is.same in omega arith })

too_early_row : IsRecovered 10 20 20
too_early_row = inr (λ other is. (let past = is.past in let same = is.same in absurd (omega arith)), refl)
