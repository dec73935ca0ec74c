-- The moment of a send time that is known modulo 64 seconds only.
use Rattle.std.proofs.Common.{◌≡◌, ℕ, ◌+◌, ◌*◌, ◌/◌, ◌%◌, ◌^◌, ◌<◌, ◌≤◌, Some, arith}
use Rattle.rtp_values.specs.declared.value.values.ExtensionValues.{ExtensionValues}
use Rattle.rtp_values.specs.Spelling.{carried_send_time}
use Rattle.rtp_values.specs.SendTime.{IsLatest}

-- what a written time is read as, put back into the 64 seconds of the time
moment_of : ℕ → ℕ
moment_of time = time * 262144 / 1000000 / 2 ^ 24 * 64000000 + carried_send_time time

moment_of-near : (time : ℕ) → (moment_of time ≤ time) × (time ≤ moment_of time + 4)
unfolding moment_of
moment_of-near time = (omega arith, omega arith)

moment_of-same : (time : ℕ) → moment_of time % 64000000 ≡ carried_send_time time % 64000000
unfolding moment_of
moment_of-same time = omega arith

-- two moments that are equal modulo 64 seconds and less than 64 seconds apart are one
one_moment : (a b : ℕ) → a % 64000000 ≡ b % 64000000 → b ≤ a → a < b + 64000000 → a ≡ b
one_moment a b same up close = omega arith

-- a time that was written less than 64 seconds before now is recovered, to within one tick
pub latest-near : {now value moment : ℕ} → IsLatest now value moment → (time : ℕ) → value ≡ carried_send_time time → time ≤ now → now < time + 63999996
    → (moment ≤ time) × (time ≤ moment + 4)
latest-near {now} {value} {moment} is time value-is past soon =
    let near = moment_of-near time in
    let same : moment_of time % 64000000 ≡ value % 64000000 = rw value-is (moment_of-same time) in
    let least = is.latest (moment_of time) (record { past = omega (arith, near.0); same = same }) in
    let also = is.possible.same in
    let before = is.possible.past in
    let e = one_moment moment (moment_of time) (omega (arith, same, also)) least (omega (arith, near.1)) in
    (omega (arith, e, near.0), omega (arith, e, near.1))

-- a send time is one number; `shown` is what the fields hold
pub one_send_time : {shown values : ExtensionValues} {a b : ℕ} → shown ≡ values → shown.abs_send_time ≡ Some a → values.abs_send_time ≡ Some b → a ≡ b
one_send_time same a-is b-is = cc
