-- Times of which an element has the low bits: an NTP timestamp's (RFC 6051, 3.3), and an absolute send time.
use Rattle.std.specs.Prelude.{◌≡◌, ℕ, ◌+◌, ◌-◌, ◌*◌, ◌%◌, ◌^◌, ◌<◌, ◌≤◌, min}

-- how far apart two times are, modulo 2^64
abbrev pub apart : ℕ → ℕ → ℕ
apart a b = min ((2 ^ 64 + a - b) % 2 ^ 64) ((2 ^ 64 + b - a) % 2 ^ 64)

-- the number of 64 bits that is the same as `low` modulo the rollover, and the nearest such one to another number, modulo 2^64
pub record IsNearestTime (rollover near low number : ℕ) : Type 0 where
  pub ends : number % rollover ≡ low % rollover
  pub near_is : 2 * apart near number ≤ rollover
  -- where two are equally near it is the later one
  pub later : 2 * apart near number ≡ rollover → number ≡ (near + apart near number) % 2 ^ 64
  -- any other one is as far away, or farther
  pub only : (other : ℕ) → other < 2 ^ 64 → other % rollover ≡ low % rollover → 2 * apart near other < rollover → number ≡ other
