-- What one stream's receiver holds, and its rule for a number (RFC 3711, 3.3.1 and 3.3.2).
use Rattle.std.specs.Prelude.{◌≡◌, ℕ, ◌+◌, ◌*◌, ◌%◌, ◌<◌, ◌≤◌, ◌⊎◌, IsTrue, false, Option, Some, None}
use Rattle.rtp_base.specs.Window.{Numbers, window_size, IsGreatest, KeepsOf, ShowsBelowZeroOf, StaysBelowZeroOf, AcceptsOf, including}
use Rattle.rtp_receive.specs.Widening.{IsNearest}
use Rattle.rtp_receive.specs.StreamState.{ReceiverState}
use Rattle.rtp_receive.specs.declared.receiver.ReceiverState.TheVariants.{Start, Window}
use Rattle.rtp_receive.specs.declared.standing.Standing.{Standing}
use Rattle.rtp_receive.specs.declared.standing.Standing.TheVariants.{New, TooOld}
use Rattle.rtp_receive.specs.declared.standing.Standing.TheVariants as standing
use Rattle.rtp_receive.specs.declared.receiver.Verdict.{Verdict}
use Rattle.rtp_receive.specs.declared.receiver.Verdict.TheVariants.{Unreadable, Taken, Refused}

-- no number is in the set
abbrev pub IsNothing : Numbers → Type 0
IsNothing taken = (n : ℕ) → taken n ≡ false

-- the highest number of a set, if it has any
abbrev pub IsHighest : Numbers → Option ℕ → Type 0
IsHighest taken None = IsNothing taken
IsHighest taken (Some highest) = IsGreatest taken highest

-- a receiver with a window of this size holds the set of the numbers that it has taken: none yet where it is to start at this rollover count, or those that the window keeps, wherever it started
abbrev pub HoldsOf : ℕ → ReceiverState → ℕ → Numbers → Type 0
HoldsOf size (Start start) count taken = (start ≡ count) × IsNothing taken
HoldsOf size (Window window) count taken = KeepsOf size window taken

-- of the numbers below 0 a window of this size records none where it is new, and those that it recorded where it isn't
abbrev pub StaysBelowZeroInOf : ℕ → ReceiverState → ReceiverState → Type 0
StaysBelowZeroInOf size (Start start) (Start count) = start ≡ count
StaysBelowZeroInOf size (Start start) (Window new) = ShowsBelowZeroOf size new false
StaysBelowZeroInOf size (Window old) (Start count) = ⊥
StaysBelowZeroInOf size (Window old) (Window new) = StaysBelowZeroOf size old new

-- the extended sequence number that ends in these 16 bits: the nearest to the highest number, and where there is none the one of this rollover count
abbrev pub ExtendsFrom : ℕ → Option ℕ → ℕ → ℕ → Type 0
ExtendsFrom count None low number = number ≡ 65536 * count + low % 65536
ExtendsFrom count (Some highest) low number = IsNearest 16 highest low number

-- the extended sequence number of a packet with these 16 bits, after the highest number taken
abbrev pub IsNumberOf : ℕ → Numbers → ℕ → ℕ → Type 0
IsNumberOf count taken low number = (highest : Option ℕ) × IsHighest taken highest × ExtendsFrom count highest low number

-- the number may be taken: no number is taken yet, or a replay window of this size accepts it
abbrev pub IsFreshOf : ℕ → Numbers → ℕ → Type 0
IsFreshOf size taken number = IsNothing taken ⊎ AcceptsOf size taken number

-- what is known of a number, where these are taken: it may be taken, or a window of this size still tells that it was, or it is behind the window
abbrev pub HasStandingOf : ℕ → Numbers → ℕ → Standing → Type 0
HasStandingOf size taken number New = IsFreshOf size taken number
HasStandingOf size taken number standing.Taken = IsTrue (taken number) × ((highest : ℕ) → IsGreatest taken highest → highest < number + size)
HasStandingOf size taken number TooOld = (highest : ℕ) × IsGreatest taken highest × (number + size ≤ highest)

-- the verdict on a number, where these are taken before it
abbrev pub IsJudgedOf : ℕ → Numbers → ℕ → Verdict → Type 0
IsJudgedOf size taken number (Taken n) = (n ≡ number) × IsFreshOf size taken number
IsJudgedOf size taken number Refused = IsFreshOf size taken number → ⊥
IsJudgedOf size taken number Unreadable = ⊥

-- what is taken after a verdict
abbrev pub taken_after : Numbers → Verdict → Numbers
taken_after taken (Taken number) = including taken number
taken_after taken Refused = taken
taken_after taken Unreadable = taken

-- the same of `Receiver`, whose window has 128 numbers
abbrev pub Holds : ReceiverState → ℕ → Numbers → Type 0
Holds = HoldsOf window_size

abbrev pub StaysBelowZeroIn : ReceiverState → ReceiverState → Type 0
StaysBelowZeroIn = StaysBelowZeroInOf window_size

abbrev pub IsFresh : Numbers → ℕ → Type 0
IsFresh = IsFreshOf window_size

abbrev pub IsJudged : Numbers → ℕ → Verdict → Type 0
IsJudged = IsJudgedOf window_size
