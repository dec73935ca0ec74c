-- What is held for each source: a receiver by its SSRC (RFC 3550, 3; RFC 3711, 3.2.3).
use Rattle.std.specs.Prelude.{◌≡◌, ◌≢◌, ℕ, ◌+◌, List, length, Option, None, IsSome, unwrap_or, Result, OnOk, OnErr}
use Rattle.std.specs.Map.{lookup}
use Rattle.std.specs.Ordering.{nat_cmp, is_eq}
use Rattle.rtp_receive.specs.StreamState.{ReceiverState}
use Rattle.rtp_receive.specs.declared.receiver.ReceiverState.TheVariants.{Start}

-- the rollover count at which receivers start, and each source that has one, with what its receiver holds, by rising SSRC
pub record ReceiverStates : Type 0 where
  pub rollover_count : ℕ
  pub by_source : List (ℕ × ReceiverState)

-- the receiver of a source, if it has one
abbrev pub receiver_of : ReceiverStates → ℕ → Option ReceiverState
receiver_of receivers source = lookup (λ other. is_eq (nat_cmp source other)) receivers.by_source

-- what the receiver of a source holds; one that is yet to be made starts at the rollover count
abbrev pub state_of : ReceiverStates → ℕ → ReceiverState
state_of receivers source = unwrap_or (receiver_of receivers source) (Start receivers.rollover_count)

-- only what is held for this source changes: it has a receiver then, which is one more where it had none; where memory is refused nothing changes, and it had none
pub record ChangesSource {A E : Type 0} (source : ℕ) (answer : Result A E) (old new : ReceiverStates) : Type 0 where
  pub receiver : OnOk answer (IsSome (receiver_of new source))
  pub others : (other : ℕ) → other ≢ source → receiver_of new other ≡ receiver_of old other
  pub count : new.rollover_count ≡ old.rollover_count
  pub refused : OnErr answer (new ≡ old)
  pub memory : OnErr answer (receiver_of old source ≡ None)
  pub as_many : IsSome (receiver_of old source) → length new.by_source ≡ length old.by_source
  pub one_more : receiver_of old source ≡ None → OnOk answer (length new.by_source ≡ length old.by_source + 1)
