-- What a receiver holds, whatever its window is made of.
use Rattle.std.specs.Prelude.{◌^◌, ◌<◌, ⊤}
use Rattle.rtp_base.specs.Window.{WindowState}
use Rattle.rtp_receive.specs.declared.receiver.ReceiverState as declared
use Rattle.rtp_receive.specs.declared.receiver.ReceiverState.TheVariants.{Start, Window}

-- a rollover count, or the state of a window
abbrev pub ReceiverState : Type 0
ReceiverState = declared.ReceiverState WindowState

-- a first packet's rollover count has the 48 bits of its number above the 16 of its header
abbrev pub StartsInRange : ReceiverState → Type 0
StartsInRange (Start count) = count < 2 ^ 48
StartsInRange (Window window) = ⊤

-- the same, where each window of this type has its state
abbrev pub held_by : {W : Type 0} → (W → WindowState) → declared.ReceiverState W → ReceiverState
held_by state (Start count) = Start count
held_by state (Window window) = Window (state window)
