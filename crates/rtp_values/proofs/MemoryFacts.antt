-- Worked rows of memory, computed from the definitions: what may take it, and what never does.
use Rattle.std.proofs.Common.{◌≡◌, ℕ, List, [], ◌∷◌, Some, None, refl, arith}
use Rattle.rtp_vla.specs.Allocation.{Allocation}
use Rattle.rtp_values.specs.declared.kind.Extension.{Extension}
use Rattle.rtp_values.specs.declared.kind.Extension.TheVariants.{AudioLevel, RtpMid, VideoLayersAllocation}
use Rattle.rtp_values.specs.Values.{TakesMemory, TakesNoMemory}

-- two bytes of a layer allocation may take memory; one byte, and none, never does
two_bytes_row : TakesMemory VideoLayersAllocation (0 ∷ 1 ∷ [])
two_bytes_row = (refl, omega arith)

one_byte_row : (kind : Extension) (byte : ℕ) → TakesMemory kind (byte ∷ []) → ⊥
one_byte_row kind byte takes = absurd (omega (arith, takes.1))

no_byte_row : (kind : Extension) → TakesMemory kind [] → ⊥
no_byte_row kind takes = absurd (omega (arith, takes.1))

-- the data of another kind never do
level_row : (bytes : List ℕ) → TakesMemory AudioLevel bytes → ⊥
level_row bytes takes = let is = takes.0 in cc

mid_row : (bytes : List ℕ) → TakesMemory RtpMid bytes → ⊥
mid_row bytes takes = let is = takes.0 in cc

-- a copy takes no memory without an allocation, and with one that has no streams
no_allocation_row : TakesNoMemory None
no_allocation_row = tt

no_streams_row : (allocation : Allocation) → allocation.simulcast_streams ≡ [] → TakesNoMemory (Some allocation)
no_streams_row allocation none = none

-- with a stream it may, also where the stream has no layers
one_stream_row : TakesNoMemory (Some (record { current_simulcast_stream_index = 0; simulcast_streams = [] ∷ [] })) → ⊥
one_stream_row none = cc
