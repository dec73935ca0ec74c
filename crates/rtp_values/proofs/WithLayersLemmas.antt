-- Values with another layer allocation: each other kind has the data that it had.
use Rattle.std.proofs.Common.{◌≡◌, ◌≢◌, ◌∙◌, List, ℕ, Option, refl, sym}
use Rattle.rtp_vla.specs.Allocation.{Allocation}
use Rattle.rtp_values.specs.declared.known_kind.KnownKind.{KnownKind}
use Rattle.rtp_values.specs.declared.known_kind.KnownKind.TheVariants.{VideoLayersAllocation}
use Rattle.rtp_values.specs.declared.value.values.ExtensionValues.{ExtensionValues}
use Rattle.rtp_values.specs.KnownKind.{extension_of_kind}
use Rattle.rtp_values.specs.Spelling.{spelled_data, has_no_data, carried_values}
use Rattle.rtp_values.specs.KindBytes.{WritesData}
use Rattle.rtp_values.proofs.EmptyDataLemmas.{no_empty_data}

abbrev with_allocation : ExtensionValues → Option Allocation → ExtensionValues
with_allocation values allocation = record values { video_layers_allocation = allocation }

-- what is written of another kind is the same
pub WritesData-other : (kind : KnownKind) (values : ExtensionValues) (allocation : Option Allocation) {old new : List ℕ} {result : Option ℕ} → kind ≢ VideoLayersAllocation
    → WritesData (extension_of_kind kind) values old new result → WritesData (extension_of_kind kind) (with_allocation values allocation) old new result
unfolding carried_values
WritesData-other VideoLayersAllocation values allocation other writes = absurd (other refl)
WritesData-other _ values allocation other writes =
    record { length_is = writes.length_is; written = writes.written; read_back = writes.read_back; few = writes.few }

-- and no data are empty that weren't, since those of an allocation never are
pub no_data-other : (kind : KnownKind) (values : ExtensionValues) (allocation : Option Allocation)
    → has_no_data (spelled_data (extension_of_kind kind) values) ≡ has_no_data (spelled_data (extension_of_kind kind) (with_allocation values allocation))
no_data-other VideoLayersAllocation values allocation =
    no_empty_data VideoLayersAllocation values (λ e. cc) (λ e. cc) (λ e. cc)
    ∙ sym (no_empty_data VideoLayersAllocation (with_allocation values allocation) (λ e. cc) (λ e. cc) (λ e. cc))
no_data-other _ values allocation = refl
