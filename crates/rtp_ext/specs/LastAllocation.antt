-- A row of layer allocations in a block: the last well-formed one is read in place of all of them.
use Rattle.std.specs.Prelude.{◌≡◌, ◌≢◌, ◌≤◌, List, [], ◌∷◌, ◌++◌, ℕ, length, All, Some}
use Rattle.rtp_values.specs.declared.kind.Extension.{Extension}
use Rattle.rtp_values.specs.declared.kind.Extension.TheVariants.{VideoLayersAllocation}
use Rattle.rtp_values.specs.declared.value.values.ExtensionValues.{ExtensionValues}
use Rattle.rtp_ext.specs.Elements.{Element}
use Rattle.rtp_ext.specs.ExtensionMap.{Slots, extension_at}
use Rattle.rtp_ext.specs.BlockValues.{Carries, ReadElements}
use Rattle.rtp_ext.specs.Memory.{IsAllocation}

-- the bytes are the data of the last element that carries an allocation, and the first data where none does
pub data IsLastAllocation (exts : Slots) (elements : List Element) (first bytes : List ℕ) : Type 0 where
  -- they are those of the last element that carries an allocation
  last_is : (before after : List Element) (element : Element) → elements ≡ before ++ element ∷ after
      → Carries exts VideoLayersAllocation element → All (λ later. Carries exts VideoLayersAllocation later → ⊥) after
      → bytes ≡ element.1 → IsLastAllocation exts elements first bytes
  -- no element carries one, and they are the first data
  none_is : All (λ element. Carries exts VideoLayersAllocation element → ⊥) elements → bytes ≡ first
      → IsLastAllocation exts elements first bytes

-- some elements follow an allocation that has the first data: they begin with a row of elements that carry no other kind, and the bytes are the data of its last allocation, or else the first ones; they take memory only where the first ones do
pub record EndsRow (exts : Slots) (first : List ℕ) (elements left : List Element) (bytes : List ℕ) : Type 0 where
  pub row : List Element
  pub elements_are : elements ≡ row ++ left
  pub no_other : (kind : Extension) → kind ≢ VideoLayersAllocation → All (λ element. Carries exts kind element → ⊥) row
  pub last : IsLastAllocation exts row first bytes
  pub memory : 2 ≤ length bytes → 2 ≤ length first

-- the first of the elements, if there is one, has an id that isn't mapped to the layer allocation
abbrev pub EndsBefore : Slots → List Element → Type 0
EndsBefore exts left = (element : Element) (after : List Element) → left ≡ element ∷ after
    → extension_at exts element.0 ≢ Some VideoLayersAllocation

-- where the last of the elements that were passed takes memory, its row has ended before those that are left
abbrev pub IsPastRow : Slots → List Element → List Element → Type 0
IsPastRow exts done left = (earlier : List Element) (previous : Element) → done ≡ earlier ++ previous ∷ []
    → IsAllocation exts previous → EndsBefore exts left

-- the elements up to those that are left were read into the values
pub record IsReadTo {V : Type 0} (Shows : V → ExtensionValues → Type 0) (exts : Slots) (elements left : List Element) (old new : V) : Type 0 where
  pub done : List Element
  pub elements_are : elements ≡ done ++ left
  pub values_are : ReadElements Shows exts done old new

-- the same, and no row of allocations goes on in those that are left
pub record IsReadPastRow {V : Type 0} (Shows : V → ExtensionValues → Type 0) (exts : Slots) (elements left : List Element) (old new : V) : Type 0 where
  pub is_read : IsReadTo Shows exts elements left old new
  pub past_row : IsPastRow exts is_read.done left
