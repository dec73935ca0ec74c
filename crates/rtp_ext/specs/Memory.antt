-- Where memory may be refused: at an element whose data take it.
use Rattle.std.specs.Prelude.{◌≡◌, List, [], ◌∷◌, ◌++◌, Some}
use Rattle.rtp_values.specs.declared.kind.Extension.TheVariants.{VideoLayersAllocation}
use Rattle.rtp_values.specs.declared.value.values.ExtensionValues.{ExtensionValues}
use Rattle.rtp_ext.specs.Elements.{Element}
use Rattle.rtp_ext.specs.ExtensionMap.{Slots, extension_at}
use Rattle.rtp_values.specs.Values.{TakesMemory}
use Rattle.rtp_ext.specs.BlockValues.{AreValues, ReadElements}

-- the element's id is mapped to the layer allocation, and reading its data takes memory
abbrev pub IsAllocation : Slots → Element → Type 0
IsAllocation exts element =
    (extension_at exts element.0 ≡ Some VideoLayersAllocation) × TakesMemory VideoLayersAllocation element.1

-- an element behind these begins a row: no such allocation stands directly in front of it
abbrev pub BeginsRow : Slots → List Element → Type 0
BeginsRow exts before = (earlier : List Element) (previous : Element) → before ≡ earlier ++ previous ∷ []
    → IsAllocation exts previous → ⊥

-- one of the elements has an id that is mapped to the layer allocation, and reading its data takes memory; of such elements that follow one another it is the first, since of a row memory is taken once
pub record HasAllocation (exts : Slots) (elements : List Element) : Type 0 where
  pub before : List Element
  pub element : Element
  pub after : List Element
  pub elements_are : elements ≡ before ++ element ∷ after
  pub is_allocation : IsAllocation exts element
  pub begins_row : BeginsRow exts before

-- reading ended at an element whose data take memory: the values are those of the elements before it
pub record IsStopped (exts : Slots) (elements : List Element) (old new : ExtensionValues) : Type 0 where
  pub at : HasAllocation exts elements
  pub values_are : AreValues exts at.before old new

-- the same of what shows values: it shows those of the elements before that one
pub record ReadUntilRefused {V : Type 0} (Shows : V → ExtensionValues → Type 0) (exts : Slots) (elements : List Element) (old new : V) : Type 0 where
  pub at : HasAllocation exts elements
  pub values_are : ReadElements Shows exts at.before old new
