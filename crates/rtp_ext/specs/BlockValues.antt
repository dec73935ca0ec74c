-- Which element of a block counts for each kind, and the values of a block (RFC 8285, 4.2 and 4.3).
use Rattle.std.specs.Prelude.{◌≡◌, ℕ, List, ◌∷◌, ◌++◌, Bool, Some, None, is_some, IfSome, All}
use Rattle.rtp_vla.specs.Allocation.{Allocation}
use Rattle.rtp_values.specs.declared.kind.Extension.{Extension}
use Rattle.rtp_values.specs.declared.value.values.ExtensionValues.{ExtensionValues}
use Rattle.rtp_values.specs.Values.{no_values, Reads, SameFields, IsWellFormed}
use Rattle.rtp_ext.specs.declared.form.ExtensionsForm.{ExtensionsForm}
use Rattle.rtp_ext.specs.Elements.{Element, AreElements}
use Rattle.rtp_ext.specs.ExtensionMap.{Slots, extension_at}

-- an element whose id is mapped to the kind, with data that are well-formed for it
abbrev pub Carries : Slots → Extension → Element → Type 0
Carries exts kind element = (extension_at exts element.0 ≡ Some kind) × IsWellFormed kind element.1

-- what the elements make of the fields of one kind
pub data AreFields (exts : Slots) (elements : List Element) (kind : Extension) (old new : ExtensionValues) : Type 0 where
  -- they are those of the last element that carries the kind
  last : (before after : List Element) (element : Element) → elements ≡ before ++ element ∷ after
      → extension_at exts element.0 ≡ Some kind → Reads kind element.1 new
      → All (λ later. Carries exts kind later → ⊥) after → AreFields exts elements kind old new
  -- no element carries it, and they are as before
  none : All (λ element. Carries exts kind element → ⊥) elements → SameFields kind old new → AreFields exts elements kind old new

-- the values once the elements of a block were read into old ones
abbrev pub AreValues : Slots → List Element → ExtensionValues → ExtensionValues → Type 0
AreValues exts elements old new = (kind : Extension) → AreFields exts elements kind old new

-- what shows some values shows, once the elements were read into it, those that the elements make of them
abbrev pub ReadElements : {V : Type 0} → (V → ExtensionValues → Type 0) → Slots → List Element → V → V → Type 0
ReadElements Shows exts elements old new =
    (before : ExtensionValues) → Shows old before → (after : ExtensionValues) × Shows new after × AreValues exts elements before after

-- the body of a block says these values under a map
pub record SaysValues (form : ExtensionsForm) (exts : Slots) (body : List ℕ) (values : ExtensionValues) : Type 0 where
  pub elements : List Element
  pub are_elements : AreElements form body elements
  pub are_values : AreValues exts elements no_values values

-- values that are shown in one place without their layer allocation, with layers in another place that show it where it is said that there is one
pub record ShowsApart {V L : Type 0} (ShowsValues : V → ExtensionValues → Type 0) (ShowsLayers : L → Allocation → Type 0) (places : V × L × Bool) (values : ExtensionValues) : Type 0 where
  pub values_are : ShowsValues places.0 (record values { video_layers_allocation = None })
  pub layers_are : IfSome values.video_layers_allocation (ShowsLayers places.1)
  pub said : places.2 ≡ is_some values.video_layers_allocation
