-- The elements of a packet's block, the last of an id, and the values that they give (RFC 8285, 4.2 and 4.3).
use Rattle.std.specs.Prelude.{◌≡◌, ℕ, List, [], Option, Some, None}
use Rattle.std.specs.Borrow.{Bor}
use Rattle.rtp_ext.specs.declared.form.ExtensionsForm.{ExtensionsForm}
use Rattle.rtp_ext.specs.declared.map.ExtensionMap.{ExtensionMap}
use Rattle.rtp_values.specs.declared.value.values.ExtensionValues.{ExtensionValues}
use Rattle.rtp_ext.specs.Elements.{Element, AreElements}
use Rattle.rtp_ext.specs.ElementsInPlace.{HasNone, HasLast}
use Rattle.rtp_ext.specs.BlockValues.{AreValues}
use Rattle.rtp_values.specs.Values.{no_values}

-- the elements of a block, and none without one
abbrev pub AreElementsOf : Option (ExtensionsForm × List ℕ) → List Element → Type 0
AreElementsOf None elements = elements ≡ []
AreElementsOf (Some block) elements = AreElements block.0 block.1 elements

-- of some elements the last of this id, or that there is none
abbrev pub IsLast : List Element → ℕ → Option (Bor (List ℕ)) → Type 0
IsLast elements id None = HasNone elements id
IsLast elements id (Some found) = HasLast elements id found.now

-- the values that the block gives under the map, and none without one
pub record HasValues (exts : ExtensionMap) (block : Option (ExtensionsForm × List ℕ)) (values : ExtensionValues) : Type 0 where
  pub elements : List Element
  pub are_elements : AreElementsOf block elements
  pub are_values : AreValues exts elements no_values values
