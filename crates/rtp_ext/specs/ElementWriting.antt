-- The elements of mapped ids in a row: what the functions of `block_elements` promise each other.
use Rattle.std.specs.Prelude.{ℕ, ◌+◌, ◌-◌, ◌*◌, ◌≤◌, List, [], ◌∷◌, length, Option, Some, None, IfSome}
use Rattle.std.specs.List.{flat_map}
use Rattle.rtp_ext.specs.declared.form.ExtensionsForm.{ExtensionsForm}
use Rattle.rtp_ext.specs.declared.form.ExtensionsForm.TheVariants.{OneByte, TwoByte}
use Rattle.rtp_values.specs.declared.kind.Extension.{Extension}
use Rattle.rtp_values.specs.declared.value.values.ExtensionValues.{ExtensionValues}
use Rattle.rtp_ext.specs.Elements.{IsElement, element_bytes}
use Rattle.rtp_values.specs.Spelling.{spelled_data, carried_values, longest}
use Rattle.rtp_values.specs.Values.{Reads}

-- the bytes in front of an element's data, by its id and the length of its data
abbrev pub element_header : ExtensionsForm → ℕ → ℕ → List ℕ
element_header OneByte id len = (id * 16 + (len - 1)) ∷ []
element_header TwoByte id len = id ∷ len ∷ []

-- the bytes of an element, and none where its data are absent
abbrev pub element_or_nothing : ExtensionsForm → ℕ → Option (List ℕ) → List ℕ
element_or_nothing form id None = []
element_or_nothing form id (Some bytes) = element_bytes form (id, bytes)

-- the elements of mapped ids in a row
unfoldable pub items_bytes : ExtensionsForm → ExtensionValues → List (ℕ × Extension) → List ℕ
items_bytes form values items = flat_map (λ item. element_or_nothing form item.0 (spelled_data item.1 values)) items

-- an element of a mapped id that may be written in the form: none in the one-byte form whose kind may have more than 16 bytes
abbrev pub CanCarry : ExtensionsForm → ℕ × Extension → Option (List ℕ) → Type 0
CanCarry form item None = Unit {0}
CanCarry OneByte item (Some bytes) = (item.0 ≤ 14) × (longest item.1 ≤ 16) × (1 ≤ length bytes)
CanCarry TwoByte item (Some bytes) = Unit {0}

-- what was written is an element of the form, and is read as the value that it carries
abbrev pub IsCarried : ExtensionsForm → ExtensionValues → ℕ × Extension → Type 0
IsCarried form values item =
    IfSome (spelled_data item.1 values) (λ bytes. IsElement form (item.0, bytes) × Reads item.1 bytes (carried_values values))
