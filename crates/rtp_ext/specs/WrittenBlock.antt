-- The elements of a block as they are written (RFC 8285, 4.2 and 4.3).
use Rattle.std.specs.Prelude.{ℕ, ◌+◌, ◌-◌, ◌*◌, ◌≤◌, ◌/◌, ◌%◌, List, [], ◌∷◌, ◌++◌, length, replicate, Bool, ◌||◌, nat_lt, if◌then◌else◌, IfSome}
use Rattle.std.specs.Option.{option_map}
use Rattle.std.specs.List.{filter_map, list_any}
use Rattle.std.specs.Int.{w16, to_be_bytes}
use Rattle.rtp_ext.specs.Form.{form_word}
use Rattle.rtp_ext.specs.declared.form.ExtensionsForm.{ExtensionsForm}
use Rattle.rtp_ext.specs.declared.form.ExtensionsForm.TheVariants.{OneByte, TwoByte}
use Rattle.rtp_values.specs.declared.value.values.ExtensionValues.{ExtensionValues}
use Rattle.rtp_values.specs.declared.kind.Extension.{Extension}
use Rattle.rtp_ext.specs.ExtensionMap.{Slots, items_from, mapped_count}
use Rattle.rtp_ext.specs.Elements.{Element, elements_bytes}
use Rattle.rtp_values.specs.Spelling.{spelled_data, has_no_data, longest, carried_values}
use Rattle.rtp_values.specs.Values.{no_values, with_fields, SameFields}
use Rattle.rtp_values.specs.KindSet.{HasValue}

-- an element for each mapped id by rising id, where its kind has data to write
abbrev pub written_elements : Slots → ExtensionValues → List Element
written_elements exts values =
    filter_map (λ item. option_map (λ bytes. (item.0, bytes)) (spelled_data item.1 values)) (items_from 0 exts)

-- whether the one-byte form can't carry the element of a mapped id: its id is above 14, the data of its kind may have more than 16 bytes, or they are empty
abbrev pub needs_two : ExtensionValues → ℕ × Extension → Bool
needs_two values item = nat_lt 14 item.0 || (nat_lt 16 (longest item.1) || has_no_data (spelled_data item.1 values))

-- the two-byte form exactly where a mapped id needs it
abbrev pub form_of : Slots → ExtensionValues → ExtensionsForm
form_of exts values = if list_any (needs_two values) (items_from 0 exts) then TwoByte else OneByte

-- only a layer allocation has data of more than 16 bytes
abbrev pub HasFewData : ExtensionValues → Type 0
HasFewData values = (kind : Extension) → IfSome (spelled_data kind values) (λ bytes. length bytes ≤ longest kind)

-- the elements of the one-byte form have at most 17 bytes for each mapped id
abbrev pub TakesAtMost17Each : Slots → ExtensionValues → Type 0
TakesAtMost17Each exts values = length (elements_bytes OneByte (written_elements exts values)) ≤ 17 * mapped_count exts

-- of the values the fields of the kinds of these items, and every other field absent
abbrev pub fields_of_items : List (ℕ × Extension) → ExtensionValues → ExtensionValues
fields_of_items [] values = no_values
fields_of_items (item ∷ items) values = with_fields item.1 (fields_of_items items values) values

-- of the values the fields of the kinds that are mapped, and every other field absent
abbrev pub mapped_fields : Slots → ExtensionValues → ExtensionValues
mapped_fields exts values = fields_of_items (items_from 0 exts) values

-- what the written elements are read as: the values that the data of each mapped kind carry, and every other value absent
unfoldable pub image_values : Slots → ExtensionValues → ExtensionValues
image_values exts values = mapped_fields exts (carried_values values)

-- a value of the kind is there, and none is in what the written bytes are read as
abbrev pub IsLeftOut : ExtensionValues → ExtensionValues → Extension → Type 0
IsLeftOut values read kind = HasValue kind values × SameFields kind no_values read

-- as many bytes as the last word lacks
abbrev pub padding_of : ℕ → ℕ
padding_of len = (4 - len % 4) % 4

-- a length rounded up to whole words
abbrev pub whole_words : ℕ → ℕ
whole_words len = len + padding_of len

-- bytes, and zeros that fill their last word
abbrev pub filled : List ℕ → List ℕ
filled bytes = bytes ++ replicate (padding_of (length bytes)) 0

-- a block: the word of its form, the number of its words, and its body
abbrev pub block_of : ExtensionsForm → List ℕ → List ℕ
block_of form body = to_be_bytes w16 (form_word form) ++ (to_be_bytes w16 (length body / 4) ++ body)

-- the elements of the values, and zeros that fill the last word
abbrev pub body_bytes : Slots → ExtensionValues → List ℕ
body_bytes exts values = filled (elements_bytes (form_of exts values) (written_elements exts values))

-- the block of the values
unfoldable pub block_bytes : Slots → ExtensionValues → List ℕ
block_bytes exts values = block_of (form_of exts values) (body_bytes exts values)
