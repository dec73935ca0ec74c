-- The block of a header as it is written in a form that is given, and how long it is.
use Rattle.std.specs.Prelude.{ℕ, ◌+◌, ◌*◌, ◌≤◌, List, Bool, true, false, Option, Some, None}
use Rattle.rtp_ext.specs.declared.form.ExtensionsForm.{ExtensionsForm}
use Rattle.rtp_values.specs.declared.value.values.ExtensionValues.{ExtensionValues}
use Rattle.rtp_ext.specs.ExtensionMap.{Slots, mapped_count}
use Rattle.rtp_ext.specs.Elements.{elements_bytes}
use Rattle.rtp_ext.specs.WrittenBlock.{form_of, written_elements, whole_words, filled, block_of}

-- the form of the block that X announces, and none where X is clear
abbrev pub announced_form : Slots → Bool → ExtensionValues → Option ExtensionsForm
announced_form exts false values = None
announced_form exts true values = Some (form_of exts values)

-- the block of the values in the form
unfoldable pub block_bytes_in : ExtensionsForm → Slots → ExtensionValues → List ℕ
block_bytes_in form exts values = block_of form (filled (elements_bytes form (written_elements exts values)))

-- a block of so many bytes is no longer than the map allows: 4 bytes, and whole words with 257 bytes for each mapped id, of which 255 have elements
abbrev pub IsWithinMap : Slots → ℕ → Type 0
IsWithinMap exts len = (len ≤ 4 + whole_words (257 * mapped_count exts)) × (len ≤ 4 + whole_words (257 * 255))
