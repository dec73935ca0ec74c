-- Sets of the known kinds, and the kinds of which values are there.
use Rattle.std.specs.Prelude.{ℕ, List, Bool, false, slice_index_or}
use Rattle.rtp_values.specs.declared.known_kind.KnownKind.{KnownKind}
use Rattle.rtp_values.specs.declared.kind.Extension.{Extension}
use Rattle.rtp_values.specs.declared.value.values.ExtensionValues.{ExtensionValues}
use Rattle.rtp_values.specs.KnownKind.{extension_of_kind, place}
use Rattle.rtp_values.specs.Values.{no_values, SameFields}

-- where a kind stands among all
abbrev pub place_of : KnownKind → ℕ
place_of kind = place (extension_of_kind kind)

-- whether the kind is in the set that has this flag at the place of each
abbrev pub has : List Bool → KnownKind → Bool
has flags kind = slice_index_or flags (place_of kind) false

-- a value of the kind is there: its fields aren't all absent
abbrev pub HasValue : Extension → ExtensionValues → Type 0
HasValue kind values = SameFields kind no_values values → ⊥
