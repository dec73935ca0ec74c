-- The known extensions by their ids (RFC 8285, 5).
use Rattle.std.specs.Prelude.{◌≡◌, ℕ, List, [], ◌∷◌, refl, drop, map, length, Bool, true, false, ◌||◌, nat_lt, Option, Some, None}
use Rattle.std.specs.Option.{option_map}
use Rattle.std.specs.List.{list_any, filter}
use Rattle.std.proofs.Common.{sym, ap, ◌∙◌}
use Rattle.rtp_values.specs.declared.value.values.ExtensionValues.{ExtensionValues}
use Rattle.rtp_values.specs.declared.kind.Extension.{Extension}
use Rattle.rtp_values.specs.declared.kind.Extension.TheVariants.{UnknownUri}
use Rattle.rtp_values.specs.declared.known_kind.KnownKind.{KnownKind}
use Rattle.rtp_values.specs.declared.known_kind.KnownKind.TheVariants as kind
use Rattle.rtp_values.specs.KnownKind.{extension_of_kind}
use Rattle.rtp_values.specs.Spelling.{longest, has_no_data, spelled_data}
use Rattle.rtp_ext.specs.ExtensionMap.{Entry, Slots, unlocked}

-- the entry of a known kind, and none where there is none
abbrev pub entry_of_kind : Option KnownKind → Option Entry
entry_of_kind kind = option_map (λ k. unlocked (extension_of_kind k)) kind

-- the slots of the ids from 1 on, of the kinds of the ids from 0 on
abbrev pub slots_of : List (Option KnownKind) → Slots
slots_of kinds = map entry_of_kind (drop 1 kinds)

-- an extension by itself where it is known, and nothing instead of an unknown one
abbrev pub known_alone : Extension → Option Entry
known_alone (UnknownUri uri) = None
known_alone kind = Some (unlocked kind)

-- the known extension in a slot
abbrev pub known_entry : Option Entry → Option Entry
known_entry None = None
known_entry (Some entry) = known_alone entry.extension

-- the known extensions of a map, unlocked
abbrev pub known_slots : Slots → Slots
known_slots slots = map known_entry slots

-- whether the one-byte form can't carry the element of a mapped id, whatever its data are: its id is above 14, or they may have more than 16 bytes
abbrev pub is_long_item : ℕ × Extension → Bool
is_long_item item = nat_lt 14 item.0 || nat_lt 16 (longest item.1)

-- whether the data of a mapped id's extension may be longer than those of the one-byte form
abbrev pub has_long_data : ℕ × Extension → Bool
has_long_data item = nat_lt 16 (longest item.1)

-- whether the kind is the layer allocation, and how many of some kinds are
abbrev pub is_layers : Option KnownKind → Bool
is_layers (Some kind.VideoLayersAllocation) = true
is_layers kind = false

abbrev pub layers_count : List (Option KnownKind) → ℕ
layers_count kinds = length (filter is_layers kinds)

-- whether there are data for one of these mapped ids, and they are empty
abbrev pub has_empty : List (ℕ × Extension) → ExtensionValues → Bool
has_empty items values = list_any (λ item. has_no_data (spelled_data item.1 values)) items

-- For the prover: the known extensions of a table are all that it has.
known_kind : (it : KnownKind) → known_alone (extension_of_kind it) ≡ Some (unlocked (extension_of_kind it))
known_kind kind.AbsoluteSendTime = refl
known_kind _ = refl

known_each : (kinds : List (Option KnownKind)) → map entry_of_kind kinds ≡ map known_entry (map entry_of_kind kinds)
known_each [] = refl
known_each (None ∷ kinds) = ap (λ (rest : Slots). None ∷ rest) (known_each kinds)
known_each (Some kind ∷ kinds) =
    ap (λ (rest : Slots). Some (unlocked (extension_of_kind kind)) ∷ rest) (known_each kinds)
    ∙ ap (λ entry. entry ∷ map known_entry (map entry_of_kind kinds)) (sym (known_kind kind))

-- each extension that a table of kinds maps an id to is known
pub known_of_kinds : (kinds : List (Option KnownKind)) → slots_of kinds ≡ known_slots (slots_of kinds)
known_of_kinds kinds = known_each (drop 1 kinds)
