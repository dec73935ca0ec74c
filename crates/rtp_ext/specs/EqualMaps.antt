-- For the prover: equality of maps is one. A reader may skip this file.
use Rattle.std.specs.Prelude.{Bool, true, false, Option, Some, None}
use Rattle.std.specs.Cmp.{IsEquivalence}
use Rattle.std.specs.Cmp.Lexicographic.{pointwise, lists_equiv}
use Rattle.rtp_values.specs.declared.kind.Extension.{Extension}
use Rattle.rtp_ext.specs.declared.slots.Mapping.{Mapping}
use Rattle.rtp_ext.specs.declared.slots.Mapping.TheVariants as mapping
use Rattle.rtp_ext.specs.contracts.slots.MappingPartialEq.TheImpl as mapping_eq
use Rattle.rtp_ext.specs.contracts.slots.MappingEq.TheImpl.Laws.{laws-law}
use Rattle.rtp_ext.specs.ExtensionMap.{Entry, Slots}

-- the slot of an extension, which is locked there or free
abbrev pub mapping_to : Bool → Extension → Mapping
mapping_to true extension = mapping.Locked extension
mapping_to false extension = mapping.Free extension

-- the slot of an entry
abbrev pub mapping_of : Option Entry → Mapping
mapping_of None = mapping.Unmapped
mapping_of (Some entry) = mapping_to entry.locked entry.extension

-- whether two slots hold the same entry
abbrev pub same_slot : Option Entry → Option Entry → Bool
same_slot a b = (mapping_eq.ghosts).eq (mapping_of a) (mapping_of b)

pub same_slot-equiv : IsEquivalence same_slot
same_slot-equiv = record {
  refl = λ a. laws-law.refl (mapping_of a);
  symm = λ a b. laws-law.symm (mapping_of a) (mapping_of b);
  congr = λ a b c. laws-law.congr (mapping_of a) (mapping_of b) (mapping_of c);
}

-- whether the same entry is in each slot
abbrev pub same_slots : Slots → Slots → Bool
same_slots = pointwise same_slot

pub same_slots-equiv : IsEquivalence same_slots
same_slots-equiv = lists_equiv same_slot-equiv
