-- Worked rows of memory, computed from the definitions: maps whose copy takes none, and rows of allocations.
use Rattle.rtp_ext.proofs.Common.{List, ℕ, zero, suc, [], ◌∷◌, Some, None, refl, ap, subst, AudioLevel, ColorSpace, UnknownUri, IsKnown, one_kind, Slots, HasNoText, IsEmpty, extension_of, locked, unlocked, arith, VideoLayersAllocation}
use Rattle.rtp_ext.specs.Memory.{BeginsRow}

-- an empty map
empty_row : (map : Slots) → IsEmpty map → HasNoText map
empty_row map empty id extension is = let none = ap extension_of (empty id) in cc

-- known extensions, locked or free, of a medium or of none
known_row : HasNoText (None ∷ Some (locked AudioLevel) ∷ Some (unlocked ColorSpace) ∷ [])
known_row zero extension is = cc
known_row (suc zero) extension is = cc
known_row (suc (suc zero)) extension is = subst IsKnown (one_kind is) tt
known_row (suc (suc (suc zero))) extension is = subst IsKnown (one_kind is) tt
known_row (suc (suc (suc (suc id)))) extension is = cc

-- not a map with an unknown extension, after known ones, whether it is locked or free
unknown_row : (uri : List ℕ) → HasNoText (Some (unlocked AudioLevel) ∷ Some (unlocked (UnknownUri uri)) ∷ []) → ⊥
unknown_row uri all = all 2 (UnknownUri uri) refl

locked_unknown_row : (uri : List ℕ) → HasNoText (None ∷ Some (locked (UnknownUri uri)) ∷ []) → ⊥
locked_unknown_row uri all = all 2 (UnknownUri uri) refl

-- of two allocations that follow one another the second begins no row
second_row : BeginsRow (Some (unlocked VideoLayersAllocation) ∷ []) ((1, 0 ∷ 1 ∷ []) ∷ []) → ⊥
second_row begins = begins [] (1, 0 ∷ 1 ∷ []) refl (refl, (refl, omega arith))
