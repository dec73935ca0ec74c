-- Worked rows of blocks, computed from the definitions.
use Rattle.rtp_ext.proofs.Common.{◌≡◌, ◌≢◌, ℕ, [], ◌∷◌, replicate, Bool, true, false, neg_ℤ, pos, Some, None, arith, refl, sym, ◌∙◌, subst, OneByte, TwoByte, Extension, AudioLevel, ExtensionValues, Slots, extension_at, AreElements, ended, cut_short, stopped, Reads, SameFields, IsWellFormed, AreValues, SameFields-refl, one_kind}
use Rattle.rtp_ext.proofs.ValuesLaws.{AreValues-none, AreValues-read, AreValues-passed}

-- one-byte header: an element and the front of one of eight bytes
cut_row : AreElements OneByte (16 ∷ 170 ∷ 55 ∷ 0 ∷ []) ((1, 170 ∷ []) ∷ [])
cut_row = record {
  pieces = Some (1, 170 ∷ []) ∷ [];
  tail = 55 ∷ 0 ∷ [];
  are_pieces = ((omega arith, omega arith, omega arith, omega arith), tt);
  is_tail = cut_short (3, replicate 8 0) (replicate 7 0) (omega arith, omega arith, omega arith, omega arith) (λ e. cc) (λ e. cc) refl;
  body_is = refl;
  elements_are = refl;
}

-- two elements, and nothing after them
two_row : AreElements OneByte (80 ∷ 133 ∷ 16 ∷ 5 ∷ []) ((5, 133 ∷ []) ∷ (1, 5 ∷ []) ∷ [])
two_row = record {
  pieces = Some (5, 133 ∷ []) ∷ Some (1, 5 ∷ []) ∷ [];
  tail = [];
  are_pieces = ((omega arith, omega arith, omega arith, omega arith), ((omega arith, omega arith, omega arith, omega arith), tt));
  is_tail = ended refl;
  body_is = refl;
  elements_are = refl;
}

-- an element, and a byte of id 15, after which nothing counts
stopped_row : AreElements OneByte (16 ∷ 170 ∷ 240 ∷ 0 ∷ 16 ∷ 5 ∷ 0 ∷ 0 ∷ []) ((1, 170 ∷ []) ∷ [])
stopped_row = record {
  pieces = Some (1, 170 ∷ []) ∷ [];
  tail = 240 ∷ 0 ∷ 16 ∷ 5 ∷ 0 ∷ 0 ∷ [];
  are_pieces = ((omega arith, omega arith, omega arith, omega arith), tt);
  is_tail = stopped 240 (0 ∷ 16 ∷ 5 ∷ 0 ∷ 0 ∷ []) refl (omega arith) refl;
  body_is = refl;
  elements_are = refl;
}

-- padding on both sides of an element of id 0 with two bytes
padded_row : AreElements OneByte (0 ∷ 1 ∷ 16 ∷ 5 ∷ 16 ∷ 170 ∷ 0 ∷ []) ((0, 16 ∷ 5 ∷ []) ∷ (1, 170 ∷ []) ∷ [])
padded_row = record {
  pieces = None ∷ Some (0, 16 ∷ 5 ∷ []) ∷ Some (1, 170 ∷ []) ∷ None ∷ [];
  tail = [];
  are_pieces = (tt, ((omega arith, omega arith, omega arith, omega arith), ((omega arith, omega arith, omega arith, omega arith), (tt, tt))));
  is_tail = ended refl;
  body_is = refl;
  elements_are = refl;
}

-- two-byte header: an element without data, one of id 255 after padding, and an id alone
two_byte_row : AreElements TwoByte (1 ∷ 0 ∷ 0 ∷ 255 ∷ 1 ∷ 7 ∷ 2 ∷ []) ((1, []) ∷ (255, 7 ∷ []) ∷ [])
two_byte_row = record {
  pieces = Some (1, []) ∷ None ∷ Some (255, 7 ∷ []) ∷ [];
  tail = 2 ∷ [];
  are_pieces = ((omega arith, omega arith, omega arith), (tt, ((omega arith, omega arith, omega arith), tt)));
  is_tail = cut_short (2, []) (0 ∷ []) (omega arith, omega arith, omega arith) (λ e. cc) (λ e. cc) refl;
  body_is = refl;
  elements_are = refl;
}

-- old values with another audio level
abbrev with_level : ExtensionValues → ℕ → Bool → ExtensionValues
with_level old level voice = record old { audio_level = Some (neg_ℤ (pos level)); voice_activity = Some voice }

others : (old : ExtensionValues) (level : ℕ) (voice : Bool) (kind : Extension) → kind ≢ AudioLevel → SameFields kind old (with_level old level voice)
others old level voice AudioLevel other = absurd (other refl)
others old level voice kind other = SameFields-refl kind old

-- a level of 42 with voice
level_row : (exts : Slots) (old : ExtensionValues) → extension_at exts 1 ≡ Some AudioLevel
    → AreValues exts ((1, 170 ∷ []) ∷ []) old (with_level old 42 true)
level_row exts old mapped =
    AreValues-read exts [] (1, 170 ∷ []) AudioLevel old old (with_level old 42 true) mapped (omega arith, refl, refl)
    (others old 42 true) (AreValues-none exts old)

-- two ids of one kind: the last element counts, which has the lower id
two_ids_row : (exts : Slots) (old : ExtensionValues) → extension_at exts 1 ≡ Some AudioLevel → extension_at exts 5 ≡ Some AudioLevel
    → AreValues exts ((5, 133 ∷ []) ∷ (1, 5 ∷ []) ∷ []) old (with_level old 5 false)
two_ids_row exts old one five =
    AreValues-read exts ((5, 133 ∷ []) ∷ []) (1, 5 ∷ []) AudioLevel old (with_level old 5 true) (with_level old 5 false) one
    (omega arith, refl, refl) (others (with_level old 5 true) 5 false)
    (AreValues-read exts [] (5, 133 ∷ []) AudioLevel old old (with_level old 5 true) five (omega arith, refl, refl)
    (others old 5 true) (AreValues-none exts old))

-- a later element without data is none of an audio level, and what was read stays
malformed_row : (exts : Slots) (old : ExtensionValues) → extension_at exts 1 ≡ Some AudioLevel
    → AreValues exts ((1, 170 ∷ []) ∷ (1, []) ∷ []) old (with_level old 42 true)
malformed_row exts old mapped =
    AreValues-passed exts ((1, 170 ∷ []) ∷ []) (1, []) old (with_level old 42 true)
    (λ kind carries. malformed kind (one_kind (sym carries.0 ∙ mapped)) carries.1) (level_row exts old mapped)
  where
    malformed : (kind : Extension) → kind ≡ AudioLevel → IsWellFormed kind [] → ⊥
    malformed kind is well_formed = let reads = subst (λ k. Reads k [] well_formed.0) is well_formed.1 in absurd (omega (arith, reads.0))

-- an element of an id that nothing is mapped to changes nothing
unmapped_row : (exts : Slots) (old : ExtensionValues) → extension_at exts 1 ≡ Some AudioLevel → extension_at exts 2 ≡ None
    → AreValues exts ((1, 170 ∷ []) ∷ (2, 5 ∷ []) ∷ []) old (with_level old 42 true)
unmapped_row exts old mapped nothing =
    AreValues-passed exts ((1, 170 ∷ []) ∷ []) (2, 5 ∷ []) old (with_level old 42 true) (λ kind carries. let is = carries.0 in cc)
    (level_row exts old mapped)
