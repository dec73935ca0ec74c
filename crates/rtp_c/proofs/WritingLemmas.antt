-- The elements that C names, as they are written.
use Rattle.rtp_c.proofs.Common.{◌⊎◌, inl, inr, ℤ, w32, to_z, of_z, ◌≡◌, ℕ, List, refl, sym, ap, subst, All, arith, lt_of_not-le, Option, Some, None, recursion_from_All, ExtensionsForm, IsWritable, AreWritableIn, ElementView, form_number, ok, short_buffer, bad_field, LieIn, elements_in, AreTooLong}
use Rattle.rtp_ext.specs.declared.form.ExtensionsForm.TheVariants.{OneByte, TwoByte}

-- elements that the form can carry, for which only the room is short
pub AreTooLong-carried : (form : ExtensionsForm) (bytes : List ℕ) (views : List ElementView) (room : ℕ) → LieIn bytes views
    → (AreWritableIn form (elements_in bytes views) room → ⊥) → All (IsWritable form) (elements_in bytes views) → AreTooLong form bytes views room
AreTooLong-carried form bytes views room within short all = record {
  writable = record { within = within; carried = all };
  too_long = lt_of_not-le (λ fits.
      short (record { writable = recursion_from_All (IsWritable form) (elements_in bytes views) all; bytes_fit = fits }));
}

-- the forms have different numbers
pub one_form : (f g : ExtensionsForm) → form_number (Some f) ≡ form_number (Some g) → f ≡ g
one_form OneByte OneByte same = refl
one_form OneByte TwoByte same = absurd (omega (arith, same))
one_form TwoByte OneByte same = absurd (omega (arith, same))
one_form TwoByte TwoByte same = refl

pub one_allowed : (a b : Option ExtensionsForm) → form_number a ≡ form_number b → a ≡ b
one_allowed None None same = refl
one_allowed None (Some OneByte) same = absurd (omega (arith, same))
one_allowed None (Some TwoByte) same = absurd (omega (arith, same))
one_allowed (Some OneByte) None same = absurd (omega (arith, same))
one_allowed (Some TwoByte) None same = absurd (omega (arith, same))
one_allowed (Some f) (Some g) same = ap Some (one_form f g same)

-- a status that is passed on as it is
pub passed_on : (status : ℤ) → (status ≡ ok) ⊎ ((status ≡ short_buffer) ⊎ (status ≡ bad_field)) → status ≡ to_z w32 (of_z w32 status)
passed_on status (inl is) = subst (λ (z : ℤ). z ≡ to_z w32 (of_z w32 z)) (sym is) refl
passed_on status (inr (inl is)) = subst (λ (z : ℤ). z ≡ to_z w32 (of_z w32 z)) (sym is) refl
passed_on status (inr (inr is)) = subst (λ (z : ℤ). z ≡ to_z w32 (of_z w32 z)) (sym is) refl
