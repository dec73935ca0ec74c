-- The bits of the kinds in a set, and the kinds that are put into it.
use Rattle.std.proofs.Common.{◌≡◌, ◌≢◌, ◌⊎◌, ◌↔◌, inl, inr, ℕ, zero, suc, [], ◌∷◌, length, get_or, eqb-true, Some, None, is_some, ◌+◌, ◌<◌, ◌≤◌, List, Bool, true, false, bit_or, refl, sym, ap, ◌∙◌, subst, arith}
use Rattle.std.specs.Int.{bit_at}
use Rattle.std.proofs.lemmas.Bool.{cases_lt, cases_eq, and_parts}
use Rattle.std.proofs.lemmas.Nat.Bits.{bit_at-zero, bit_at-lt, bit_at_or}
use Rattle.rtp_values.specs.declared.known_kind.KnownKind.{KnownKind}
use Rattle.rtp_values.specs.declared.value.values.ExtensionValues.{ExtensionValues}
use Rattle.rtp_values.specs.KnownKind.{extension_of_kind, every_kind}
use Rattle.rtp_values.specs.KindSet.{has, HasValue}
use Rattle.rtp_values.proofs.KindSetLemmas.{SayWhatIsThere, flags_say, or_both}
use Rattle.rtp_c.specs.KindNumbers.{kind_number}
use Rattle.std.specs.Prelude.{if◌then◌else◌, ◌||◌, ◌&&◌, nat_eq}
use Rattle.rtp_c.specs.Given.{given, is_nonzero}
use Rattle.rtp_c.specs.LeftOut.{AreBitsOf}
use Rattle.rtp_c.proofs.KindNumberLemmas.{one_kind, kind_low, number_of_kind}

-- ---- the bits

-- the number is that of a kind in the set
abbrev pub IsNumberIn : List Bool → ℕ → Type 0
IsNumberIn flags number = (kind : KnownKind) × (kind_number kind ≡ number) × (has flags kind ≡ true)

-- the bits below a number are those of the set's kinds, and the others are clear
pub record AreBitsBelow (flags : List Bool) (number bits : ℕ) : Type 0 where
  pub below : (place : ℕ) → place < number → (bit_at bits place ≡ 1) ↔ IsNumberIn flags place
  pub above : (place : ℕ) → number ≤ place → bit_at bits place ≡ 0

-- no kind has the number 0
no_number_0 : (flags : List Bool) (place : ℕ) → place < 1 → IsNumberIn flags place → ⊥
no_number_0 flags place low inside =
    absurd (omega (arith, low, inside.1, (kind_low (kind_number inside.0) inside.0 (number_of_kind inside.0)).0))

pub bits-start : (flags : List Bool) → AreBitsBelow flags 1 0
bits-start flags = record {
  below = λ place low. (
    λ set. (let wrong : 0 ≡ 1 = sym (bit_at-zero place) ∙ set in cc),
    λ inside. absurd (no_number_0 flags place low inside),
  );
  above = λ place _. bit_at-zero place;
}

pub bits-next : (flags : List Bool) (kind : KnownKind) (bits bit : ℕ) → (bit_at bit (kind_number kind) ≡ 1) ↔ (has flags kind ≡ true)
    → ((place : ℕ) → place ≢ kind_number kind → bit_at bit place ≡ 0) → AreBitsBelow flags (kind_number kind) bits
    → AreBitsBelow flags (kind_number kind + 1) (bit_or bits bit)
bits-next flags kind bits bit own others are = record {
  below = λ place low. elim (cases_eq place (kind_number kind)) [
    | inl same ↦
        let clear = are.above place (omega (arith, same)) in
        let its : bit_at (bit_or bits bit) place ≡ bit_at bit (kind_number kind) =
        omega (arith, bit_at_or bits bit place, clear, ap (bit_at bit) same) in (
          λ set. (kind, sym same, own.0 (sym its ∙ set)),
          λ inside. its ∙ own.1 (ap (has flags) (sym (one_kind inside.0 kind (inside.1 ∙ same))) ∙ inside.2),
        )
    | inr other ↦
        let kept : bit_at (bit_or bits bit) place ≡ bit_at bits place = omega (arith, bit_at_or bits bit place, others place other) in
        let before = are.below place (below_or place (kind_number kind) low other) in
        (λ set. before.0 (sym kept ∙ set), λ inside. kept ∙ before.1 inside)
  ];
  above = λ place high.
      omega (arith, bit_at_or bits bit place, others place (λ same. absurd (omega (arith, same, high))), are.above place (omega (arith, high)));
}
  where
    below_or : (place number : ℕ) → place < number + 1 → place ≢ number → place < number
    below_or place number low other = elim (cases_lt place number) [
      | inl less ↦ less
      | inr more ↦ absurd (other (omega (arith, low, more)))
    ]

-- whether the kinds have the numbers from one on
have_numbers : ℕ → List KnownKind → Bool
have_numbers number [] = true
have_numbers number (kind ∷ kinds) = nat_eq (kind_number kind) number && have_numbers (suc number) kinds

number-at : (kinds : List KnownKind) (number index : ℕ) (d : KnownKind) → have_numbers number kinds ≡ true → index < length kinds
    → kind_number (get_or kinds index d) ≡ number + index
unfolding have_numbers
number-at [] number index d have within = absurd (omega arith)
number-at (kind ∷ kinds) number zero d have within =
    omega (arith, eqb-true (kind_number kind) number (and_parts (nat_eq (kind_number kind) number) (have_numbers (suc number) kinds) have).0)
number-at (kind ∷ kinds) number (suc index) d have within =
    omega (arith, number-at kinds (suc number) index d (and_parts (nat_eq (kind_number kind) number) (have_numbers (suc number) kinds) have).1 (omega arith))

every_number : have_numbers 1 every_kind ≡ true
unfolding have_numbers
every_number = refl

-- the bit of the kind at an index is put beside those of the kinds before it
pub bits-kind : (flags : List Bool) (index : ℕ) (d : KnownKind) (bits bit : ℕ) → index < length every_kind
    → (bit_at bit (kind_number (get_or every_kind index d)) ≡ 1) ↔ (has flags (get_or every_kind index d) ≡ true)
    → ((place : ℕ) → place ≢ kind_number (get_or every_kind index d) → bit_at bit place ≡ 0) → AreBitsBelow flags (index + 1) bits
    → AreBitsBelow flags (index + 1 + 1) (bit_or bits bit)
bits-kind flags index d bits bit within own others are =
    let number : kind_number (get_or every_kind index d) ≡ index + 1 = omega (arith, number-at every_kind 1 index d every_number within) in
    subst (λ (n : ℕ). AreBitsBelow flags (n + 1) (bit_or bits bit)) number
    (bits-next flags (get_or every_kind index d) bits bit own others (subst (λ (n : ℕ). AreBitsBelow flags n bits) (sym number) are))

not_set : (bit : ℕ) → bit < 2 → (bit ≡ 1 → ⊥) → bit ≡ 0
not_set bit few other = elim (cases_eq bit 1) [
  | inl one ↦ absurd (other one)
  | inr more ↦ omega (arith, few, more)
]

pub bits-end : (flags : List Bool) (bits : ℕ) → AreBitsBelow flags 16 bits → AreBitsOf (λ kind. has flags kind ≡ true) bits
bits-end flags bits are = record {
  each = λ kind.
      let within = are.below (kind_number kind) (omega (arith, (kind_low (kind_number kind) kind (number_of_kind kind)).1)) in (
        λ set. (let found = within.0 set in ap (has flags) (sym (one_kind found.0 kind found.1)) ∙ found.2),
        λ inside. within.1 (kind, refl, inside),
      );
  others = λ place none. elim (cases_lt place 16) [
    | inl low ↦ not_set (bit_at bits place) (bit_at-lt bits place) (λ set. (let found = (are.below place low).0 set in none found.0 found.1))
    | inr high ↦ are.above place high
  ];
}

-- ---- kinds put into the set of what is left out

pub AreBitsOf-same : (IsOne IsOther : KnownKind → Type 0) (bits : ℕ) → ((kind : KnownKind) → IsOne kind ↔ IsOther kind)
    → AreBitsOf IsOne bits → AreBitsOf IsOther bits
AreBitsOf-same IsOne IsOther bits same are = record {
  each = λ kind. (λ set. (same kind).0 ((are.each kind).0 set), λ is. (are.each kind).1 ((same kind).1 is));
  others = are.others;
}

pub put-one : {Old New Left Is More : Type 0} → New ↔ (Old ⊎ Is) → Old ↔ Left → Is ↔ More → New ↔ (Left ⊎ More)
put-one new left more = (
  λ set. elim (new.0 set) [ inl old ↦ inl (left.0 old) | inr is ↦ inr (more.0 is) ],
  λ out. elim out [ inl it ↦ new.1 (inl (left.1 it)) | inr it ↦ new.1 (inr (more.1 it)) ],
)

pub put-two : {Old Mid New Left Is Other More Most : Type 0} → New ↔ (Mid ⊎ Other) → Mid ↔ (Old ⊎ Is) → Old ↔ Left → Is ↔ More → Other ↔ Most
    → New ↔ (Left ⊎ (More ⊎ Most))
put-two new mid left more most = (
  λ set. elim (new.0 set) [
    | inl at ↦ elim (mid.0 at) [ inl old ↦ inl (left.0 old) | inr is ↦ inr (inl (more.0 is)) ]
    | inr is ↦ inr (inr (most.0 is))
  ],
  λ out. elim out [
    | inl it ↦ new.1 (inl (mid.1 (inl (left.1 it))))
    | inr rest ↦ elim rest [ inl it ↦ new.1 (inl (mid.1 (inr (more.1 it)))) | inr it ↦ new.1 (inr (most.1 it)) ]
  ],
)

-- a flag is set exactly where the value that it tells of is there

flag-of : {A : Type 0} (flag : Bool) (value : A) → flag ≡ is_some (if flag then Some value else None)
flag-of true value = refl
flag-of false value = refl

pub flag_some : {A : Type 0} (flag : Bool) (has : ℕ) (value : A) → flag ≡ is_nonzero has → flag ≡ is_some (given has value)
flag_some flag has value is = is ∙ flag-of (is_nonzero has) value

-- so does one flag of two values
pub either_some : {A B : Type 0} (flag other : Bool) (has also : ℕ) (value : A) (more : B) → flag ≡ is_nonzero has → other ≡ is_nonzero also
    → (flag || other) ≡ (is_some (given has value) || is_some (given also more))
either_some flag other has also value more is too = or_both _ _ _ _ (flag_some flag has value is) (flag_some other also more too)

-- the kinds of a set that has these flags are those of which a value is given
pub kinds_given : (values shown : ExtensionValues) (flags result : List Bool) → values ≡ shown → ((kind : KnownKind) → has result kind ≡ has flags kind)
    → SayWhatIsThere flags every_kind values → (kind : KnownKind) → (has result kind ≡ true) ↔ HasValue (extension_of_kind kind) shown
kinds_given values shown flags result same is say kind =
    subst (λ (b : Bool). (b ≡ true) ↔ HasValue (extension_of_kind kind) shown) (sym (is kind)) (flags_say values shown flags same say kind)
