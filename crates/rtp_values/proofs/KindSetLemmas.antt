-- Which kinds have a value: a kind has one where one of its fields is there.
use Rattle.std.proofs.Common.{◌≡◌, ◌↔◌, ◌<◌, ℕ, zero, suc, length, List, [], ◌∷◌, Bool, true, false, IsTrue, refl, sym, ap, ◌∙◌, subst, arith, eqb-true}
use Rattle.std.specs.Prelude.{◌||◌, ◌&&◌, ◌+◌, nat_eq, slice_index_or, map}
use Rattle.std.specs.List.{list_any}
use Rattle.std.proofs.lemmas.Bool.{and_parts}
use mathlib.Core.Bool.{beq as bool_eq, not}
use Rattle.rtp_values.specs.declared.known_kind.KnownKind.{KnownKind}
use Rattle.rtp_values.specs.declared.known_kind.KnownKind.TheVariants as known
use Rattle.rtp_values.specs.declared.value.values.ExtensionValues.{ExtensionValues}
use Rattle.rtp_values.specs.KnownKind.{extension_of_kind, every_kind, place}
use Rattle.rtp_values.specs.Values.{no_values, with_fields, SameFields}
use Rattle.rtp_values.proofs.KindLaws.{laws}
use Rattle.rtp_values.specs.KindSet.{place_of, has, HasValue}

-- whether one of the kind's fields is there
abbrev pub is_there : KnownKind → ExtensionValues → Bool
is_there kind values = (laws kind).there values

-- of values with the fields of others the kind has what it has of the others, and of no values none
there_of_fields : (kind : KnownKind) (values : ExtensionValues) → is_there kind (with_fields (extension_of_kind kind) no_values values) ≡ is_there kind values
there_of_fields known.ColorSpace values = refl
there_of_fields _ values = refl

none_there : (kind : KnownKind) → is_there kind no_values ≡ false
none_there known.ColorSpace = refl
none_there _ = refl

pub HasValue-there : (kind : KnownKind) (values : ExtensionValues) → is_there kind values ≡ true → HasValue (extension_of_kind kind) values
HasValue-there kind values is same =
    let none : is_there kind values ≡ false = sym (there_of_fields kind values) ∙ ap (is_there kind) same ∙ none_there kind in cc

pub absent-there : (kind : KnownKind) (values : ExtensionValues) → is_there kind values ≡ false → SameFields (extension_of_kind kind) no_values values
absent-there kind values is = (laws kind).absent values is

-- a kind has a value exactly where one of its fields is there
pub there-HasValue : (kind : KnownKind) (values : ExtensionValues) → HasValue (extension_of_kind kind) values → is_there kind values ≡ true
there-HasValue kind values has = by_cases (is_there kind values) refl
  where
    by_cases : (b : Bool) → is_there kind values ≡ b → is_there kind values ≡ true
    by_cases true is = is
    by_cases false is = absurd (has (absent-there kind values is))

-- ---- the places of kinds

at_place : (kind : KnownKind) → slice_index_or every_kind (place_of kind) known.ColorSpace ≡ kind
at_place known.ColorSpace = refl
at_place _ = refl

-- each kind has a place of its own
pub one_place : (a b : KnownKind) → place_of a ≡ place_of b → a ≡ b
one_place a b same = sym (at_place a) ∙ (ap (λ (place : ℕ). slice_index_or every_kind place known.ColorSpace) same ∙ at_place b)

-- two kinds that are one extension are one
pub same_kind : (a b : KnownKind) → extension_of_kind a ≡ extension_of_kind b → a ≡ b
same_kind a b same = one_place a b (ap place same)

-- whether the kinds stand at the places from one on
are_from : ℕ → List KnownKind → Bool
are_from place [] = true
are_from place (kind ∷ kinds) = nat_eq (place_of kind) place && are_from (suc place) kinds

at_from : (kinds : List KnownKind) (from index : ℕ) → are_from from kinds ≡ true → index < length kinds → (kind : KnownKind) × (place_of kind ≡ from + index)
unfolding are_from
at_from [] from index are below = absurd (omega arith)
at_from (kind ∷ kinds) from zero are below = (kind, omega (arith, eqb-true (place_of kind) from (and_parts (nat_eq (place_of kind) from) (are_from (suc from) kinds) are).0))
at_from (kind ∷ kinds) from (suc index) are below =
    let found = at_from kinds (suc from) index (and_parts (nat_eq (place_of kind) from) (are_from (suc from) kinds) are).1 (omega arith) in
    (found.0, omega (arith, found.1))

each_from : are_from 0 every_kind ≡ true
unfolding are_from
each_from = refl

-- each place is that of a kind
at_each : (place : ℕ) → place < length every_kind → (kind : KnownKind) × (place_of kind ≡ place)
at_each place below =
    let found = at_from every_kind 0 place each_from below in
    (found.0, omega (arith, found.1))

-- ---- flags that are all clear

clear-each : (flags : List Bool) → list_any (λ flag. bool_eq flag true) flags ≡ false → (place : ℕ) → slice_index_or flags place false ≡ false
clear-each [] none place = refl
clear-each (true ∷ flags) none place = cc
clear-each (false ∷ flags) none zero = refl
clear-each (false ∷ flags) none (suc place) = clear-each flags none place

clear-all : (flags : List Bool) → ((place : ℕ) → place < length flags → slice_index_or flags place false ≡ false) → list_any (λ flag. bool_eq flag true) flags ≡ false
clear-all [] each = refl
clear-all (true ∷ flags) each = let first = each zero (omega arith) in cc
clear-all (false ∷ flags) each = clear-all flags (λ place below. each (suc place) (omega arith))

clear-kinds : (flags : List Bool) → length flags ≡ length every_kind → ((kind : KnownKind) → has flags kind ≡ false) → list_any (λ flag. bool_eq flag true) flags ≡ false
clear-kinds flags len each = clear-all flags λ place below.
    let at = at_each place (omega (arith, len, below)) in ap (λ (k : ℕ). slice_index_or flags k false) (sym at.1) ∙ each at.0

not-false : (any : Bool) → IsTrue (not any) → any ≡ false
not-false true is = cc
not-false false is = refl

-- a set has no kind exactly where no flag is set
pub clear-exactly : (inside flags : List Bool) (any : Bool) → inside ≡ flags → length inside ≡ length every_kind
    → any ≡ list_any (λ flag. bool_eq flag true) inside → IsTrue (not any) ↔ ((kind : KnownKind) → has flags kind ≡ false)
clear-exactly inside flags any shown len is = (
  λ none kind. ap (λ (list : List Bool). has list kind) (sym shown) ∙ clear-each inside (sym is ∙ not-false any none) (place_of kind),
  λ each. (
      let clear : any ≡ false = is ∙ clear-kinds inside len (λ kind. ap (λ (list : List Bool). has list kind) shown ∙ each kind) in ap not clear
      ),
)

-- ---- flags of values

-- both of two flags
pub or_both : (a b x y : Bool) → a ≡ x → b ≡ y → (a || b) ≡ (x || y)
or_both a b x y first second = ap (λ (c : Bool). c || b) first ∙ ap (λ (c : Bool). x || c) second

-- a flag of each kind in turn says whether one of its fields is there
abbrev pub SayWhatIsThere : List Bool → List KnownKind → ExtensionValues → Type 0
SayWhatIsThere [] [] values = Unit {0}
SayWhatIsThere [] (kind ∷ kinds) values = ⊥
SayWhatIsThere (flag ∷ flags) [] values = ⊥
SayWhatIsThere (flag ∷ flags) (kind ∷ kinds) values = (flag ≡ is_there kind values) × SayWhatIsThere flags kinds values

each_there : ExtensionValues → List KnownKind → List Bool
each_there values kinds = map (λ kind. is_there kind values) kinds

flags-each : (flags : List Bool) (kinds : List KnownKind) (values : ExtensionValues) → SayWhatIsThere flags kinds values → flags ≡ each_there values kinds
unfolding each_there
flags-each [] [] values say = refl
flags-each [] (kind ∷ kinds) values say = absurd say
flags-each (flag ∷ flags) [] values say = absurd say
flags-each (flag ∷ flags) (kind ∷ kinds) values say = rw (say.0, flags-each flags kinds values say.1) refl

has-there : (kind : KnownKind) (values : ExtensionValues) → has (each_there values every_kind) kind ≡ is_there kind values
unfolding each_there
has-there known.ColorSpace values = refl
has-there _ values = refl

-- so their kinds are those that have a value
pub flags_say : (values shown : ExtensionValues) (flags : List Bool) → values ≡ shown → SayWhatIsThere flags every_kind values
    → (kind : KnownKind) → (has flags kind ≡ true) ↔ HasValue (extension_of_kind kind) shown
flags_say values shown flags same say kind =
    let there : has flags kind ≡ is_there kind values = ap (λ (list : List Bool). has list kind) (flags-each flags every_kind values say) ∙ has-there kind values in
    subst (λ (v : ExtensionValues). (has flags kind ≡ true) ↔ HasValue (extension_of_kind kind) v) same (
      λ set. HasValue-there kind values (sym there ∙ set),
      λ value. there ∙ there-HasValue kind values value,
    )
