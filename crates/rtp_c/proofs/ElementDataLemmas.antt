-- The data of an element, of the values that C gives.
use Rattle.rtp_c.proofs.Common.{◌≡◌, ℕ, ◌<◌, List, [], ◌++◌, length, drop, Option, None, Some, IfSome, refl, sym, ap, ◌∙◌, subst, arith, option_map, unwrap_or, extension_of_kind, Reads, spelled_data, carried_values, KnownKind, ExtensionValues, AreGivenValues, IsNamed, IsKindNumbered, kind_numbered}
use Rattle.rtp_c.specs.declared.values.ValuesView.{ValuesView}
use Rattle.rtp_c.specs.ElementData.{IsAskedFor, HasNoData, AreDataOf, AreTooLongData, AreWrittenData}
use Rattle.rtp_c.proofs.KindNumberLemmas.{numbered_is}
use Rattle.rtp_ext.proofs.WrittenBlockLemmas.{none-from_map}

pub IsAskedFor-found : (number : ℕ) (view : ValuesView) (kind : Option KnownKind) (values : ExtensionValues) → IsNamed number → kind ≡ kind_numbered number
    → AreGivenValues view values → IsAskedFor number view kind values
IsAskedFor-found number view kind values named is given =
    record { named = named; numbered = subst (IsKindNumbered number) (sym is) (numbered_is number); are_given = given }

pub HasNoData-own : (number : ℕ) (view : ValuesView) (values : ExtensionValues) → IsAskedFor number view None values → HasNoData number view
HasNoData-own number view values asked = record { kind = None; values = values; asked = asked; no_data = refl }

pub HasNoData-kind : (number : ℕ) (view : ValuesView) (kind : KnownKind) (values : ExtensionValues) → IsAskedFor number view (Some kind) values
    → None ≡ option_map length (spelled_data (extension_of_kind kind) values) → HasNoData number view
HasNoData-kind number view kind values asked none =
    record { kind = Some kind; values = values; asked = asked; no_data = none-from_map (spelled_data (extension_of_kind kind) values) none }

-- and where there is one it is theirs
abbrev HasLength : ℕ → Option (List ℕ) → Type 0
HasLength len spelled = (bytes : List ℕ) × (spelled ≡ Some bytes) × (len ≡ length bytes)

has_length : (len : ℕ) (spelled : Option (List ℕ)) → Some len ≡ option_map length spelled → HasLength len spelled
has_length len None is = cc
has_length len (Some bytes) is = (bytes, refl, cc)

module _ (number : ℕ) (view : ValuesView) (kind : KnownKind) (values : ExtensionValues) (asked : IsAskedFor number view (Some kind) values)
    (len : ℕ) (len_is : Some len ≡ option_map length (spelled_data (extension_of_kind kind) values)) where
  abbrev found : HasLength len (spelled_data (extension_of_kind kind) values)
  found = has_length len (spelled_data (extension_of_kind kind) values) len_is

  abbrev are_data : AreDataOf number view found.0
  are_data = record {
    kind = kind;
    values = values;
    asked = asked;
    data_are = found.1;
  }

  pub AreTooLongData-short : (room : ℕ) → room < len → AreTooLongData number view room
  AreTooLongData-short room short = record { bytes = found.0; are_data = are_data; too_long = omega (arith, short, found.2) }

  pub AreWrittenData-written : (old new : List ℕ)
      → IfSome (spelled_data (extension_of_kind kind) values) (λ bytes. Reads (extension_of_kind kind) bytes (carried_values values))
      → new ≡ unwrap_or (spelled_data (extension_of_kind kind) values) [] ++ drop (length (unwrap_or (spelled_data (extension_of_kind kind) values) [])) old
      → AreWrittenData number view old new len
  AreWrittenData-written old new read written = record {
    bytes = found.0;
    are_data = are_data;
    len_is = found.2;
    written = written
        ∙ ap (λ (spelled : Option (List ℕ)). unwrap_or spelled [] ++ drop (length (unwrap_or spelled [])) old) found.1
        ∙ ap (λ (n : ℕ). found.0 ++ drop n old) (sym found.2);
    read_back = subst (λ (spelled : Option (List ℕ)). IfSome spelled (λ bytes. Reads (extension_of_kind kind) bytes (carried_values values))) found.1 read;
  }
