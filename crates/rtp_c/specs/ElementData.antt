-- The data that an element has for the values that C gives (RFC 8285, 4.2 and 4.3).
use Rattle.std.specs.Prelude.{◌≡◌, ℕ, ◌<◌, List, ◌++◌, length, drop, Option, Some, None}
use Rattle.rtp_values.specs.KnownKind.{extension_of_kind}
use Rattle.rtp_values.specs.Values.{Reads}
use Rattle.rtp_values.specs.Spelling.{spelled_data, carried_values}
use Rattle.rtp_values.specs.declared.known_kind.KnownKind.{KnownKind}
use Rattle.rtp_values.specs.declared.value.values.ExtensionValues.{ExtensionValues}
use Rattle.rtp_c.specs.declared.values.ValuesView.{ValuesView}
use Rattle.rtp_c.specs.Given.{AreGivenValues}
use Rattle.rtp_c.specs.KindNumbers.{IsNamed, IsKindNumbered}

-- the number names an extension, its kind if it is one, and these values are given
pub record IsAskedFor (number : ℕ) (view : ValuesView) (kind : Option KnownKind) (values : ExtensionValues) : Type 0 where
  pub named : IsNamed number
  pub numbered : IsKindNumbered number kind
  pub are_given : AreGivenValues view values

-- the data of an element of the kind for the values, and none for an extension of the caller's own
abbrev pub data_of : Option KnownKind → ExtensionValues → Option (List ℕ)
data_of None values = None
data_of (Some kind) values = spelled_data (extension_of_kind kind) values

-- no number and values can be asked for: the number names nothing, or a value can't be given
abbrev pub IsNothingAskedFor : ℕ → ValuesView → Type 0
IsNothingAskedFor number view = (kind : Option KnownKind) (values : ExtensionValues) → IsAskedFor number view kind values → ⊥

-- the value that the kind needs isn't there
pub record HasNoData (number : ℕ) (view : ValuesView) : Type 0 where
  pub kind : Option KnownKind
  pub values : ExtensionValues
  pub asked : IsAskedFor number view kind values
  pub no_data : data_of kind values ≡ None

-- these are the data of an element of the kind
pub record AreDataOf (number : ℕ) (view : ValuesView) (bytes : List ℕ) : Type 0 where
  pub kind : KnownKind
  pub values : ExtensionValues
  pub asked : IsAskedFor number view (Some kind) values
  pub data_are : data_of (Some kind) values ≡ Some bytes

-- they stand at the front of the buffer, whose other bytes are as they were, and are read as the values that they carry
pub record AreWrittenData (number : ℕ) (view : ValuesView) (old new : List ℕ) (len : ℕ) : Type 0 where
  pub bytes : List ℕ
  pub are_data : AreDataOf number view bytes
  pub len_is : len ≡ length bytes
  pub written : new ≡ bytes ++ drop len old
  pub read_back : Reads (extension_of_kind are_data.kind) bytes (carried_values are_data.values)

-- they take more than the room
pub record AreTooLongData (number : ℕ) (view : ValuesView) (room : ℕ) : Type 0 where
  pub bytes : List ℕ
  pub are_data : AreDataOf number view bytes
  pub too_long : room < length bytes
