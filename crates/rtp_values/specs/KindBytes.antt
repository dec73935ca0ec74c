-- What reading and writing one kind promises.
use Rattle.std.specs.Prelude.{◌≡◌, ℕ, ◌≤◌, List, [], ◌++◌, length, drop, unwrap_or, Option, is_some, IfSome, IfNone, IsUtf8}
use Rattle.std.specs.Option.{option_map}
use Rattle.rtp_base.specs.Id.{before_padding, IsIdOf}
use Rattle.rtp_vla.specs.Allocation.{Allocation}
use Rattle.rtp_vla.specs.AllocationWritten.{can_be_written, written_of}
use Rattle.rtp_values.specs.declared.kind.Extension.{Extension}
use Rattle.rtp_values.specs.declared.value.values.ExtensionValues.{ExtensionValues}
use Rattle.rtp_values.specs.Values.{Reads, IsWellFormed, with_fields}
use Rattle.rtp_values.specs.Spelling.{spelled_data, carried_values, longest}

-- what shows some values shows others afterwards: the kind's fields are what the data say, and no other is changed
abbrev pub ReadsInto : {V : Type 0} → (V → ExtensionValues → Type 0) → Extension → List ℕ → V → V → Type 0
ReadsInto Shows kind bytes old new =
    (before : ExtensionValues) → Shows old before
    → (after : ExtensionValues) × Shows new after × Reads kind bytes after × (after ≡ with_fields kind before after)

-- what reading the data of a kind does: where they are well-formed, the kind's fields are what they say and no other is changed; where they aren't, nothing is changed
pub record SetsFields {V A : Type 0} (Shows : V → ExtensionValues → Type 0) (kind : Extension) (bytes : List ℕ) (old new : V) (result : Option A) : Type 0 where
  pub found : IfSome result (λ _. ReadsInto Shows kind bytes old new)
  pub refused : IfNone result (IsWellFormed kind bytes → ⊥)
  pub unchanged : IfNone result (new ≡ old)

-- what writing the data of a kind does: they stand at the front of the buffer, and they are read as the values that they carry
pub record WritesData (kind : Extension) (values : ExtensionValues) (old new : List ℕ) (result : Option ℕ) : Type 0 where
  pub length_is : result ≡ option_map length (spelled_data kind values)
  pub written : new ≡ unwrap_or (spelled_data kind values) [] ++ drop (length (unwrap_or (spelled_data kind values) [])) old
  pub read_back : IfSome (spelled_data kind values) (λ bytes. Reads kind bytes (carried_values values))
  pub few : IfSome (spelled_data kind values) (λ bytes. length bytes ≤ longest kind)

-- how many bytes the allocation is written in, and none where it can't be written
pub record IsWireLen (a : Allocation) (len : Option ℕ) : Type 0 where
  pub cases : is_some len ≡ can_be_written a
  pub found : IfSome len (λ n. n ≡ length (written_of a))

-- the bytes are the text of an identifier of this size, whose identifier is the same one
pub record IsTextOf (size : ℕ) (id text : List ℕ) : Type 0 where
  pub text_is : text ≡ before_padding id
  pub same : IsIdOf size text id
  pub utf8 : IsUtf8 text
