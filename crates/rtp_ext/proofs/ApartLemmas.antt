-- Values and layers that lie apart: what reading one element makes of both.
use Rattle.std.proofs.Common.{◌≡◌, ◌≢◌, ◌⊎◌, inl, inr, length, get_or, arith, ℕ, List, ◌∷◌, Bool, true, false, Option, Some, None, Result, Ok, Err, IsOk, IsErr, IsSomeAnd, All, ap, refl, sym, ◌∙◌, subst}
use Rattle.std.specs.declared.alloc.AllocError.{AllocError}
use Rattle.std.proofs.lemmas.Bool.{false≢true}
use Rattle.rtp_vla.specs.Allocation.{Allocation, Means}
use Rattle.rtp_vla.proofs.AllocationMeaning.{packed_long}
use Rattle.rtp_values.specs.declared.kind.Extension.{Extension}
use Rattle.rtp_values.specs.declared.kind.Extension.TheVariants.{VideoLayersAllocation}
use Rattle.rtp_values.specs.declared.value.values.ExtensionValues.{ExtensionValues}
use Rattle.rtp_values.specs.declared.known_kind.KnownKind.{KnownKind}
use Rattle.rtp_values.specs.declared.known_kind.KnownKind.TheVariants as known
use Rattle.rtp_values.specs.KnownKind.{extension_of_kind}
use Rattle.rtp_values.specs.Values.{TakesMemory, with_fields}
use Rattle.rtp_values.specs.KindBytes.{ReadsInto}
use Rattle.rtp_values.proofs.FieldLemmas.{Reads-same, SameFields-others}
use Rattle.rtp_ext.specs.Elements.{Element}
use Rattle.rtp_ext.specs.ExtensionMap.{Slots, extension_at}
use Rattle.rtp_ext.specs.BlockValues.{Carries, ReadElements, ShowsApart}
use Rattle.rtp_ext.specs.LastAllocation.{IsLastAllocation}
use Rattle.rtp_ext.proofs.LastAllocationLemmas.{ReadElements-row}

-- the fields of another kind don't look at the layers
with_back : (kind : Extension) (before after : ExtensionValues) → kind ≢ VideoLayersAllocation
    → record (with_fields kind (record before { video_layers_allocation = None }) after) { video_layers_allocation = before.video_layers_allocation }
    ≡ with_fields kind before (record after { video_layers_allocation = before.video_layers_allocation })
with_back VideoLayersAllocation before after differs = absurd (differs refl)
with_back _ before after differs = refl

-- what is read into the values alone is read into both
pub ReadsInto-apart : {V L : Type 0} (ShowsValues : V → ExtensionValues → Type 0) (ShowsLayers : L → Allocation → Type 0) (kind : Extension) (bytes : List ℕ)
    (old new : V) (layers : L) (said : Bool) → kind ≢ VideoLayersAllocation → ReadsInto ShowsValues kind bytes old new
    → ReadsInto (ShowsApart ShowsValues ShowsLayers) kind bytes (old, layers, said) (new, layers, said)
ReadsInto-apart ShowsValues ShowsLayers kind bytes old new layers said differs into before shown =
    let bare : ExtensionValues = record before { video_layers_allocation = None } in
    let read = into bare shown.values_are in
    let after : ExtensionValues = record read.0 { video_layers_allocation = before.video_layers_allocation } in
    let stays : with_fields VideoLayersAllocation bare (with_fields kind bare read.0) ≡ bare =
    SameFields-others kind VideoLayersAllocation bare read.0 (λ same. differs (sym same)) in
    let none : read.0.video_layers_allocation ≡ None =
    ap (λ (v : ExtensionValues). v.video_layers_allocation) read.3
    ∙ ap (λ (v : ExtensionValues). v.video_layers_allocation) stays in (
      after,
      record {
        values_are = subst (ShowsValues new) (λ i. record read.0 { video_layers_allocation = none i }) read.1;
        layers_are = shown.layers_are;
        said = shown.said;
      },
      Reads-same kind bytes read.0 after read.2 (SameFields-others VideoLayersAllocation kind read.0 after differs),
      (λ i. record (read.3 i) { video_layers_allocation = before.video_layers_allocation }) ∙ with_back kind before read.0 differs,
    )

-- the allocation that counts in a row was read into the layers
pub ReadElements-layers : {V L : Type 0} (ShowsValues : V → ExtensionValues → Type 0) (ShowsLayers : L → Allocation → Type 0) {exts : Slots} (element : Element)
    {row : List Element} {bytes : List ℕ} (view : V) (old new : L) (said : Bool) → extension_at exts element.0 ≡ Some VideoLayersAllocation
    → ((kind : Extension) → kind ≢ VideoLayersAllocation → All (λ e. Carries exts kind e → ⊥) row) → IsLastAllocation exts row element.1 bytes
    → (a : Allocation) × Means bytes a × ShowsLayers new a
    → ReadElements (ShowsApart ShowsValues ShowsLayers) exts (element ∷ row) (view, old, said) (view, new, true)
ReadElements-layers ShowsValues ShowsLayers element view old new said mapped no_other is read =
    ReadElements-row (ShowsApart ShowsValues ShowsLayers) element (view, old, said) (view, new, true) (Ok (Some (record {}))) mapped no_other is refl
    (λ _ before shown. (
      record before { video_layers_allocation = Some read.0 },
      record { values_are = shown.values_are; layers_are = read.2; said = refl },
      read.1,
      refl,
    ))
    (λ _. refl) (λ other. absurd (other refl))

some_meaning : (bytes : List ℕ) (known : Option Allocation) → IsSomeAnd known (Means bytes) → (a : Allocation) × Means bytes a
some_meaning bytes None is = absurd is
some_meaning bytes (Some a) is = (a, is)

-- none of a row was read, and the layers stay
pub ReadElements-no_layers : {V L : Type 0} (ShowsValues : V → ExtensionValues → Type 0) (ShowsLayers : L → Allocation → Type 0) {exts : Slots} (element : Element)
    {row : List Element} {bytes : List ℕ} (view : V) {old new : L} (said : Bool) {read : Bool} → extension_at exts element.0 ≡ Some VideoLayersAllocation
    → ((kind : Extension) → kind ≢ VideoLayersAllocation → All (λ e. Carries exts kind e → ⊥) row) → IsLastAllocation exts row element.1 bytes
    → ((a : Allocation) → Means bytes a → (read ≡ true) × ShowsLayers new a) → read ≡ false → new ≡ old
    → ReadElements (ShowsApart ShowsValues ShowsLayers) exts (element ∷ row) (view, old, said) (view, new, said)
ReadElements-no_layers ShowsValues ShowsLayers element {bytes} view {old} {new} said mapped no_other is only unread same =
    ReadElements-row (ShowsApart ShowsValues ShowsLayers) element (view, old, said) (view, new, said) (Ok None) mapped no_other is refl
    (λ other. absurd cc)
    (λ good. let means = some_meaning bytes good.0.video_layers_allocation good.1 in absurd (false≢true (sym unread ∙ (only means.0 means.1).0)))
    (λ _ i. (view, same i, said))

-- ---- data of another kind

pub other_kind : (kind : KnownKind) → (kind ≡ known.VideoLayersAllocation → ⊥) → extension_of_kind kind ≢ VideoLayersAllocation
other_kind known.VideoLayersAllocation other same = other refl
other_kind _ other same = absurd cc

-- no memory is refused to them
pub not_refused : (result : Result (Option (Unit {0})) AllocError) (kind : Extension) (bytes : List ℕ) (Refused : Type 0) → kind ≢ VideoLayersAllocation
    → (IsErr result → Refused × TakesMemory kind bytes) → IsOk result
not_refused (Ok answer) kind bytes Refused differs refused = refl
not_refused (Err e) kind bytes Refused differs refused = absurd (differs (refused refl).1.0)

-- ---- bytes that are too few

pub too_few : (bytes : List ℕ) (a : Allocation) → (length bytes ≡ 0) ⊎ ((length bytes ≡ 1) × (get_or bytes 0 0 ≢ 0)) → Means bytes a → ⊥
too_few bytes a (inl none) (inl nothing) = omega (arith, none, ap length nothing.0)
too_few bytes a (inl none) (inr packed) = omega (arith, none, packed_long bytes a packed)
too_few bytes a (inr one) (inl nothing) = one.1 (ap (λ (bs : List ℕ). get_or bs 0 0) nothing.0)
too_few bytes a (inr one) (inr packed) = omega (arith, one.0, packed_long bytes a packed)
