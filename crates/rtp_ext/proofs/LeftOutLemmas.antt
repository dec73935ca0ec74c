-- The kinds whose values no written element carries.
use Rattle.std.proofs.Common.{◌≡◌, ◌≢◌, ◌↔◌, inl, inr, ℕ, List, [], ◌∷◌, ◌++◌, Bool, true, false, Option, Some, None, is_some, length, refl, sym, ap, ◌∙◌, subst}
use Rattle.std.specs.List.{AllByRecursion}
use Rattle.std.specs.Option.{option_map}
use Rattle.rtp_values.specs.declared.kind.Extension.{Extension}
use Rattle.rtp_values.specs.declared.kind.Extension.TheVariants.{AbsoluteSendTime, AudioLevel, PlayoutDelay, VideoLayersAllocation}
use Rattle.rtp_values.specs.declared.known_kind.KnownKind.{KnownKind}
use Rattle.rtp_values.specs.declared.value.values.ExtensionValues.{ExtensionValues}
use Rattle.rtp_values.specs.KnownKind.{extension_of_kind}
use Rattle.rtp_values.specs.KindSet.{has, HasValue}
use Rattle.rtp_values.specs.Spelling.{spelled_data, carried_values, element_allocation}
use Rattle.rtp_values.specs.Values.{no_values, SameFields}
use Rattle.rtp_values.proofs.FieldLemmas.{SameFields-sym, SameFields-trans}
use Rattle.rtp_values.proofs.KindLemmas.{same_or_not}
use Rattle.rtp_values.proofs.KindSetLemmas.{same_kind}
use Rattle.rtp_ext.specs.ExtensionMap.{Slots, items_from}
use Rattle.rtp_ext.specs.KindsById.{known_slots}
use Rattle.rtp_ext.specs.WrittenBlock.{image_values, IsLeftOut}
use Rattle.rtp_ext.proofs.FormLemmas.{Item}
use Rattle.rtp_ext.proofs.KnownItemsLemmas.{image_known}
use Rattle.rtp_ext.proofs.WrittenValuesLemmas.{find_last, image-there, image-absent, carried-none, others, without_data, map-none, both-none}

-- none of the items is of the kind and has data
abbrev pub NoneHasData : ExtensionValues → Extension → List Item → Type 0
NoneHasData values kind items = AllByRecursion (λ item. item.1 ≡ kind → spelled_data kind values ≡ None) items

-- ---- where nothing is carried there are no data

data-none : (values : ExtensionValues) (kind : Extension) → SameFields kind no_values (carried_values values) → spelled_data kind values ≡ None
unfolding carried_values
data-none values AbsoluteSendTime same = map-none _ _ values.abs_send_time (ap (λ (v : ExtensionValues). v.abs_send_time) same)
data-none values AudioLevel same = both-none _ _ values.audio_level values.voice_activity (ap (λ (v : ExtensionValues). v.audio_level) same)
data-none values PlayoutDelay same = both-none _ _ values.play_delay_min values.play_delay_max (ap (λ (v : ExtensionValues). v.play_delay_min) same)
data-none values VideoLayersAllocation same =
    map-none _ _ (element_allocation values.video_layers_allocation) (ap (λ (v : ExtensionValues). v.video_layers_allocation) same)
data-none values kind same = ap (spelled_data kind) same

-- ---- what the written elements are read as has no value of a kind exactly where none of them is of it

at_item : (values : ExtensionValues) (kind : Extension) (id : ℕ) (before after : List Item)
    → NoneHasData values kind (before ++ (id, kind) ∷ after) → spelled_data kind values ≡ None
at_item values kind id [] after all = all.0 refl
at_item values kind id (item ∷ before) after all = at_item values kind id before after all.1

pub absent-image : (exts known : Slots) (values : ExtensionValues) (kind : Extension) → known ≡ known_slots exts
    → NoneHasData values kind (items_from 0 known) → SameFields kind no_values (image_values exts values)
absent-image exts known values kind is all =
    subst (λ (image : ExtensionValues). SameFields kind no_values image) (image_known exts known values is) (elim (find_last kind (items_from 0 known)) [
      | inl found ↦
          let nothing = at_item values kind found.id found.before found.after (subst (NoneHasData values kind) found.is all) in
          SameFields-trans kind no_values (carried_values values) (image_values known values) (carried-none values kind nothing)
          (image-there known values kind found)
      | inr none_left ↦ image-absent known values kind none_left
    ])

pub image-absent_data : (exts known : Slots) (values : ExtensionValues) (kind : Extension) → known ≡ known_slots exts
    → SameFields kind no_values (image_values exts values) → NoneHasData values kind (items_from 0 known)
image-absent_data exts known values kind is absent =
    elim (find_last kind (items_from 0 known)) [
      | inl found ↦
          let image : SameFields kind no_values (image_values known values) =
          subst (λ (image : ExtensionValues). SameFields kind no_values image) (sym (image_known exts known values is)) absent in
          let carried : SameFields kind no_values (carried_values values) =
          SameFields-trans kind no_values (image_values known values) (carried_values values) image
          (SameFields-sym kind (carried_values values) (image_values known values) (image-there known values kind found)) in
          without_data kind values (items_from 0 known)
          (data-none values kind carried)
      | inr none_left ↦ others kind values (items_from 0 known) none_left
    ]

-- ---- the walk over the items

-- of a kind: it is in the set and none of the items that are left has data for it, exactly where it has a value and none of all items has
abbrev pub IsLeftSoFar : ExtensionValues → List Item → List Item → List Bool → KnownKind → Type 0
IsLeftSoFar values all items flags kind =
    ((has flags kind ≡ true) × NoneHasData values (extension_of_kind kind) items)
    ↔ (HasValue (extension_of_kind kind) values × NoneHasData values (extension_of_kind kind) all)

has-data : (bytes : Option (List ℕ)) (len : Option ℕ) (is : Bool) → len ≡ option_map length bytes → is ≡ is_some len → is ≡ true → bytes ≡ None → ⊥
has-data None len is length_is is_there holds none =
    let nothing : is ≡ false = is_there ∙ ap is_some length_is in cc
has-data (Some bytes) len is length_is is_there holds none = cc

-- an item with data takes its kind out
pub left-taken : (values : ExtensionValues) (all before items : List Item) (id : ℕ) (kind : KnownKind) (len : Option ℕ) (is : Bool) (old new : List Bool)
    → before ≡ (id, extension_of_kind kind) ∷ items
    → len ≡ option_map length (spelled_data (extension_of_kind kind) values) → is ≡ is_some len → is ≡ true
    → has new kind ≡ false → ((other : KnownKind) → other ≢ kind → has new other ≡ has old other)
    → (k : KnownKind) → IsLeftSoFar values all before old k → IsLeftSoFar values all items new k
left-taken values all before items id kind len is old new first length_is is_there holds this rest k before_so_far =
    let so_far : IsLeftSoFar values all ((id, extension_of_kind kind) ∷ items) old k =
    subst (λ (them : List Item). IsLeftSoFar values all them old k) first before_so_far in
    elim (same_or_not (extension_of_kind kind) (extension_of_kind k)) [
      | inl same ↦
          let one : k ≡ kind = same_kind k kind (sym same) in (
            λ left. (let absent : has new k ≡ false = ap (has new) one ∙ this in let present = left.0 in cc),
            λ whole. absurd (has-data (spelled_data (extension_of_kind kind) values) len is length_is is_there holds
                (ap (λ (it : Extension). spelled_data it values) same ∙ (so_far.1 whole).1.0 same)),
          )
      | inr other ↦
          let same_flag : has new k ≡ has old k = rest k (λ one. other (ap extension_of_kind (sym one))) in (
            λ left. so_far.0 (sym same_flag ∙ left.0, ((λ same. absurd (other same)), left.1)),
            λ whole. (let so = so_far.1 whole in (same_flag ∙ so.0, so.1.1)),
          )
    ]

-- after the last item the set has what is left out
pub left-end : (exts known : Slots) (values : ExtensionValues) (items : List Item) (flags : List Bool) → known ≡ known_slots exts → items ≡ []
    → (k : KnownKind) → IsLeftSoFar values (items_from 0 known) items flags k
    → (has flags k ≡ true) ↔ IsLeftOut values (image_values exts values) (extension_of_kind k)
left-end exts known values items flags is none k so_far =
    let at_end : IsLeftSoFar values (items_from 0 known) [] flags k =
    subst (λ (them : List Item). IsLeftSoFar values (items_from 0 known) them flags k) none so_far in (
      λ left. (let whole = at_end.0 (left, tt) in (whole.0, absent-image exts known values (extension_of_kind k) is whole.1)),
      λ out. (at_end.1 (out.0, image-absent_data exts known values (extension_of_kind k) is out.1)).0,
    )
