-- What the elements that a map writes are read as.
use Rattle.std.proofs.Common.{◌≡◌, ◌≢◌, ℕ, ◌⊎◌, inl, inr, List, [], ◌∷◌, ◌++◌, Option, Some, None, All, refl, sym, ap, ◌∙◌, subst}
use Rattle.std.specs.Prelude.{IfSome, ◌%◌, unsigned_abs, neg_ℤ, pos}
use Rattle.std.specs.List.{AllByRecursion, cons_option}
use Rattle.std.specs.Option.{option_map}
use Rattle.std.proofs.lemmas.List.Elements.{All-cons, All-nil, recursion_from_All, filter_map-append}
use Rattle.rtp_ext.specs.declared.form.ExtensionsForm.{ExtensionsForm}
use Rattle.rtp_values.specs.declared.kind.Extension.{Extension}
use Rattle.rtp_values.specs.declared.kind.Extension.TheVariants.{AbsoluteSendTime, AudioLevel, PlayoutDelay, ColorSpace, VideoLayersAllocation, UnknownUri}
use Rattle.rtp_values.specs.declared.value.values.ExtensionValues.{ExtensionValues}
use Rattle.rtp_ext.specs.Elements.{Element, IsElement}
use Rattle.rtp_ext.specs.ElementWriting.{IsCarried}
use Rattle.rtp_ext.specs.ExtensionMap.{Slots, extension_at, items_from}
use Rattle.rtp_vla.specs.AllocationWritten.{trimmed}
use Rattle.rtp_values.specs.Spelling.{spelled_data, carried_values, carried_send_time, delay_of, element_allocation, of_both}
use Rattle.rtp_values.specs.Values.{no_values, with_fields, hundredths, Reads, SameFields}
use Rattle.rtp_ext.specs.BlockValues.{Carries, AreFields, last, none, AreValues}
use Rattle.rtp_ext.specs.WrittenBlock.{written_elements, fields_of_items, image_values}
use Rattle.rtp_ext.proofs.ListingLemmas.{ListsItems-from_slots}
use Rattle.rtp_values.proofs.FieldLemmas.{Reads-same, SameFields-refl, SameFields-trans, SameFields-taken, SameFields-others}
use Rattle.rtp_values.proofs.KindLemmas.{same_or_not}
use Rattle.rtp_ext.proofs.FormLemmas.{Item, element_of, elements_of}

-- ---- the image of a kind

-- the fields of a kind that an item has are those of the values
pub fields-there : (kind : Extension) (id : ℕ) (before after : List Item) (values : ExtensionValues)
    → SameFields kind values (fields_of_items (before ++ (id, kind) ∷ after) values)
fields-there kind id [] after values = SameFields-taken kind (fields_of_items after values) values
fields-there kind id (item ∷ before) after values =
    let rest = fields_of_items (before ++ (id, kind) ∷ after) values in
    elim (same_or_not kind item.1) [
      | inl same ↦ subst (λ (k : Extension). SameFields kind values (with_fields k rest values)) same (SameFields-taken kind rest values)
      | inr other ↦ SameFields-trans kind values rest (with_fields item.1 rest values) (fields-there kind id before after values)
          (SameFields-others item.1 kind rest values other)
    ]

-- and those of any other kind are absent
pub fields-absent : (kind : Extension) (items : List Item) (values : ExtensionValues) → AllByRecursion (λ item. item.1 ≢ kind) items
    → SameFields kind no_values (fields_of_items items values)
fields-absent kind [] values all = SameFields-refl kind no_values
fields-absent kind (item ∷ items) values all =
    SameFields-trans kind no_values (fields_of_items items values) _ (fields-absent kind items values all.1)
    (SameFields-others item.1 kind (fields_of_items items values) values (λ same. all.0 (sym same)))

-- a kind without data carries no value
pub map-none : {A B C : Type 0} (f : A → B) (g : A → C) (value : Option A) → option_map f value ≡ None → option_map g value ≡ None
map-none f g None is = refl
map-none f g (Some x) is = cc

pub is-none : {A B : Type 0} (f : A → B) (value : Option A) → option_map f value ≡ None → value ≡ None
is-none f None is = refl
is-none f (Some x) is = cc

pub both-none : {A B C D : Type 0} (f : A → B → C) (g : A → B → D) (x : Option A) (y : Option B) → of_both f x y ≡ None → of_both g x y ≡ None
both-none f g None y is = refl
both-none f g (Some x) None is = refl
both-none f g (Some x) (Some y) is = cc

pub carried-none : (values : ExtensionValues) (kind : Extension) → spelled_data kind values ≡ None → SameFields kind no_values (carried_values values)
unfolding carried_values
carried-none values AbsoluteSendTime is = rw (map-none _ carried_send_time values.abs_send_time is) refl
carried-none values AudioLevel is =
    rw (
      both-none _ (λ level voice. neg_ℤ (pos (unsigned_abs level % 128))) values.audio_level values.voice_activity is,
      both-none _ (λ level voice. voice) values.audio_level values.voice_activity is,
    ) refl
carried-none values PlayoutDelay is =
    rw (
      both-none _ (λ min max. hundredths (delay_of min)) values.play_delay_min values.play_delay_max is,
      both-none _ (λ min max. hundredths (delay_of max)) values.play_delay_min values.play_delay_max is,
    ) refl
carried-none values VideoLayersAllocation is = rw (map-none _ trimmed (element_allocation values.video_layers_allocation) is) refl
carried-none values ColorSpace is = refl
carried-none values (UnknownUri uri) is = refl
carried-none values _ is = rw (is-none _ _ is) refl

-- ---- the last id of a kind

-- the last item of the kind
pub record LastItem (kind : Extension) (items : List Item) : Type 0 where
  pub before : List Item
  pub after : List Item
  pub id : ℕ
  pub is : items ≡ before ++ (id, kind) ∷ after
  pub later : AllByRecursion (λ item. item.1 ≢ kind) after

pub find_last : (kind : Extension) (items : List Item) → LastItem kind items ⊎ AllByRecursion (λ item. item.1 ≢ kind) items
find_last kind [] = inr tt
find_last kind (item ∷ items) = elim (find_last kind items) [
  | inl found ↦ inl (record {
    before = item ∷ found.before;
    after = found.after;
    id = found.id;
    is = ap (λ (rest : List Item). item ∷ rest) found.is;
    later = found.later;
  })
  | inr none_left ↦ elim (same_or_not item.1 kind) [
    | inl same ↦ inl (record {
      before = [];
      after = items;
      id = item.0;
      is = ap (λ (k : Extension). (item.0, k) ∷ items) same;
      later = none_left;
    })
    | inr other ↦ inr (other, none_left)
  ]
]

pub image-there : (exts : Slots) (values : ExtensionValues) (kind : Extension) → LastItem kind (items_from 0 exts)
    → SameFields kind (carried_values values) (image_values exts values)
unfolding image_values
image-there exts values kind found =
    subst (λ (items : List Item). SameFields kind (carried_values values) (fields_of_items items (carried_values values))) (sym found.is)
    (fields-there kind found.id found.before found.after (carried_values values))

pub image-absent : (exts : Slots) (values : ExtensionValues) (kind : Extension) → AllByRecursion (λ item. item.1 ≢ kind) (items_from 0 exts)
    → SameFields kind no_values (image_values exts values)
unfolding image_values
image-absent exts values kind all = fields-absent kind (items_from 0 exts) (carried_values values) all

-- ---- which elements carry a kind

-- the map has the item
abbrev IsMappedItem : Slots → Item → Type 0
IsMappedItem exts item = extension_at exts item.0 ≡ Some item.1

items-mapped : (exts : Slots) → AllByRecursion (IsMappedItem exts) (items_from 0 exts)
items-mapped exts =
    recursion_from_All (IsMappedItem exts) (items_from 0 exts) (λ k d here. ((ListsItems-from_slots exts).mapped k d here).0)

all-after : {A : Type 0} (P : A → Type 0) (xs ys : List A) → AllByRecursion P (xs ++ ys) → AllByRecursion P ys
all-after P [] ys all = all
all-after P (x ∷ xs) ys all = all-after P xs ys all.1

-- a kind that an item has is mapped there
pub found-mapped : (exts : Slots) (kind : Extension) (found : LastItem kind (items_from 0 exts)) → extension_at exts found.id ≡ Some kind
found-mapped exts kind found =
    (all-after (IsMappedItem exts) found.before _ (subst (AllByRecursion (IsMappedItem exts)) found.is (items-mapped exts))).0

pub All-cons_option : (P : Element → Type 0) (element : Option Element) (rest : List Element) → IfSome element P → All P rest → All P (cons_option element rest)
All-cons_option P None rest here all = all
All-cons_option P (Some element) rest here all = All-cons P element rest here all

-- an element of a kind without data isn't among the written ones
carries-none : (exts : Slots) (kind : Extension) (values : ExtensionValues) (item : Item) (bytes : Option (List ℕ)) → spelled_data item.1 values ≡ bytes
    → IsMappedItem exts item → (item.1 ≡ kind → spelled_data kind values ≡ None)
    → IfSome (option_map (λ b. (item.0, b)) bytes) (λ element. Carries exts kind element → ⊥)
carries-none exts kind values item None is mapped none_of = tt
carries-none exts kind values item (Some bytes) is mapped none_of = λ carries.
    let both : Some item.1 ≡ Some kind = sym mapped ∙ carries.0 in
    let same : item.1 ≡ kind = cc in
    let nothing : spelled_data kind values ≡ None = none_of same in
    let something : spelled_data kind values ≡ Some bytes = ap (λ (k : Extension). spelled_data k values) (sym same) ∙ is in
    cc

none-carry : (exts : Slots) (kind : Extension) (values : ExtensionValues) (items : List Item) → AllByRecursion (IsMappedItem exts) items
    → AllByRecursion (λ item. item.1 ≡ kind → spelled_data kind values ≡ None) items
    → All (λ element. Carries exts kind element → ⊥) (elements_of values items)
none-carry exts kind values [] mapped none_of = All-nil (λ element. Carries exts kind element → ⊥)
none-carry exts kind values (item ∷ items) mapped none_of =
    All-cons_option (λ element. Carries exts kind element → ⊥) (element_of values item) (elements_of values items)
    (carries-none exts kind values item (spelled_data item.1 values) refl mapped.0 none_of.0)
    (none-carry exts kind values items mapped.1 none_of.1)

pub others : (kind : Extension) (values : ExtensionValues) (items : List Item) → AllByRecursion (λ item. item.1 ≢ kind) items
    → AllByRecursion (λ item. item.1 ≡ kind → spelled_data kind values ≡ None) items
others kind values [] all = tt
others kind values (item ∷ items) all = (λ same. absurd (all.0 same), others kind values items all.1)

pub without_data : (kind : Extension) (values : ExtensionValues) (items : List Item) → spelled_data kind values ≡ None
    → AllByRecursion (λ item. item.1 ≡ kind → spelled_data kind values ≡ None) items
without_data kind values [] nothing = tt
without_data kind values (item ∷ items) nothing = (λ same. nothing, without_data kind values items nothing)

-- ---- the values

-- a kind that is mapped
AreFields-mapped : (form : ExtensionsForm) (exts : Slots) (values : ExtensionValues) (kind : Extension) (found : LastItem kind (items_from 0 exts))
    → AllByRecursion (IsCarried form values) (items_from 0 exts) → (bytes : Option (List ℕ)) → spelled_data kind values ≡ bytes
    → AreFields exts (written_elements exts values) kind no_values (image_values exts values)
AreFields-mapped form exts values kind found carried None is =
    none (none-carry exts kind values (items_from 0 exts) (items-mapped exts) (without_data kind values (items_from 0 exts) is))
    (SameFields-trans kind no_values (carried_values values) (image_values exts values) (carried-none values kind is)
    (image-there exts values kind found))
AreFields-mapped form exts values kind found carried (Some bytes) is =
    let here : AllByRecursion (IsCarried form values) ((found.id, kind) ∷ found.after) =
    all-after (IsCarried form values) found.before _ (subst (AllByRecursion (IsCarried form values)) found.is carried) in
    let there : AllByRecursion (IsMappedItem exts) ((found.id, kind) ∷ found.after) =
    all-after (IsMappedItem exts) found.before _ (subst (AllByRecursion (IsMappedItem exts)) found.is (items-mapped exts)) in
    let reads : IsElement form (found.id, bytes) × Reads kind bytes (carried_values values) =
    subst (λ b. IfSome b (λ x. IsElement form (found.id, x) × Reads kind x (carried_values values))) is here.0 in
    last (elements_of values found.before) (elements_of values found.after) (found.id, bytes)
    (ap (elements_of values) found.is ∙ (filter_map-append (element_of values) found.before ((found.id, kind) ∷ found.after)
    ∙ ap (λ b. elements_of values found.before ++ cons_option (option_map (λ x. (found.id, x)) b) (elements_of values found.after)) is))
    there.0
    (Reads-same kind bytes (carried_values values) (image_values exts values) reads.1 (image-there exts values kind found))
    (none-carry exts kind values found.after there.1 (others kind values found.after found.later))

-- what was written is read as the image
pub AreValues-written : (form : ExtensionsForm) (exts : Slots) (values : ExtensionValues) → AllByRecursion (IsCarried form values) (items_from 0 exts)
    → AreValues exts (written_elements exts values) no_values (image_values exts values)
AreValues-written form exts values carried = λ kind. elim (find_last kind (items_from 0 exts)) [
  | inl found ↦ AreFields-mapped form exts values kind found carried (spelled_data kind values) refl
  | inr other ↦ none
      (none-carry exts kind values (items_from 0 exts) (items-mapped exts) (others kind values (items_from 0 exts) other))
      (image-absent exts values kind other)
]
