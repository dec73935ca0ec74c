-- The mapped ids whose extensions are known: what a map writes is what its known extensions do.
use Rattle.rtp_ext.proofs.Common.{◌≡◌, ℕ, ◌+◌, ◌≤◌, ◌⊎◌, inl, inr, List, [], ◌∷◌, length, Bool, true, false, Some, None, refl, sym, ap, ◌∙◌, arith, subst, ◌||◌, nat_lt, if◌then◌else◌, list_any, cons_option, or_parts, Extension, UnknownUri, ExtensionValues, has_no_data, has_empty_text, spelled_data, longest, carried_values, with_fields, ExtensionsForm, OneByte, TwoByte, Element, Slots, items_from, mapped_count, known_alone, known_slots, is_long_item, has_long_data, has_empty, IsLastId}
use Rattle.rtp_values.proofs.EmptyDataLemmas.{no_empty_text}
use Rattle.rtp_ext.specs.WrittenBlock.{written_elements, needs_two, form_of, fields_of_items, image_values}
use Rattle.rtp_ext.proofs.FormLemmas.{Item, element_of, elements_of}
use Rattle.rtp_ext.proofs.WalkLemmas.{has_above, has_above-last}

-- ---- whether one of some items passes a test

or_in_parts : (a b c x y : Bool) → ((a || (b || c)) || (x || y)) ≡ (((a || b) || x) || (c || y))
or_in_parts true b c x y = refl
or_in_parts false true c x y = refl
or_in_parts false false true true y = refl
or_in_parts false false true false y = refl
or_in_parts false false false true y = refl
or_in_parts false false false false y = refl

-- the two-byte form is needed for an id or a kind, or for data
pub needs_two_split : (values : ExtensionValues) (items : List Item)
    → list_any (needs_two values) items ≡ (list_any is_long_item items || has_empty items values)
needs_two_split values [] = refl
needs_two_split values (item ∷ items) =
    ap (λ (b : Bool). needs_two values item || b) (needs_two_split values items)
    ∙ or_in_parts (nat_lt 14 item.0) (nat_lt 16 (longest item.1)) (has_no_data (spelled_data item.1 values)) (list_any is_long_item items) (has_empty items values)

-- where no text is empty no data are
pub no_empty : (values : ExtensionValues) (items : List Item) → has_empty_text values ≡ false → has_empty items values ≡ false
no_empty values [] full = refl
no_empty values (item ∷ items) full =
    ap (λ (b : Bool). b || has_empty items values) (no_empty_text item.1 values full) ∙ no_empty values items full

-- ---- the known ones of them

-- it holds of no items, and stays where one is put to all and to the known ones, or an unknown one to all
record Stays (P : List Item → List Item → Type 0) : Type 0 where
  none : P [] []
  known : (item : Item) (all some : List Item) → P all some → P (item ∷ all) (item ∷ some)
  unknown : (id : ℕ) (uri : List ℕ) (all some : List Item) → P all some → P ((id, UnknownUri uri) ∷ all) some

known-cons : (P : List Item → List Item → Type 0) → Stays P → (passed : ℕ) (extension : Extension) (left : Slots)
    → P (items_from (passed + 1) left) (items_from (passed + 1) (known_slots left))
    → P ((passed + 1, extension) ∷ items_from (passed + 1) left) (items_from passed (known_alone extension ∷ known_slots left))
known-cons P stays passed (UnknownUri uri) left rest = stays.unknown (passed + 1) uri _ _ rest
known-cons P stays passed extension left rest = stays.known (passed + 1, extension) _ _ rest

of_slots : (P : List Item → List Item → Type 0) → Stays P → (passed : ℕ) (left : Slots) → P (items_from passed left) (items_from passed (known_slots left))
of_slots P stays passed [] = stays.none
of_slots P stays passed (None ∷ left) = of_slots P stays (passed + 1) left
of_slots P stays passed (Some entry ∷ left) = known-cons P stays passed entry.extension left (of_slots P stays (passed + 1) left)

-- so it holds of the items of a map and the known ones of them
of_known : (P : List Item → List Item → Type 0) → Stays P → (exts : Slots) {known : Slots} → known ≡ known_slots exts → P (items_from 0 exts) (items_from 0 known)
of_known P stays exts is = subst (λ (slots : Slots). P (items_from 0 exts) (items_from 0 slots)) (sym is) (of_slots P stays 0 exts)

or_above : (a b above : Bool) {all : Bool} (known : Bool) → all ≡ (above || known) → ((a || b) || all) ≡ ((a || above) || ((a || b) || known))
or_above true b above known is = refl
or_above false true true known is = refl
or_above false true false known is = refl
or_above false false above known is = is

or_each : (a b above : Bool) {all : Bool} (known : Bool) → all ≡ (above || known) → ((a || b) || all) ≡ ((a || above) || (b || known))
or_each true b above known is = refl
or_each false true true known is = refl
or_each false true false known is = refl
or_each false false above known is = is

or_unknown : (a above : Bool) {all : Bool} (known : Bool) → all ≡ (above || known) → ((a || false) || all) ≡ ((a || above) || known)
or_unknown true above known is = refl
or_unknown false above known is = is

abbrev is_above : Item → Bool
is_above item = nat_lt 14 item.0

-- the two-byte form is needed for an id above 14, or for the known ones
pub needs_two_known : (exts : Slots) {known : Slots} (values : ExtensionValues) → known ≡ known_slots exts
    → list_any (needs_two values) (items_from 0 exts) ≡ (has_above 0 exts || list_any (needs_two values) (items_from 0 known))
needs_two_known exts values is =
    of_known (λ all some. list_any (needs_two values) all ≡ (list_any is_above all || list_any (needs_two values) some)) (record {
      none = refl;
      known = λ item all some rest.
          or_above (is_above item) (nat_lt 16 (longest item.1) || has_no_data (spelled_data item.1 values)) (list_any is_above all) (list_any (needs_two values) some) rest;
      unknown = λ id uri all some rest.
          or_unknown (nat_lt 14 id) (list_any is_above all) (list_any (needs_two values) some) rest;
    }) exts is

chosen : (form : ExtensionsForm) (above all known : Bool) → all ≡ (above || known) → form ≡ (if all then TwoByte else OneByte)
    → (form ≡ (if known then TwoByte else OneByte)) ⊎ (form ≡ TwoByte)
chosen form true all known split is = inr (is ∙ ap (λ (b : Bool). if b then TwoByte else OneByte) split)
chosen form false all known split is = inl (is ∙ ap (λ (b : Bool). if b then TwoByte else OneByte) split)

-- a form that serves for a map serves for its known extensions
pub chosen_known : (exts known : Slots) (values : ExtensionValues) (form : ExtensionsForm) → known ≡ known_slots exts
    → (form ≡ form_of exts values) ⊎ (form ≡ TwoByte) → (form ≡ form_of known values) ⊎ (form ≡ TwoByte)
chosen_known exts known values form is (inl serves) =
    chosen form (has_above 0 exts) (list_any (needs_two values) (items_from 0 exts)) (list_any (needs_two values) (items_from 0 known))
    (needs_two_known exts values is) serves
chosen_known exts known values form is (inr two) = inr two

pub written_known : (exts known : Slots) (values : ExtensionValues) → known ≡ known_slots exts → written_elements known values ≡ written_elements exts values
written_known exts known values is =
    of_known (λ all some. elements_of values some ≡ elements_of values all) (record {
      none = refl;
      known = λ item all some same. ap (λ (rest : List Element). cons_option (element_of values item) rest) same;
      unknown = λ id uri all some same. same;
    }) exts is

pub image_known : (exts known : Slots) (values : ExtensionValues) → known ≡ known_slots exts → image_values known values ≡ image_values exts values
unfolding image_values
image_known exts known values is =
    of_known (λ all some. fields_of_items some (carried_values values) ≡ fields_of_items all (carried_values values)) (record {
      none = refl;
      known = λ item all some same. ap (λ (rest : ExtensionValues). with_fields item.1 rest (carried_values values)) same;
      unknown = λ id uri all some same. same;
    }) exts is

pub count_known : (exts known : Slots) → known ≡ known_slots exts → mapped_count known ≤ mapped_count exts
count_known exts known is =
    of_known (λ all some. length some ≤ length all) (record {
      none = omega arith;
      known = λ item all some few. omega (arith, few);
      unknown = λ id uri all some few. omega (arith, few);
    }) exts is

-- ---- for what says the kinds of ids

-- a mapped id is long for being above 14, or for the data that its kind may have
pub long_split : {exts : Slots} (known : Slots) {last : ℕ} → IsLastId exts last → known ≡ known_slots exts
    → list_any is_long_item (items_from 0 exts) ≡ (nat_lt 14 last || list_any has_long_data (items_from 0 known))
long_split {exts} known {last} ends is =
    of_known (λ all some. list_any is_long_item all ≡ (list_any is_above all || list_any has_long_data some)) (record {
      none = refl;
      known = λ item all some rest.
          or_each (is_above item) (has_long_data item) (list_any is_above all) (list_any has_long_data some) rest;
      unknown = λ id uri all some rest.
          or_unknown (nat_lt 14 id) (list_any is_above all) (list_any has_long_data some) rest;
    }) exts is ∙ ap (λ (b : Bool). b || list_any has_long_data (items_from 0 known)) (has_above-last last ends)

-- where none of the mapped ids is long, none of the known ones is
pub not_long_known : (exts known : Slots) → known ≡ known_slots exts → list_any is_long_item (items_from 0 exts) ≡ false
    → list_any is_long_item (items_from 0 known) ≡ false
not_long_known exts known is =
    of_known (λ all some. list_any is_long_item all ≡ false → list_any is_long_item some ≡ false) (record {
      none = λ short. short;
      known = λ item all some rest short.
          let parts = or_parts (is_long_item item) (list_any is_long_item all) short in
          ap (λ (b : Bool). b || list_any is_long_item some) parts.0 ∙ rest parts.1;
      unknown = λ id uri all some rest short. rest (or_parts (is_long_item (id, UnknownUri uri)) (list_any is_long_item all) short).1;
    }) exts is

has_empty_known : (exts : Slots) {known : Slots} (values : ExtensionValues) → known ≡ known_slots exts
    → has_empty (items_from 0 exts) values ≡ has_empty (items_from 0 known) values
has_empty_known exts values is =
    of_known (λ all some. has_empty all values ≡ has_empty some values) (record {
      none = refl;
      known = λ item all some same. ap (λ (rest : Bool). has_no_data (spelled_data item.1 values) || rest) same;
      unknown = λ id uri all some same. same;
    }) exts is

-- whether the two-byte form is needed
pub needs_two_by : (exts known : Slots) (values : ExtensionValues) {long : Bool} → known ≡ known_slots exts
    → long ≡ list_any is_long_item (items_from 0 exts)
    → list_any (needs_two values) (items_from 0 exts) ≡ (long || has_empty (items_from 0 known) values)
needs_two_by exts known values {long} is are = needs_two_split values (items_from 0 exts)
    ∙ ap (λ (b : Bool). b || has_empty (items_from 0 exts) values) (sym are)
    ∙ ap (λ (b : Bool). long || b) (has_empty_known exts values is)
