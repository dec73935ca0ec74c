-- The elements that a map writes: their bytes, and what those are read as.
use Rattle.rtp_ext.proofs.Common.{◌≡◌, ℕ, ◌+◌, ◌-◌, ◌*◌, ◌<◌, ◌≤◌, List, [], ◌∷◌, ◌++◌, length, drop, Option, Some, None, refl, sym, ap, ◌∙◌, subst, arith, inl, inr, cases_lt, length-append, IfSome, AllByRecursion, cons_option, option_map, unwrap_or, ExtensionsForm, OneByte, TwoByte, Extension, ExtensionValues, Element, IsElement, elements_bytes, Slots, items_from, overwritten, spelled_data, carried_values, longest, Reads, written_elements, overwritten-overwritten, overwritten-before, overwritten-nil, overwritten-front, length-overwritten}
use Rattle.rtp_ext.specs.ElementWriting.{element_header, element_or_nothing, items_bytes, CanCarry, IsCarried}
use Rattle.rtp_values.proofs.ValueLemmas.{longest-fits}
use Rattle.rtp_ext.proofs.FormLemmas.{Item, elements_of, IsFit}

-- ---- the bytes

pub items_bytes-nil : (form : ExtensionsForm) (values : ExtensionValues) → items_bytes form values [] ≡ []
unfolding items_bytes
items_bytes-nil form values = refl

pub items_bytes-cons : (form : ExtensionsForm) (values : ExtensionValues) (item : Item) (items : List Item)
    → items_bytes form values (item ∷ items) ≡ element_or_nothing form item.0 (spelled_data item.1 values) ++ items_bytes form values items
unfolding items_bytes
items_bytes-cons form values item items = refl

bytes-cons : (form : ExtensionsForm) (id : ℕ) (bytes : Option (List ℕ)) (rest : List Element)
    → elements_bytes form (cons_option (option_map (λ b. (id, b)) bytes) rest) ≡ element_or_nothing form id bytes ++ elements_bytes form rest
bytes-cons form id None rest = refl
bytes-cons form id (Some bytes) rest = refl

items_bytes-elements : (form : ExtensionsForm) (values : ExtensionValues) (items : List Item)
    → items_bytes form values items ≡ elements_bytes form (elements_of values items)
unfolding items_bytes
items_bytes-elements form values [] = refl
items_bytes-elements form values (item ∷ items) =
    ap (λ (rest : List ℕ). element_or_nothing form item.0 (spelled_data item.1 values) ++ rest) (items_bytes-elements form values items)
    ∙ sym (bytes-cons form item.0 (spelled_data item.1 values) (elements_of values items))

pub items_bytes-written : (form : ExtensionsForm) (exts : Slots) (values : ExtensionValues)
    → items_bytes form values (items_from 0 exts) ≡ elements_bytes form (written_elements exts values)
items_bytes-written form exts values = items_bytes-elements form values (items_from 0 exts)

-- ---- one element

pub length-header : (form : ExtensionsForm) (id : ℕ) (bytes : List ℕ) → length (element_or_nothing form id (Some bytes)) ≡ length (element_header form id (length bytes)) + length bytes
length-header OneByte id bytes = omega arith
length-header TwoByte id bytes = omega arith

pub header-append : (form : ExtensionsForm) (id : ℕ) (bytes : List ℕ) → element_header form id (length bytes) ++ bytes ≡ element_or_nothing form id (Some bytes)
header-append OneByte id bytes = refl
header-append TwoByte id bytes = refl

pub length-header_bytes : (form : ExtensionsForm) (id len : ℕ) → length (element_header form id len) ≤ 2
length-header_bytes OneByte id len = omega arith
length-header_bytes TwoByte id len = omega arith

pub length-element : (form : ExtensionsForm) (id header len : ℕ) (bytes : Option (List ℕ)) → Some len ≡ option_map length bytes
    → header ≡ length (element_header form id len) → header + len ≡ length (element_or_nothing form id bytes)
length-element form id header len None long is = cc
length-element form id header len (Some bytes) long is =
    let same : len ≡ length bytes = cc in
    ap (λ (h : ℕ). h + len) is ∙ (ap (λ (l : ℕ). length (element_header form id l) + l) same ∙ sym (length-header form id bytes))

length-carried : (form : ExtensionsForm) (values : ExtensionValues) (id : ℕ) (kind : Extension) (bytes : Option (List ℕ))
    → IfSome bytes (λ b. IsElement form (id, b) × Reads kind b (carried_values values)) → length (element_or_nothing form id bytes) ≤ 257
length-carried form values id kind None carried = omega arith
length-carried OneByte values id kind (Some bytes) carried = let few = carried.0.2 in omega arith
length-carried TwoByte values id kind (Some bytes) carried = let few = carried.0.2 in omega arith

pub length-items : (form : ExtensionsForm) (values : ExtensionValues) (items : List Item) → AllByRecursion (IsCarried form values) items
    → length (items_bytes form values items) ≤ 257 * length items
length-items form values [] all = omega (arith, ap length (items_bytes-nil form values))
length-items form values (item ∷ items) all =
    omega (
      arith,
      ap length (items_bytes-cons form values item items),
      length-append (element_or_nothing form item.0 (spelled_data item.1 values)) (items_bytes form values items),
      length-carried form values item.0 item.1 (spelled_data item.1 values) all.0,
      length-items form values items all.1,
    )

-- without room for a header there are no data
pub none-without_room : (form : ExtensionsForm) (id : ℕ) (bytes : Option (List ℕ)) (header room : ℕ)
    → ((i l : ℕ) → header ≡ length (element_header form i l)) → length (element_or_nothing form id bytes) ≤ room → room < header → bytes ≡ None
none-without_room form id None header room is fits short = refl
none-without_room form id (Some bytes) header room is fits short =
    absurd (omega (arith, length-header form id bytes, is id (length bytes)))

-- where there is room for the element there is room for its data after the header
pub room-for_data : (form : ExtensionsForm) (id : ℕ) (bytes : Option (List ℕ)) (header room : ℕ)
    → ((i l : ℕ) → header ≡ length (element_header form i l)) → length (element_or_nothing form id bytes) ≤ room → header ≤ room
    → header + length (unwrap_or bytes []) ≤ room
room-for_data form id None header room is fits short = omega arith
room-for_data form id (Some bytes) header room is fits short = omega (arith, length-header form id bytes, is id (length bytes))

pub none-from_map : (bytes : Option (List ℕ)) → None ≡ option_map length bytes → bytes ≡ None
none-from_map None is = refl
none-from_map (Some bytes) is = cc

-- what is left where there are none
pub record HasNone (form : ExtensionsForm) (values : ExtensionValues) (buf : List ℕ) (at : ℕ) (item : Item) : Type 0 where
  pub written : buf ≡ overwritten buf at (element_or_nothing form item.0 (spelled_data item.1 values))
  pub end : at ≡ at + length (element_or_nothing form item.0 (spelled_data item.1 values))
  pub carried : IsCarried form values item

pub HasNone-from_none : (form : ExtensionsForm) (values : ExtensionValues) (buf : List ℕ) (at id : ℕ) (kind : Extension)
    → spelled_data kind values ≡ None → HasNone form values buf at (id, kind)
HasNone-from_none form values buf at id kind none = record {
  written = rw none (sym (overwritten-nil buf at));
  end = rw none (omega arith);
  carried = rw none tt;
}

-- its data are put, and then its header in front of them
pub element_or_nothing-put : (form : ExtensionsForm) (id len at start : ℕ) (old : List ℕ) {data_put new : List ℕ} (bytes : Option (List ℕ))
    → Some len ≡ option_map length bytes → start ≡ at + length (element_header form id len) → at + length (element_or_nothing form id bytes) ≤ length old
    → data_put ≡ overwritten old start (unwrap_or bytes []) → new ≡ overwritten data_put at (element_header form id len)
    → (new ≡ overwritten old at (element_or_nothing form id bytes)) × (start + len ≡ at + length (element_or_nothing form id bytes))
element_or_nothing-put form id len at start old None long start-is fits data-is new-is = cc
element_or_nothing-put form id len at start old (Some bytes) long start-is fits data-is new-is =
    let len-is : len ≡ length bytes = cc in
    let header : element_header form id len ≡ element_header form id (length bytes) = ap (element_header form id) len-is in
    let both = length-header form id bytes in
    let start-at : start ≡ at + length (element_header form id (length bytes)) = start-is ∙ ap (λ (h : List ℕ). at + length h) header in (
      new-is ∙ ap (λ (b : List ℕ). overwritten b at (element_header form id len)) data-is
          ∙ ap (overwritten (overwritten old start bytes) at) header
          ∙ overwritten-before old (element_header form id (length bytes)) bytes at start start-at (omega arith)
          ∙ ap (overwritten old at) (header-append form id bytes),
      omega arith,
    )

-- how long the data of a kind may be
pub length-can : (item : Item) (bytes : List ℕ) → CanCarry OneByte item (Some bytes) → length bytes ≤ longest item.1 → length bytes ≤ 16
length-can item bytes can few = omega (arith, few, can.1)

-- what is known of it
pub IsCarried-from : (form : ExtensionsForm) (values : ExtensionValues) (id : ℕ) (kind : Extension) (bytes : Option (List ℕ))
    → spelled_data kind values ≡ bytes → 1 ≤ id → id < 256 → CanCarry form (id, kind) bytes
    → IfSome bytes (λ b. Reads kind b (carried_values values)) → IfSome bytes (λ b. length b ≤ longest kind)
    → IsCarried form values (id, kind)
IsCarried-from form values id kind None is above within can reads few = rw is tt
IsCarried-from OneByte values id kind (Some bytes) is above within can reads few =
    rw is ((can.0, can.2, length-can (id, kind) bytes can few, omega arith), reads)
IsCarried-from TwoByte values id kind (Some bytes) is above within can reads few =
    rw is ((above, omega arith, omega (arith, few, longest-fits kind)), reads)

-- ---- one element after another

-- the elements of the items that were passed are written, and with those of the items that are left they are all
pub record IsUnderWay (form : ExtensionsForm) (values : ExtensionValues) (old buf : List ℕ) (items left : List Item) (at : ℕ) : Type 0 where
  pub makes : overwritten buf at (items_bytes form values left) ≡ overwritten old 0 (items_bytes form values items)
  pub ends : at + length (items_bytes form values left) ≡ length (items_bytes form values items)
  pub long : length buf ≡ length old
  pub fit : AllByRecursion (IsFit form values) left
  pub carried : AllByRecursion (IsCarried form values) left → AllByRecursion (IsCarried form values) items

pub IsUnderWay-start : (form : ExtensionsForm) (values : ExtensionValues) (old : List ℕ) (items : List Item)
    → AllByRecursion (IsFit form values) items → IsUnderWay form values old old items items 0
IsUnderWay-start form values old items fit =
    record { makes = refl; ends = omega arith; long = refl; fit = fit; carried = λ all. all }

-- there is room for the next one, and the form can carry it
pub IsUnderWay-next : {form : ExtensionsForm} {values : ExtensionValues} {old buf : List ℕ} {items left : List Item} (more : List Item) (item : Item) {at : ℕ}
    → IsUnderWay form values old buf items left at → left ≡ item ∷ more → length (items_bytes form values items) ≤ length old
    → (at + length (element_or_nothing form item.0 (spelled_data item.1 values)) ≤ length buf) × IsFit form values item
IsUnderWay-next {form} {values} more item before split room =
    let bytes = ap length (ap (items_bytes form values) split ∙ items_bytes-cons form values item more) in (
      omega (arith, before.ends, before.long, bytes, length-append (element_or_nothing form item.0 (spelled_data item.1 values)) (items_bytes form values more)),
      (subst (AllByRecursion (IsFit form values)) split before.fit).0,
    )

-- the next one is written
pub IsUnderWay-step : {form : ExtensionsForm} {values : ExtensionValues} {old buf new : List ℕ} {items left : List Item} (more : List Item) (item : Item) {at end : ℕ}
    → IsUnderWay form values old buf items left at → left ≡ item ∷ more → length (items_bytes form values items) ≤ length old
    → new ≡ overwritten buf at (element_or_nothing form item.0 (spelled_data item.1 values))
    → end ≡ at + length (element_or_nothing form item.0 (spelled_data item.1 values)) → IsCarried form values item
    → IsUnderWay form values old new items more end
IsUnderWay-step {form} {values} {buf} {left} more item {at} {end} before split room written end-is carried =
    let xs = element_or_nothing form item.0 (spelled_data item.1 values) in
    let ys = items_bytes form values more in
    let bytes : items_bytes form values left ≡ xs ++ ys = ap (items_bytes form values) split ∙ items_bytes-cons form values item more in
    let fits : at + length (xs ++ ys) ≤ length buf = omega (arith, before.ends, before.long, ap length bytes) in
    let long = length-append xs ys in
    record {
      makes = ap (λ (b : List ℕ). overwritten b end ys) written
          ∙ (overwritten-overwritten buf xs ys at end end-is (omega arith)
          ∙ (ap (overwritten buf at) (sym bytes) ∙ before.makes));
      ends = omega (arith, before.ends, ap length bytes);
      long = ap length written ∙ (length-overwritten buf xs at (omega arith) ∙ before.long);
      fit = (subst (AllByRecursion (IsFit form values)) split before.fit).1;
      carried = λ rest. before.carried (subst (AllByRecursion (IsCarried form values)) (sym split) (carried, rest));
    }

-- without room for a header nothing is written of what is left
pub IsUnderWay-without_room : {form : ExtensionsForm} {values : ExtensionValues} {old buf : List ℕ} {items : List Item} (left : List Item) {at : ℕ} (header : ℕ)
    → ((i l : ℕ) → header ≡ length (element_header form i l)) → length buf < at + header → length (items_bytes form values items) ≤ length old
    → IsUnderWay form values old buf items left at → IsUnderWay form values old buf items [] at
IsUnderWay-without_room [] header is short room before = before
IsUnderWay-without_room {form} {values} {buf} (item ∷ left) {at} header is short room before =
    let next = (IsUnderWay-next left item before refl room).0 in
    let none = none-without_room form item.0 (spelled_data item.1 values) header (length buf - at) is (omega (arith, next)) (omega (arith, next, short)) in
    let has = HasNone-from_none form values buf at item.0 item.1 none in
    IsUnderWay-without_room left header is short room
    (IsUnderWay-step left item before refl room has.written has.end has.carried)

-- all were written
IsUnderWay-end : {form : ExtensionsForm} {values : ExtensionValues} {old buf : List ℕ} {items left : List Item} {at : ℕ}
    → IsUnderWay form values old buf items left at → left ≡ []
    → (at ≡ length (items_bytes form values items)) × (buf ≡ items_bytes form values items ++ drop (length (items_bytes form values items)) old)
    × AllByRecursion (IsCarried form values) items
IsUnderWay-end {form} {values} {old} {buf} {items} {left} {at} before none =
    let bytes : items_bytes form values left ≡ [] = ap (items_bytes form values) none ∙ items_bytes-nil form values in (
      omega (arith, before.ends, ap length bytes),
      sym (overwritten-nil buf at) ∙ (ap (overwritten buf at) (sym bytes)
          ∙ (before.makes ∙ overwritten-front old (items_bytes form values items))),
      before.carried (subst (AllByRecursion (IsCarried form values)) (sym none) tt),
    )

-- the same, where the walk ends for want of room too
pub IsUnderWay-stopped : {form : ExtensionsForm} {values : ExtensionValues} {old buf : List ℕ} {items left : List Item} {at : ℕ} (header : ℕ)
    → ((i l : ℕ) → header ≡ length (element_header form i l)) → length (items_bytes form values items) ≤ length old
    → IsUnderWay form values old buf items left at → (at + header ≤ length buf → left ≡ [])
    → (at ≡ length (items_bytes form values items)) × (buf ≡ items_bytes form values items ++ drop (length (items_bytes form values items)) old)
    × AllByRecursion (IsCarried form values) items
IsUnderWay-stopped {buf} {left} {at} header is room before none = elim (cases_lt (length buf) (at + header)) [
  | inl short ↦ IsUnderWay-end (IsUnderWay-without_room left header is short room before) refl
  | inr fits ↦ IsUnderWay-end before (none fits)
]
