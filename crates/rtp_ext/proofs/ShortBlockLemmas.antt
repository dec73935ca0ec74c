-- The elements of the one-byte form are short, and so are those of the two-byte form without a layer allocation.
use Rattle.rtp_ext.proofs.Common.{refl, ◌≡◌, ℕ, ◌+◌, ◌*◌, ◌≤◌, List, [], ◌∷◌, length, length-append, Bool, false, Option, Some, None, sym, ap, ◌∙◌, arith, IfSome, nat_lt, list_any, or_parts, OneByte, TwoByte, Extension, VideoLayersAllocation, KnownKind, extension_of_kind, ExtensionValues, spelled_data, longest, Element, elements_bytes, element_or_nothing, items_bytes, Slots, items_from, known_slots, is_long_item, TakesAtMost17Each, HasFewData, written_elements}
use Rattle.std.proofs.Math.Nat.{mul-suc, mul-le-mul_left}
use Rattle.rtp_values.specs.declared.known_kind.KnownKind.TheVariants as known
use Rattle.rtp_values.specs.contracts.known_kind.KnownKindPartialEq.TheImpl as kind_eq
use Rattle.rtp_ext.proofs.FormLemmas.{Item, at_most, long_kind}
use Rattle.rtp_ext.proofs.KnownItemsLemmas.{written_known, count_known}
use Rattle.rtp_ext.proofs.KnownWritingLemmas.{known_bytes}
use Rattle.rtp_ext.proofs.WrittenBlockLemmas.{items_bytes-nil, items_bytes-cons, items_bytes-written}

short-element : (id : ℕ) (kind : Extension) (bytes : Option (List ℕ)) → IfSome bytes (λ b. length b ≤ longest kind) → is_long_item (id, kind) ≡ false
    → length (element_or_nothing OneByte id bytes) ≤ 17
short-element id kind None few short = omega arith
short-element id kind (Some bytes) few short =
    let low = or_parts (nat_lt 14 id) (nat_lt 16 (longest kind)) short in
    omega (arith, few, at_most 16 (longest kind) low.1)

short-items : (values : ExtensionValues) (items : List Item) → HasFewData values → list_any is_long_item items ≡ false
    → length (items_bytes OneByte values items) ≤ 17 * length items
short-items values [] few short = omega (arith, ap length (items_bytes-nil OneByte values))
short-items values (item ∷ items) few short =
    let parts = or_parts (is_long_item item) (list_any is_long_item items) short in
    omega (
      arith,
      ap length (items_bytes-cons OneByte values item items),
      length-append (element_or_nothing OneByte item.0 (spelled_data item.1 values)) (items_bytes OneByte values items),
      short-element item.0 item.1 (spelled_data item.1 values) (few item.1) parts.0,
      short-items values items few parts.1,
    )

-- where no mapped id needs the two-byte form for itself or its kind
pub short_block : (exts : Slots) (values : ExtensionValues) {long : Bool} → long ≡ list_any is_long_item (items_from 0 exts) → long ≡ false
    → HasFewData values → TakesAtMost17Each exts values
short_block exts values is short few =
    omega (arith, short-items values (items_from 0 exts) few (sym is ∙ short), ap length (items_bytes-written OneByte exts values))

-- what the known extensions of a map write is what the map writes
pub short_known : (exts known : Slots) (values : ExtensionValues) → known ≡ known_slots exts → TakesAtMost17Each known values → TakesAtMost17Each exts values
short_known exts known values is short =
    omega (arith, short, count_known exts known is, ap (λ (elements : List Element). length (elements_bytes OneByte elements)) (written_known exts known values is))

-- ---- the two-byte form

plain-element : (id n : ℕ) (bytes : Option (List ℕ)) → IfSome bytes (λ b. length b ≤ n) → length (element_or_nothing TwoByte id bytes) ≤ 2 + n
plain-element id n None few = omega arith
plain-element id n (Some bytes) few = omega (arith, few)

pub weakened : (m n : ℕ) (bytes : Option (List ℕ)) → m ≤ n → IfSome bytes (λ b. length b ≤ m) → IfSome bytes (λ b. length b ≤ n)
weakened m n None above few = tt
weakened m n (Some bytes) above few = omega (arith, above, few)

-- where the layer allocation that is written has at most so many bytes
few-plain : (kind : Extension) (values : ExtensionValues) (n : ℕ) → HasFewData values → 16 ≤ n → IfSome (spelled_data VideoLayersAllocation values) (λ b. length b ≤ n)
    → IfSome (spelled_data kind values) (λ b. length b ≤ n)
few-plain VideoLayersAllocation values n few above layers = layers
few-plain kind values n few above layers = weakened 16 n (spelled_data kind values) above (few kind)

plain-items : (values : ExtensionValues) (n : ℕ) (items : List Item) → HasFewData values → 16 ≤ n
    → IfSome (spelled_data VideoLayersAllocation values) (λ b. length b ≤ n) → length (items_bytes TwoByte values items) ≤ (2 + n) * length items
plain-items values n [] few above layers = omega (arith, ap length (items_bytes-nil TwoByte values))
plain-items values n (item ∷ items) few above layers =
    omega (
      arith,
      ap length (items_bytes-cons TwoByte values item items),
      length-append (element_or_nothing TwoByte item.0 (spelled_data item.1 values)) (items_bytes TwoByte values items),
      plain-element item.0 n (spelled_data item.1 values) (few-plain item.1 values n few above layers),
      plain-items values n items few above layers,
      mul-suc (2 + n) (length items),
    )

pub plain_block : (exts known : Slots) (values : ExtensionValues) (n most : ℕ) → known ≡ known_slots exts → HasFewData values
    → 16 ≤ n → IfSome (spelled_data VideoLayersAllocation values) (λ b. length b ≤ n) → length (items_from 0 known) ≤ most
    → length (elements_bytes TwoByte (written_elements exts values)) ≤ (2 + n) * most
plain_block exts known values n most is few above layers fits =
    omega (
      arith,
      plain-items values n (items_from 0 known) few above layers,
      ap length (known_bytes TwoByte exts known values is),
      mul-le-mul_left (2 + n) fits,
    )

pub short_by : (exts known : Slots) (values : ExtensionValues) (most : ℕ) → known ≡ known_slots exts → TakesAtMost17Each known values
    → length (items_from 0 known) ≤ most → length (elements_bytes OneByte (written_elements exts values)) ≤ 17 * most
short_by exts known values most is short fits =
    omega (arith, short, fits, ap (λ (elements : List Element). length (elements_bytes OneByte elements)) (written_known exts known values is))

-- ---- by the kinds alone

-- the most bytes that the element of a kind has
abbrev pub most_of : Extension → ℕ
most_of kind = 2 + longest kind

full-element : (id : ℕ) (kind : Extension) (bytes : Option (List ℕ)) → IfSome bytes (λ b. length b ≤ longest kind)
    → length (element_or_nothing TwoByte id bytes) ≤ most_of kind
full-element id kind None few = omega arith
full-element id kind (Some bytes) few = omega (arith, few)

pub full-items : (values : ExtensionValues) (item : Item) (items : List Item) → HasFewData values
    → length (items_bytes TwoByte values (item ∷ items)) ≤ most_of item.1 + length (items_bytes TwoByte values items)
full-items values item items few =
    omega (
      arith,
      ap length (items_bytes-cons TwoByte values item items),
      length-append (element_or_nothing TwoByte item.0 (spelled_data item.1 values)) (items_bytes TwoByte values items),
      full-element item.0 item.1 (spelled_data item.1 values) (few item.1),
    )

pub long_most : (kind : KnownKind) → most_of (extension_of_kind kind) ≤ 257
long_most known.VideoLayersAllocation = omega arith
long_most _ = omega arith

pub short_most : (kind : KnownKind) → (kind_eq.ghosts).eq kind known.VideoLayersAllocation ≡ false → most_of (extension_of_kind kind) ≤ 18
short_most kind other = omega (arith, at_most 16 (longest (extension_of_kind kind)) (sym (long_kind kind) ∙ other))

-- one more element is left behind
pub most-next : (values : ExtensionValues) (all : List Item) {left : List Item} (more : List Item) (id most own : ℕ) (kind : KnownKind) → HasFewData values
    → left ≡ (id, extension_of_kind kind) ∷ more → most_of (extension_of_kind kind) ≤ own
    → length (items_bytes TwoByte values all) ≤ most + length (items_bytes TwoByte values left)
    → length (items_bytes TwoByte values all) ≤ most + own + length (items_bytes TwoByte values more)
most-next values all more id most own kind few next fits before =
    let parted = ap (λ (items : List Item). length (items_bytes TwoByte values items)) next in
    omega (arith, before, parted, full-items values (id, extension_of_kind kind) more few, fits)

pub most-end : (values : ExtensionValues) (all : List Item) {left : List Item} (most : ℕ) → left ≡ []
    → length (items_bytes TwoByte values all) ≤ most + length (items_bytes TwoByte values left) → length (items_bytes TwoByte values all) ≤ most
most-end values all most none before =
    let gone = ap (λ (items : List Item). length (items_bytes TwoByte values items)) none in
    omega (arith, before, gone, ap length (items_bytes-nil TwoByte values))

-- all of them are what is written
pub written_at_most : (exts : Slots) (values : ExtensionValues) {items : List Item} (most : ℕ) → items ≡ items_from 0 (known_slots exts)
    → length (items_bytes TwoByte values items) ≤ most → length (elements_bytes TwoByte (written_elements exts values)) ≤ most
written_at_most exts values most all fits =
    omega (arith, fits, ap (λ (list : List Item). length (items_bytes TwoByte values list)) all, ap length (known_bytes TwoByte exts (known_slots exts) values refl))
