-- What a table of kinds keeps in step with its entries: how many ids are mapped, and how many to the layer allocation.
use Rattle.rtp_ext.proofs.Common.{◌≡◌, ◌≢◌, ℕ, ◌+◌, ◌<◌, suc, zero, List, [], ◌∷◌, length, drop, set, get_or, Bool, true, false, Option, Some, None, arith, ap, refl, sym, ◌∙◌, lt-ltb, get_or-set_other, length-drop, nat_lt, map, ◌≤◌, if◌then◌else◌, from_bool, list_any, filter, length-map, length-set, KnownKind, items_from, mapped_count, is_some, entry_of_kind, slots_of, is_layers, has_long_data, layers_count}
use Rattle.rtp_values.specs.declared.known_kind.KnownKind.TheVariants as known

-- ---- one entry is written

pub set-length : (kinds : List (Option KnownKind)) (id : ℕ) (kind : Option KnownKind) → length kinds ≡ 256 → length (set kinds id kind) ≡ 256
set-length kinds id kind many = length-set kinds id kind ∙ many

pub set-padding : (kinds : List (Option KnownKind)) (id : ℕ) (kind : Option KnownKind) → id ≢ 0 → get_or kinds 0 None ≡ None → get_or (set kinds id kind) 0 None ≡ None
set-padding kinds id kind other padding = get_or-set_other kinds id 0 kind None (λ same. other (sym same)) ∙ padding

pub slots-long : (kinds : List (Option KnownKind)) → length kinds ≡ 256 → length (slots_of kinds) ≡ 255
slots-long kinds many = omega (arith, many, length-map (drop 1 kinds) entry_of_kind, length-drop 1 kinds)

-- ---- how many ids are mapped

count-put : (passed : ℕ) (kinds : List (Option KnownKind)) (k : ℕ) (kind seen : Option KnownKind) → k < length kinds
    → length (items_from passed (map entry_of_kind (set kinds k kind))) + from_bool (is_some (get_or kinds k seen))
    ≡ length (items_from passed (map entry_of_kind kinds)) + from_bool (is_some kind)
count-put passed [] k kind seen here = absurd (omega (arith, here))
count-put passed (None ∷ kinds) zero None seen here = refl
count-put passed (None ∷ kinds) zero (Some kind) seen here = omega arith
count-put passed (Some first ∷ kinds) zero None seen here = omega arith
count-put passed (Some first ∷ kinds) zero (Some kind) seen here = refl
count-put passed (None ∷ kinds) (suc k) kind seen here = count-put (passed + 1) kinds k kind seen (omega (arith, here))
count-put passed (Some first ∷ kinds) (suc k) kind seen here = omega (arith, count-put (passed + 1) kinds k kind seen (omega (arith, here)))

-- a mapped id is counted, and the one before it is not any more
pub mapped_count-put : (kinds : List (Option KnownKind)) (id : ℕ) (kind seen : Option KnownKind) → id ≢ 0 → id < length kinds
    → mapped_count (slots_of (set kinds id kind)) + from_bool (is_some (get_or kinds id seen)) ≡ mapped_count (slots_of kinds) + from_bool (is_some kind)
mapped_count-put kinds zero kind seen other within = absurd (other refl)
mapped_count-put [] (suc k) kind seen other within = absurd (omega (arith, within))
mapped_count-put (first ∷ kinds) (suc k) kind seen other within = count-put 0 kinds k kind seen (omega (arith, within))

-- as it is read and written
pub mapped_count-set : (kinds : List (Option KnownKind)) (kind seen : Option KnownKind) {read at id count : ℕ} {old : Option KnownKind} {is was : Bool} {more fewer : ℕ}
    → read ≡ id → at ≡ id → id ≢ 0 → id < length kinds → old ≡ get_or kinds read seen → count ≡ mapped_count (slots_of kinds)
    → is ≡ is_some kind → was ≡ is_some old → more ≡ from_bool is → fewer ≡ from_bool was
    → mapped_count (slots_of (set kinds at kind)) + fewer ≡ count + more
mapped_count-set kinds kind seen {read} {at} {id} {count} {old} read_is at_is some here old_is are is_is was_is more_is fewer_is =
    let put = mapped_count-put kinds id kind seen some here in
    let now = ap (λ (n : ℕ). mapped_count (slots_of (set kinds n kind))) at_is in
    let gone = fewer_is ∙ ap from_bool (was_is ∙ ap is_some (old_is ∙ ap (λ (n : ℕ). get_or kinds n seen) read_is)) in
    let come = more_is ∙ ap from_bool is_is in
    omega (arith, put, now, gone, come, are)

-- ---- how many layer allocations there are

if-length : (b : Bool) (kind : Option KnownKind) (kinds : List (Option KnownKind)) → length (if b then kind ∷ kinds else kinds) ≡ from_bool b + length kinds
if-length true kind kinds = omega arith
if-length false kind kinds = omega arith

layers_count-cons : (kind : Option KnownKind) (kinds : List (Option KnownKind)) → layers_count (kind ∷ kinds) ≡ from_bool (is_layers kind) + layers_count kinds
layers_count-cons kind kinds = if-length (is_layers kind) kind (filter is_layers kinds)

pub once : (b : Bool) → from_bool b ≤ 1
once true = omega arith
once false = omega arith

layers_count-few : (kinds : List (Option KnownKind)) → layers_count kinds ≤ length kinds
layers_count-few [] = omega arith
layers_count-few (kind ∷ kinds) = omega (arith, layers_count-cons kind kinds, once (is_layers kind), layers_count-few kinds)

pub layers_count-put : (kinds : List (Option KnownKind)) (k : ℕ) (kind seen : Option KnownKind) → k < length kinds
    → layers_count (set kinds k kind) + from_bool (is_layers (get_or kinds k seen)) ≡ layers_count kinds + from_bool (is_layers kind)
layers_count-put [] k kind seen here = absurd (omega (arith, here))
layers_count-put (first ∷ kinds) zero kind seen here = omega (arith, layers_count-cons first kinds, layers_count-cons kind kinds)
layers_count-put (first ∷ kinds) (suc k) kind seen here =
    omega (arith, layers_count-cons first (set kinds k kind), layers_count-cons first kinds, layers_count-put kinds k kind seen (omega (arith, here)))

-- a kind is counted, and the one before it is not any more
pub layers_count-set : (kinds : List (Option KnownKind)) (kind seen : Option KnownKind) {read at id layers : ℕ} {old : Option KnownKind} {is was : Bool} {more fewer : ℕ}
    → read ≡ id → at ≡ id → id < length kinds → old ≡ get_or kinds read seen → layers ≡ layers_count kinds
    → is ≡ is_layers kind → was ≡ is_layers old → more ≡ from_bool is → fewer ≡ from_bool was
    → layers_count (set kinds at kind) + fewer ≡ layers + more
layers_count-set kinds kind seen {read} {at} {id} {layers} {old} read_is at_is here old_is are is_is was_is more_is fewer_is =
    let put = layers_count-put kinds id kind seen here in
    let now = ap (λ (n : ℕ). layers_count (set kinds n kind)) at_is in
    let gone = fewer_is ∙ ap from_bool (was_is ∙ ap is_layers (old_is ∙ ap (λ (n : ℕ). get_or kinds n seen) read_is)) in
    let come = more_is ∙ ap from_bool is_is in
    omega (arith, put, now, gone, come, are)

pub few_layers : (kinds : List (Option KnownKind)) (layers : ℕ) → length kinds ≡ 256 → layers ≡ layers_count kinds → layers ≤ 256
few_layers kinds layers many are = omega (arith, are, many, layers_count-few kinds)

any-layers : (passed : ℕ) (kinds : List (Option KnownKind))
    → nat_lt 0 (layers_count kinds) ≡ list_any has_long_data (items_from passed (map entry_of_kind kinds))
any-layers passed [] = refl
any-layers passed (None ∷ kinds) = any-layers (passed + 1) kinds
any-layers passed (Some known.VideoLayersAllocation ∷ kinds) = lt-ltb 0 (suc (layers_count kinds)) (omega arith)
any-layers passed (Some _ ∷ kinds) = any-layers (passed + 1) kinds

-- there are such where the data of a mapped kind may be longer than 16 bytes
pub any_layers : (kinds : List (Option KnownKind)) (layers : ℕ) → get_or kinds 0 None ≡ None → layers ≡ layers_count kinds
    → nat_lt 0 layers ≡ list_any has_long_data (items_from 0 (slots_of kinds))
any_layers [] layers padding are = ap (nat_lt 0) are
any_layers (None ∷ kinds) layers padding are = ap (nat_lt 0) are ∙ any-layers 0 kinds
any_layers (Some kind ∷ kinds) layers padding are = cc
