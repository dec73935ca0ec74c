-- The block that X announces, whatever its form: its word and its body.
use Rattle.rtp_wire.proofs.Common.{◌≡◌, ℕ, ◌+◌, ◌*◌, Bool, true, false, List, drop, Option, Some, None, IfSome, is_some, not, ◌&&◌, refl, sym, ap, subst, ◌∙◌, add-zero, slice_index, slice_range, option_map, if◌then◌else◌, get_or-drop, ExtensionsForm, IsFormWord, word_at, sources_end}
use Rattle.rtp_wire.specs.PartsAt.{form_of_word, has_block, form_in, profile_in, other_in, header_end, parts_at}
use Rattle.rtp_wire.proofs.BlockLemmas.{word_at-cells}
use Rattle.rtp_wire.proofs.PacketLemmas.{IsFormWord-form_of_word}

-- ---- whether there is one

other_there : (x : Bool) (form : Option ExtensionsForm) (word : ℕ) (body : List ℕ)
    → is_some (option_map {U = ℕ × List ℕ} (λ profile. (profile, body)) (if is_some form then None else (if x then Some word else None))) ≡ (not (is_some form) && x)
other_there x (Some form) word body = refl
other_there false None word body = refl
other_there true None word body = refl

-- a block of another form is there exactly where X is set and no form is known
pub is_some-other : (bytes : List ℕ) → is_some (parts_at bytes).other_block ≡ (not (is_some (form_in bytes)) && has_block bytes)
unfolding parts_at profile_in other_in
is_some-other bytes = other_there (has_block bytes) (form_in bytes) (word_at (drop (sources_end bytes) bytes) 0) (slice_range bytes (sources_end bytes + 4) (header_end bytes))

-- where X is clear there is none
pub profile-clear : (bytes : List ℕ) → has_block bytes ≡ false → None ≡ profile_in bytes
unfolding profile_in
profile-clear bytes clear = rw clear refl

pub block-clear : (bytes : List ℕ) → has_block bytes ≡ false → (parts_at bytes).block ≡ None
unfolding parts_at form_in
block-clear bytes clear = rw clear refl

pub other-clear : (bytes : List ℕ) → has_block bytes ≡ false → (parts_at bytes).other_block ≡ None
unfolding parts_at form_in profile_in other_in
other-clear bytes clear = rw clear refl

-- ---- its word

pub word-after : (bytes : List ℕ) (start : ℕ) → word_at (drop start bytes) 0 ≡ slice_index bytes start * 256 + slice_index bytes (start + 1)
word-after bytes start =
    word_at-cells (drop start bytes) 0 ∙ rw (get_or-drop start bytes 0 0, get_or-drop start bytes 1 0, add-zero start) refl

pub profile-set : (bytes : List ℕ) (profile : ℕ) → has_block bytes ≡ true → profile ≡ word_at (drop (sources_end bytes) bytes) 0 → Some profile ≡ profile_in bytes
unfolding profile_in
profile-set bytes profile set is = rw set (ap (λ (word : ℕ). Some word) is)

form_said : (x : Bool) (found : Option ExtensionsForm) (word profile : ℕ) (body : List ℕ) → found ≡ (if x then form_of_word word else None) → x ≡ true → profile ≡ word
    → IfSome (option_map {U = ExtensionsForm × List ℕ} (λ form. (form, body)) found) (λ block. IsFormWord profile block.0)
form_said x None word profile body is set same = tt
form_said false (Some form) word profile body is set same = absurd cc
form_said true (Some form) word profile body is set same = subst (λ (w : ℕ). IsFormWord w form) (sym same) (IsFormWord-form_of_word word form (sym is))

pub IsFormWord-block : (bytes : List ℕ) (profile : ℕ) → has_block bytes ≡ true → profile ≡ word_at (drop (sources_end bytes) bytes) 0
    → IfSome (parts_at bytes).block (λ block. IsFormWord profile block.0)
unfolding parts_at form_in
IsFormWord-block bytes profile set is =
    form_said (has_block bytes) (form_in bytes) (word_at (drop (sources_end bytes) bytes) 0) profile (slice_range bytes (sources_end bytes + 4) (header_end bytes)) refl set is

other_said : (x : Bool) (form : Option ExtensionsForm) (word profile : ℕ) (body : List ℕ) → profile ≡ word
    → IfSome (option_map {U = ℕ × List ℕ} (λ p. (p, body)) (if is_some form then None else (if x then Some word else None))) (λ other. Some profile ≡ Some other.0)
other_said x (Some form) word profile body same = tt
other_said false None word profile body same = tt
other_said true None word profile body same = ap (λ (w : ℕ). Some w) same

pub profile-other : (bytes : List ℕ) (profile : ℕ) → profile ≡ word_at (drop (sources_end bytes) bytes) 0 → IfSome (parts_at bytes).other_block (λ other. Some profile ≡ Some other.0)
unfolding parts_at profile_in other_in
profile-other bytes profile is =
    other_said (has_block bytes) (form_in bytes) (word_at (drop (sources_end bytes) bytes) 0) profile (slice_range bytes (sources_end bytes + 4) (header_end bytes)) is

-- ---- its body

body_said : {A : Type 0} (word : Option A) (was body : List ℕ) → body ≡ was → IfSome (option_map {U = A × List ℕ} (λ w. (w, was)) word) (λ block. Some body ≡ Some block.1)
body_said None was body same = tt
body_said (Some word) was body same = ap (λ (xs : List ℕ). Some xs) same

pub body-block : (bytes body : List ℕ) → body ≡ slice_range bytes (sources_end bytes + 4) (header_end bytes) → IfSome (parts_at bytes).block (λ block. Some body ≡ Some block.1)
unfolding parts_at
body-block bytes body is = body_said (form_in bytes) (slice_range bytes (sources_end bytes + 4) (header_end bytes)) body is

pub body-other : (bytes body : List ℕ) → body ≡ slice_range bytes (sources_end bytes + 4) (header_end bytes) → IfSome (parts_at bytes).other_block (λ other. Some body ≡ Some other.1)
unfolding parts_at
body-other bytes body is = body_said (other_in bytes) (slice_range bytes (sources_end bytes + 4) (header_end bytes)) body is
