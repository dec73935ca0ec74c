-- The numbers of the known kinds, and their URIs.
use Rattle.rtp_c.proofs.Common.{◌≡◌, ◌≢◌, ◌↔◌, ℕ, zero, suc, ◌+◌, ◌-◌, ◌≤◌, List, [], ◌∷◌, length, Bool, true, false, ◌&&◌, if◌then◌else◌, nat_le, get_or, Option, None, Some, arith, refl, sym, ap, ◌∙◌, subst, nat_eq, IsUtf8, IsAscii, and_parts, leb-true, eqb-true, KnownKind, AbsoluteSendTime}
use Rattle.std.specs.Prelude.{map, ◌++◌}
use Rattle.rtp_values.specs.KnownKind.{every_kind}
use Rattle.std.proofs.lemmas.Str.{IsUtf8-from_ascii}
use Rattle.rtp_c.specs.declared.bare_kind.BareKind.{BareKind}
use Rattle.rtp_c.specs.declared.bare_kind.BareKind.TheVariants.{MixerLevels, TransportNumber2, DependencyDescriptor, Ntp64, Ntp56}
use Rattle.rtp_c.specs.KindNumbers.{kind_number, kind_numbered, numbered_kinds, IsKindNumbered, bare_number, bare_uri, NumberedKind, Known, Bare, number_of, uri_of}

-- each kind stands at its number
pub number_of_kind : (kind : KnownKind) → kind_numbered (kind_number kind) ≡ Some kind
unfolding kind_numbered
number_of_kind AbsoluteSendTime = refl
number_of_kind _ = refl

pub number_zero : kind_numbered 0 ≡ None
unfolding kind_numbered
number_zero = refl

-- so two kinds have two numbers, none of which is 0
pub one_kind : (a b : KnownKind) → kind_number a ≡ kind_number b → a ≡ b
one_kind a b same = let found : Some a ≡ Some b = sym (number_of_kind a) ∙ ap kind_numbered same ∙ number_of_kind b in cc

pub number≢0 : (kind : KnownKind) → kind_number kind ≢ 0
number≢0 kind is = let wrong : None ≡ Some kind = sym number_zero ∙ ap kind_numbered (sym is) ∙ number_of_kind kind in cc

-- what a test by number and kind says of each of the list, from a number on
unfoldable pub all_pass : (ℕ → KnownKind → Bool) → ℕ → List (Option KnownKind) → Bool
all_pass test number [] = true
all_pass test number (None ∷ kinds) = all_pass test (suc number) kinds
all_pass test number (Some kind ∷ kinds) = test number kind && all_pass test (suc number) kinds

passes_at : (test : ℕ → KnownKind → Bool) (number : ℕ) (kinds : List (Option KnownKind)) (index : ℕ) (kind : KnownKind)
    → all_pass test number kinds ≡ true → get_or kinds index None ≡ Some kind → test (number + index) kind ≡ true
unfolding all_pass
passes_at test number [] index kind all is = cc
passes_at test number (None ∷ kinds) zero kind all is = cc
passes_at test number (Some first ∷ kinds) zero kind all is =
    let same : first ≡ kind = cc in
    let here : number ≡ number + 0 = omega arith in
    subst (λ (n : ℕ). test n kind ≡ true) here (subst (λ (k : KnownKind). test number k ≡ true) same (and_parts _ _ all).0)
passes_at test number (None ∷ kinds) (suc index) kind all is =
    let there : suc number + index ≡ number + suc index = omega arith in
    subst (λ (n : ℕ). test n kind ≡ true) there (passes_at test (suc number) kinds index kind all is)
passes_at test number (Some first ∷ kinds) (suc index) kind all is =
    let there : suc number + index ≡ number + suc index = omega arith in
    subst (λ (n : ℕ). test n kind ≡ true) there (passes_at test (suc number) kinds index kind (and_parts _ _ all).1 is)

-- what each kind passes passes the kind of a number
pub numbered_passes : (test : ℕ → KnownKind → Bool) → all_pass test 0 numbered_kinds ≡ true → (number : ℕ) (kind : KnownKind) → kind_numbered number ≡ Some kind → test number kind ≡ true
unfolding kind_numbered
numbered_passes test all number kind is =
    let from_0 : 0 + number ≡ number = omega arith in
    subst (λ (n : ℕ). test n kind ≡ true) from_0 (passes_at test 0 numbered_kinds number kind all is)

-- each number has its kind
all_numbered : all_pass (λ number kind. nat_eq (kind_number kind) number) 0 numbered_kinds ≡ true
unfolding all_pass
all_numbered = refl

pub numbered_is : (number : ℕ) → IsKindNumbered number (kind_numbered number)
numbered_is number = of_found (kind_numbered number) refl
  where
    of_found : (found : Option KnownKind) → kind_numbered number ≡ found → IsKindNumbered number found
    of_found None none = λ kind is. let wrong : None ≡ Some kind = sym none ∙ ap kind_numbered (sym is) ∙ number_of_kind kind in cc
    of_found (Some kind) some = eqb-true (kind_number kind) number (numbered_passes _ all_numbered number kind some)

-- the numbers of the kinds are 1 to 15
all_low : all_pass (λ number kind. nat_le 1 number && nat_le number 15) 0 numbered_kinds ≡ true
unfolding all_pass
all_low = refl

pub kind_low : (number : ℕ) (kind : KnownKind) → kind_numbered number ≡ Some kind → (1 ≤ number) × (number ≤ 15)
kind_low number kind is =
    let parts = and_parts _ _ (numbered_passes _ all_low number kind is) in
    (leb-true 1 number parts.0, leb-true number 15 parts.1)

-- each URI is a text of ASCII
all_ascii : List ℕ → Bool
all_ascii [] = true
all_ascii (byte ∷ bytes) = nat_le byte 127 && all_ascii bytes

IsAscii-all : (bytes : List ℕ) → all_ascii bytes ≡ true → IsAscii bytes
unfolding all_ascii
IsAscii-all [] all i = omega arith
IsAscii-all (byte ∷ bytes) all zero = let low = leb-true byte 127 (and_parts (nat_le byte 127) (all_ascii bytes) all).0 in omega (arith, low)
IsAscii-all (byte ∷ bytes) all (suc i) = IsAscii-all bytes (and_parts (nat_le byte 127) (all_ascii bytes) all).1 i

all_uris : all_pass (λ _ kind. all_ascii (uri_of (Known kind))) 0 numbered_kinds ≡ true
unfolding all_pass all_ascii
all_uris = refl

bare_ascii : (kind : BareKind) → all_ascii (bare_uri kind) ≡ true
unfolding all_ascii
bare_ascii MixerLevels = refl
bare_ascii TransportNumber2 = refl
bare_ascii DependencyDescriptor = refl
bare_ascii Ntp64 = refl
bare_ascii Ntp56 = refl

ascii_uri : (kind : NumberedKind) → all_ascii (uri_of kind) ≡ true
ascii_uri (Known kind) = numbered_passes _ all_uris (kind_number kind) kind (number_of_kind kind)
ascii_uri (Bare kind) = bare_ascii kind

pub IsUtf8-uri : (kind : NumberedKind) → IsUtf8 (uri_of kind)
IsUtf8-uri kind = IsUtf8-from_ascii (uri_of kind) (IsAscii-all (uri_of kind) (ascii_uri kind))

-- ---- the kinds without a field beside these

-- a text whose length is that of no URI of theirs is none of these
pub no_bare_uri : (uri : List ℕ) (found : Option BareKind) → found ≡ None
    → ((kind : BareKind) → kind ≢ Ntp56 → length (bare_uri kind) ≡ length uri → found ≡ Some kind)
    → (kind : BareKind) → bare_uri kind ≢ uri
no_bare_uri uri found none only MixerLevels same = let wrong : None ≡ Some MixerLevels = sym none ∙ only MixerLevels (λ is. cc) (ap length same) in cc
no_bare_uri uri found none only TransportNumber2 same = let wrong : None ≡ Some TransportNumber2 = sym none ∙ only TransportNumber2 (λ is. cc) (ap length same) in cc
no_bare_uri uri found none only DependencyDescriptor same = let wrong : None ≡ Some DependencyDescriptor = sym none ∙ only DependencyDescriptor (λ is. cc) (ap length same) in cc
no_bare_uri uri found none only Ntp64 same = let wrong : None ≡ Some Ntp64 = sym none ∙ only Ntp64 (λ is. cc) (ap length same) in cc
no_bare_uri uri found none only Ntp56 same = let wrong : None ≡ Some Ntp64 = sym none ∙ only Ntp64 (λ is. cc) (ap length same) in cc

-- the kind of a number from 16 on
abbrev bare_kinds : List BareKind
bare_kinds = MixerLevels ∷ TransportNumber2 ∷ DependencyDescriptor ∷ Ntp64 ∷ Ntp56 ∷ []

abbrev bare_of : ℕ → BareKind
bare_of number = get_or bare_kinds (number - 16) MixerLevels

bare_at : (kind : BareKind) → bare_of (bare_number kind) ≡ kind
bare_at MixerLevels = refl
bare_at TransportNumber2 = refl
bare_at DependencyDescriptor = refl
bare_at Ntp64 = refl
bare_at Ntp56 = refl

bare_high : (kind : BareKind) → 16 ≤ bare_number kind
bare_high MixerLevels = omega arith
bare_high TransportNumber2 = omega arith
bare_high DependencyDescriptor = omega arith
bare_high Ntp64 = omega arith
bare_high Ntp56 = omega arith

-- no two kinds have one number, and none has 0
pub one_numbered : (a b : NumberedKind) → number_of a ≡ number_of b → a ≡ b
one_numbered (Known a) (Known b) same = ap Known (one_kind a b same)
one_numbered (Bare a) (Bare b) same = ap Bare (sym (bare_at a) ∙ ap bare_of same ∙ bare_at b)
one_numbered (Known a) (Bare b) same = absurd (omega (arith, same, (kind_low (kind_number a) a (number_of_kind a)).1, bare_high b))
one_numbered (Bare a) (Known b) same = absurd (omega (arith, same, (kind_low (kind_number b) b (number_of_kind b)).1, bare_high a))

pub numbered≢0 : (kind : NumberedKind) → number_of kind ≢ 0
numbered≢0 (Known kind) = number≢0 kind
numbered≢0 (Bare kind) = λ is. omega (arith, is, bare_high kind)

-- nor have two kinds one URI
every_numbered : List NumberedKind
every_numbered = map Known every_kind ++ map Bare bare_kinds

are_same : List ℕ → List ℕ → Bool
are_same [] [] = true
are_same [] (byte ∷ bytes) = false
are_same (byte ∷ bytes) [] = false
are_same (byte ∷ bytes) (other ∷ others) = nat_eq byte other && are_same bytes others

-- the number of the first of the kinds that has the URI
number_with : List NumberedKind → List ℕ → ℕ
number_with [] uri = 0
number_with (kind ∷ kinds) uri = if are_same (uri_of kind) uri then number_of kind else number_with kinds uri

all_by_uri : all_pass (λ number kind. nat_eq (number_with every_numbered (uri_of (Known kind))) number) 0 numbered_kinds ≡ true
unfolding all_pass every_numbered are_same number_with
all_by_uri = refl

number_by_uri : (kind : NumberedKind) → number_with every_numbered (uri_of kind) ≡ number_of kind
unfolding every_numbered are_same number_with
number_by_uri (Known kind) = eqb-true _ (kind_number kind) (numbered_passes _ all_by_uri (kind_number kind) kind (number_of_kind kind))
number_by_uri (Bare MixerLevels) = refl
number_by_uri (Bare TransportNumber2) = refl
number_by_uri (Bare DependencyDescriptor) = refl
number_by_uri (Bare Ntp64) = refl
number_by_uri (Bare Ntp56) = refl

one_uri : (a b : NumberedKind) → uri_of a ≡ uri_of b → a ≡ b
one_uri a b same = one_numbered a b (sym (number_by_uri a) ∙ ap (number_with every_numbered) same ∙ number_by_uri b)

-- so a kind is found by the URI where its number is
pub found_by_uri : (found : NumberedKind) (number : ℕ) (uri : List ℕ) → uri_of found ≡ uri → number ≡ number_of found
    → (kind : NumberedKind) → (number ≡ number_of kind) ↔ (uri_of kind ≡ uri)
found_by_uri found number uri has is kind = (
  λ same. ap uri_of (one_numbered kind found (sym same ∙ is)) ∙ has,
  λ same. is ∙ ap number_of (one_uri found kind (has ∙ sym same)),
)

-- and 0 where there is none
pub some_by_uri : (found : NumberedKind) (number : ℕ) (uri : List ℕ) → uri_of found ≡ uri → number ≡ number_of found
    → (number ≡ 0) ↔ ((kind : NumberedKind) → uri_of kind ≢ uri)
some_by_uri found number uri has is = (λ none. absurd (numbered≢0 found (sym is ∙ none)), λ none. absurd (none found has))
