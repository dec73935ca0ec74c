-- LEB128: what is read is spelled, and what is spelled is read.
use Rattle.rtp_vla.proofs.Common.{◌≡◌, ℕ, zero, suc, ◌+◌, ◌-◌, ◌*◌, ◌%◌, ◌^◌, ◌<◌, ◌≤◌, ◌⊎◌, inl, inr, ⊎_elim, List, [], ◌∷◌, ◌++◌, length, take, drop, get_or, Option, Some, None, MatchOption, refl, sym, ap, ◌∙◌, subst, arith, length-append, bit_and, option_map, AllByRecursion, mod-eq_of_lt, pow-suc, pow-le-pow_right, lt-ltb, le-ltb, cases_lt, drop_more, drop_all, take-append-drop, drop_at, and_mask, mul-le, base128_value, IsLeb, BeginsNoLeb, ReadsLeb, spelled, unspelled}
use Rattle.rtp_vla.specs.LebReading.{leb_number, weighed, leb_read, leb_value, leb_rest}

abbrev read_as : ℕ → ℕ → Option (ℕ × ℕ)
read_as value len = Some (value, len)

same_read : (a b c d : ℕ) → a ≡ c → b ≡ d → read_as a b ≡ read_as c d
same_read a b c d p q = ap (λ (x : ℕ). read_as x b) p ∙ ap (λ (x : ℕ). read_as c x) q

-- ---- One byte of a reading

leb_number-low : (more byte : ℕ) (bytes : List ℕ) → byte < 128 → leb_number (suc more) (byte ∷ bytes) ≡ read_as byte 1
unfolding leb_number
leb_number-low zero byte bytes low = same_read _ _ _ _ (mod-eq_of_lt low) refl
leb_number-low (suc more) byte bytes low = rw (lt-ltb byte 128 low) refl

leb_number-high : (more byte : ℕ) (bytes : List ℕ) → 128 ≤ byte → leb_number (suc (suc more)) (byte ∷ bytes) ≡ option_map (λ read. (byte % 128 + 128 * read.0, suc read.1)) (leb_number (suc more) bytes)
unfolding leb_number
leb_number-high more byte bytes high = rw (le-ltb byte 128 high) refl

leb_number-ninth : (byte : ℕ) (bytes : List ℕ) → leb_number 1 (byte ∷ bytes) ≡ read_as (byte % 128) 1
unfolding leb_number
leb_number-ninth byte bytes = refl

leb_number-nil : (more : ℕ) → leb_number (suc more) [] ≡ None
unfolding leb_number
leb_number-nil more = refl

-- the reading that the loop continues
abbrev Continues : List ℕ → ℕ → ℕ → ℕ → Type 0
Continues buf value weight i = leb_number 9 buf ≡ weighed value weight i (leb_number (9 - i) (drop i buf))

at_byte : (buf : List ℕ) (i more : ℕ) → i < length buf → 9 - i ≡ suc more → leb_number (9 - i) (drop i buf) ≡ leb_number (suc more) (get_or buf i 0 ∷ drop (i + 1) buf)
at_byte buf i more within room =
    ap (λ (k : ℕ). leb_number k (drop i buf)) room ∙ ap (leb_number (suc more)) (drop_more buf i 0 within)

low_bits : (byte low : ℕ) → low ≡ bit_and byte 127 → low ≡ byte % 128
low_bits byte low is = is ∙ and_mask byte 7

pub read_low : (buf : List ℕ) (value weight i low : ℕ) → Continues buf value weight i → i < length buf → i ≤ 8 → low ≡ bit_and (get_or buf i 0) 127 → get_or buf i 0 < 128
    → read_as (value + low * weight) (i + 1) ≡ leb_number 9 buf
read_low buf value weight i low so_far within few low-is below =
    let room : 9 - i ≡ suc (8 - i) = omega arith in
    let low-byte : low ≡ get_or buf i 0 = low_bits _ low low-is ∙ mod-eq_of_lt below in
    sym (so_far
    ∙ ap (weighed value weight i) (at_byte buf i (8 - i) within room ∙ leb_number-low (8 - i) (get_or buf i 0) (drop (i + 1) buf) below)
    ∙ same_read _ _ _ _ (rw low-byte (omega arith)) refl)

pub read_ninth : (buf : List ℕ) (value weight i low : ℕ) → Continues buf value weight i → i < length buf → i ≡ 8 → low ≡ bit_and (get_or buf i 0) 127
    → read_as (value + low * weight) 9 ≡ leb_number 9 buf
read_ninth buf value weight i low so_far within eighth low-is =
    let room : 9 - i ≡ suc zero = omega arith in
    sym (so_far
    ∙ ap (weighed value weight i) (at_byte buf i zero within room ∙ leb_number-ninth (get_or buf i 0) (drop (i + 1) buf))
    ∙ same_read _ _ _ _ (rw (sym (low_bits _ low low-is)) (omega arith)) (omega arith))

weighed_more : (value weight i byte : ℕ) (o : Option (ℕ × ℕ)) → weighed value weight i (option_map (λ read. (byte + 128 * read.0, suc read.1)) o) ≡ weighed (value + byte * weight) (weight * 128) (i + 1) o
weighed_more value weight i byte None = refl
weighed_more value weight i byte (Some read) = same_read _ _ _ _ (omega arith) (omega arith)

pub read_more : (buf : List ℕ) (value weight i low : ℕ) → Continues buf value weight i → i < length buf → i < 8 → low ≡ bit_and (get_or buf i 0) 127 → 128 ≤ get_or buf i 0
    → Continues buf (value + low * weight) (weight * 128) (i + 1)
read_more buf value weight i low so_far within few low-is high =
    let room : 9 - i ≡ suc (suc (7 - i)) = omega arith in
    let next : suc (7 - i) ≡ 9 - (i + 1) = omega arith in
    so_far
    ∙ ap (weighed value weight i) (at_byte buf i (suc (7 - i)) within room ∙ leb_number-high (7 - i) (get_or buf i 0) (drop (i + 1) buf) high)
    ∙ weighed_more value weight i (get_or buf i 0 % 128) (leb_number (suc (7 - i)) (drop (i + 1) buf))
    ∙ ap (λ (b : ℕ). weighed (value + b * weight) (weight * 128) (i + 1) (leb_number (suc (7 - i)) (drop (i + 1) buf))) (sym (low_bits _ low low-is))
    ∙ ap (λ (k : ℕ). weighed (value + low * weight) (weight * 128) (i + 1) (leb_number k (drop (i + 1) buf))) next

pub read_none : (buf : List ℕ) (value weight i : ℕ) → Continues buf value weight i → length buf ≤ i → i ≤ 8 → None ≡ leb_number 9 buf
read_none buf value weight i so_far past few =
    let room : 9 - i ≡ suc (8 - i) = omega arith in
    sym (so_far
    ∙ ap (weighed value weight i) (ap (λ (k : ℕ). leb_number k (drop i buf)) room ∙ ap (leb_number (suc (8 - i))) (drop_all i buf past) ∙ leb_number-nil (8 - i)))

-- a number of two bytes
pub read_two : (buf : List ℕ) (low : ℕ) → 2 ≤ length buf → low ≡ bit_and (get_or buf 0 0) 127 → 128 ≤ get_or buf 0 0 → get_or buf 1 0 < 128 → read_as (low + 128 * get_or buf 1 0) 2 ≡ leb_number 9 buf
read_two [] low some low-is high below = absurd (omega arith)
read_two (a ∷ []) low some low-is high below = absurd (omega arith)
read_two (a ∷ b ∷ bytes) low some low-is high below =
    sym (leb_number-high 7 a (b ∷ bytes) high
    ∙ ap (option_map (λ (read : ℕ × ℕ). (a % 128 + 128 * read.0, suc read.1))) (leb_number-low 7 b bytes below)
    ∙ same_read _ _ _ _ (omega (arith, low_bits a low low-is)) refl)

pub weight_fits : (i weight : ℕ) → weight ≡ 128 ^ i → i < 8 → weight * 128 < 2 ^ 64
weight_fits i weight is few =
    let small : 128 ^ i ≤ 128 ^ 7 = pow-le-pow_right {n = 128} (omega arith) {i = i} {j = 7} (omega arith) in
    omega (arith, small, is)

pub value_below : (value weight byte low : ℕ) → value < weight → low ≡ bit_and byte 127 → value + low * weight < weight * 128
value_below value weight byte low below low-is =
    let few : low ≤ 127 = omega (arith, low_bits byte low low-is) in
    omega (arith, mul-le low weight 127 weight few (omega arith))

-- ---- What is read is spelled, and what is spelled is read

-- a spelling in at most `more` bytes after a first
record Spells (more value : ℕ) (bytes : List ℕ) : Type 0 where
  front : List ℕ
  last : ℕ
  bytes_are : bytes ≡ front ++ last ∷ []
  few : length front ≤ more
  continued : AllByRecursion (λ byte. 128 ≤ byte) front
  ended : (last < 128) ⊎ (length front ≡ more)
  value_is : value ≡ base128_value bytes

to_leb : (value : ℕ) (bytes : List ℕ) → Spells 8 value bytes → IsLeb value bytes
to_leb value bytes s = record {
  front = s.front;
  last = s.last;
  bytes_are = s.bytes_are;
  at_most_nine = s.few;
  continued = s.continued;
  ended = s.ended;
  value_is = s.value_is;
}

-- the number that is spelled at the front is read
leb_number-spelled : (more : ℕ) (front : List ℕ) (last : ℕ) (rest : List ℕ) → length front ≤ more → AllByRecursion (λ byte. 128 ≤ byte) front → (last < 128) ⊎ (length front ≡ more)
    → leb_number (suc more) ((front ++ last ∷ []) ++ rest) ≡ read_as (base128_value (front ++ last ∷ [])) (length (front ++ last ∷ []))
leb_number-spelled zero [] last rest few continued ended = leb_number-ninth last rest ∙ same_read _ _ _ _ (omega arith) refl
leb_number-spelled (suc more) [] last rest few continued (inl low) = leb_number-low (suc more) last rest low ∙ same_read _ _ _ _ (sym (mod-eq_of_lt low) ∙ omega arith) refl
leb_number-spelled (suc more) [] last rest few continued (inr full) = absurd (omega arith)
leb_number-spelled zero (byte ∷ front) last rest few continued ended = absurd (omega arith)
leb_number-spelled (suc more) (byte ∷ front) last rest few continued ended =
    let still : (last < 128) ⊎ (length front ≡ more) = ⊎_elim (λ low. inl low) (λ full. inr (omega arith)) ended in
    leb_number-high more byte ((front ++ last ∷ []) ++ rest) continued.0
    ∙ ap (option_map (λ read. (byte % 128 + 128 * read.0, suc read.1))) (leb_number-spelled more front last rest (omega arith) continued.1 still)
    ∙ same_read _ _ _ _ refl (omega arith)

-- no front of the bytes is a spelling
abbrev NoneSpelled : ℕ → List ℕ → Type 0
NoneSpelled more bytes = (value : ℕ) (front rest : List ℕ) → bytes ≡ front ++ rest → Spells more value front → ⊥

none_empty : (more : ℕ) → NoneSpelled more []
none_empty more value front rest is s =
    absurd (omega (arith, ap length is, length-append front rest, ap length s.bytes_are, length-append s.front (s.last ∷ [])))

none_high : (more byte : ℕ) (bytes : List ℕ) → 128 ≤ byte → NoneSpelled more bytes → (front : List ℕ) (last : ℕ) (rest : List ℕ) → byte ∷ bytes ≡ (front ++ last ∷ []) ++ rest
    → length front ≤ suc more → AllByRecursion (λ b. 128 ≤ b) front → (last < 128) ⊎ (length front ≡ suc more) → ⊥
none_high more byte bytes high none [] last rest is few continued ended =
    let same : byte ≡ last = cc in
    ⊎_elim (λ low. absurd (omega arith)) (λ full. absurd (omega arith)) ended
none_high more byte bytes high none (b ∷ front) last rest is few continued ended =
    let tail : bytes ≡ (front ++ last ∷ []) ++ rest = cc in
    none (base128_value (front ++ last ∷ [])) (front ++ last ∷ []) rest tail (record {
      front = front;
      last = last;
      bytes_are = refl;
      few = omega arith;
      continued = continued.1;
      ended = ⊎_elim (λ low. inl low) (λ full. inr (omega arith)) ended;
      value_is = refl;
    })

abbrev IsFound : ℕ → List ℕ → Option (ℕ × ℕ) → Type 0
IsFound more bytes o = MatchOption o (NoneSpelled more bytes) (λ read. Spells more read.0 (take read.1 bytes) × (read.1 ≤ length bytes))

found_more : (more byte : ℕ) (bytes : List ℕ) → 128 ≤ byte → (o : Option (ℕ × ℕ)) → IsFound more bytes o
    → IsFound (suc more) (byte ∷ bytes) (option_map (λ read. (byte % 128 + 128 * read.0, suc read.1)) o)
found_more more byte bytes high None none = λ value front rest is s.
    none_high more byte bytes high none s.front s.last rest (is ∙ ap (λ (xs : List ℕ). xs ++ rest) s.bytes_are) s.few s.continued s.ended
found_more more byte bytes high (Some read) (s, within) = (
  record {
    front = byte ∷ s.front;
    last = s.last;
    bytes_are = ap (λ (xs : List ℕ). byte ∷ xs) s.bytes_are;
    few = omega (arith, s.few);
    continued = (high, s.continued);
    ended = ⊎_elim (λ low. inl low) (λ full. inr (omega arith)) s.ended;
    value_is = ap (λ (n : ℕ). byte % 128 + 128 * n) s.value_is;
  },
  omega arith,
)

alone : (more byte : ℕ) → byte < 128 → Spells more byte (byte ∷ [])
alone more byte low = record {
  front = [];
  last = byte;
  bytes_are = refl;
  few = omega arith;
  continued = tt;
  ended = inl low;
  value_is = sym (mod-eq_of_lt low) ∙ omega arith;
}

leb_number-found : (more : ℕ) (bytes : List ℕ) → IsFound more bytes (leb_number (suc more) bytes)
leb_number-found more [] = rw (leb_number-nil more) (none_empty more)
leb_number-found zero (byte ∷ bytes) = rw (leb_number-ninth byte bytes) (
  record {
    front = [];
    last = byte;
    bytes_are = refl;
    few = omega arith;
    continued = tt;
    ended = inr refl;
    value_is = omega arith;
  },
  omega arith,
)
leb_number-found (suc more) (byte ∷ bytes) =
    ⊎_elim
    (λ low. subst (IsFound (suc more) (byte ∷ bytes)) (sym (leb_number-low (suc more) byte bytes low)) (alone (suc more) byte low, omega arith))
    (λ high. subst (IsFound (suc more) (byte ∷ bytes)) (sym (leb_number-high more byte bytes high)) (found_more more byte bytes high (leb_number (suc more) bytes) (leb_number-found more bytes)))
    (cases_lt byte 128)

-- ---- What `parse_leb_u63` promises

from_leb : (value : ℕ) (bytes : List ℕ) → IsLeb value bytes → Spells 8 value bytes
from_leb value bytes s = record {
  front = s.front;
  last = s.last;
  bytes_are = s.bytes_are;
  few = s.at_most_nine;
  continued = s.continued;
  ended = s.ended;
  value_is = s.value_is;
}

pub leb_read-at : (bytes : List ℕ) (o : Option (ℕ × ℕ)) → o ≡ leb_number 9 bytes → (leb_value bytes ≡ (leb_read bytes o).0) × (leb_rest bytes ≡ (leb_read bytes o).1)
unfolding leb_value leb_rest
leb_read-at bytes o is = (ap (λ (p : Option (ℕ × ℕ)). (leb_read bytes p).0) (sym is), ap (λ (p : Option (ℕ × ℕ)). (leb_read bytes p).1) (sym is))

reads_found : (bytes : List ℕ) (o : Option (ℕ × ℕ)) → IsFound 8 bytes o → ReadsLeb bytes (leb_read bytes o).0 (leb_read bytes o).1
reads_found bytes None none = unspelled (λ value front rest is leb. none value front rest is (from_leb value front leb)) refl refl
reads_found bytes (Some read) (s, within) = spelled (take read.1 bytes) (sym (take-append-drop read.1 bytes)) (to_leb read.0 (take read.1 bytes) s)

-- what is read is so by the definition, and nothing else is
pub ReadsLeb-read : (bytes : List ℕ) → ReadsLeb bytes (leb_value bytes) (leb_rest bytes)
unfolding leb_value leb_rest
ReadsLeb-read bytes = reads_found bytes (leb_number 9 bytes) (leb_number-found 8 bytes)

none_read : (bytes : List ℕ) → BeginsNoLeb bytes → (o : Option (ℕ × ℕ)) → IsFound 8 bytes o → o ≡ None
none_read bytes none None found = refl
none_read bytes none (Some read) (s, within) = absurd (none read.0 (take read.1 bytes) (drop read.1 bytes) (sym (take-append-drop read.1 bytes)) (to_leb _ _ s))

pub read-ReadsLeb : (bytes : List ℕ) (value : ℕ) (rest : List ℕ) → ReadsLeb bytes value rest → (leb_value bytes ≡ value) × (leb_rest bytes ≡ rest)
read-ReadsLeb bytes value rest (spelled front is leb) =
    let front-is : front ≡ leb.front ++ leb.last ∷ [] = leb.bytes_are in
    let all : bytes ≡ (leb.front ++ leb.last ∷ []) ++ rest = is ∙ ap (λ (xs : List ℕ). xs ++ rest) front-is in
    let read = ap (leb_number 9) all ∙ leb_number-spelled 8 leb.front leb.last rest leb.at_most_nine leb.continued leb.ended in
    let at = leb_read-at bytes (read_as (base128_value (leb.front ++ leb.last ∷ [])) (length (leb.front ++ leb.last ∷ []))) (sym read) in (
      at.0 ∙ ap base128_value (sym front-is) ∙ sym leb.value_is,
      at.1 ∙ ap (drop (length (leb.front ++ leb.last ∷ []))) all ∙ drop_at (leb.front ++ leb.last ∷ []) rest _ refl,
    )
read-ReadsLeb bytes value rest (unspelled none value-is rest-is) =
    let at = leb_read-at bytes None (sym (none_read bytes none (leb_number 9 bytes) (leb_number-found 8 bytes))) in
    (at.0 ∙ sym value-is, at.1 ∙ sym rest-is)

-- the same of a reading that is at hand
pub ReadsLeb-value : (bytes : List ℕ) (o : Option (ℕ × ℕ)) → o ≡ leb_number 9 bytes → ReadsLeb bytes (leb_read bytes o).0 (leb_read bytes o).1
ReadsLeb-value bytes o is = subst (λ (p : Option (ℕ × ℕ)). ReadsLeb bytes (leb_read bytes p).0 (leb_read bytes p).1) (sym is) (reads_found bytes (leb_number 9 bytes) (leb_number-found 8 bytes))

pub reads_only : (bytes : List ℕ) (o : Option (ℕ × ℕ)) (value : ℕ) (rest : List ℕ) → o ≡ leb_number 9 bytes → ReadsLeb bytes value rest
    → ((leb_read bytes o).0 ≡ value) × ((leb_read bytes o).1 ≡ rest)
reads_only bytes o value rest is reads =
    let at = leb_read-at bytes o is in
    let same = read-ReadsLeb bytes value rest reads in
    (sym at.0 ∙ same.0, sym at.1 ∙ same.1)

-- no byte spells none
pub empty_read : (bytes : List ℕ) → length bytes ≡ 0 → None ≡ leb_number 9 bytes
empty_read [] none = sym (leb_number-nil 8)
empty_read (byte ∷ bytes) none = absurd (omega (arith, none))

-- a byte below 128 is a number by itself
pub first_read : (bytes : List ℕ) (byte : ℕ) (rest : List ℕ) → bytes ≡ byte ∷ rest → byte < 128 → read_as byte 1 ≡ leb_number 9 bytes
first_read bytes byte rest is low = sym (ap (leb_number 9) is ∙ leb_number-low 8 byte rest low)

pub ReadsLeb-first : (bytes : List ℕ) (byte : ℕ) (rest : List ℕ) → bytes ≡ byte ∷ rest → byte < 128 → ReadsLeb bytes byte rest
ReadsLeb-first bytes byte rest is low =
    subst (λ (after : List ℕ). ReadsLeb bytes byte after) (ap (drop 1) is) (ReadsLeb-value bytes (read_as byte 1) (first_read bytes byte rest is low))

pub only_first : (bytes : List ℕ) (byte : ℕ) (rest : List ℕ) (value : ℕ) (after : List ℕ) → bytes ≡ byte ∷ rest → byte < 128 → ReadsLeb bytes value after → (byte ≡ value) × (rest ≡ after)
only_first bytes byte rest value after is low reads =
    let same = reads_only bytes (read_as byte 1) value after (first_read bytes byte rest is low) reads in
    (same.0, sym (ap (drop 1) is) ∙ same.1)

pub base128_value-below : (bytes : List ℕ) → base128_value bytes < 128 ^ length bytes
base128_value-below [] = omega arith
base128_value-below (byte ∷ bytes) = omega (arith, base128_value-below bytes, pow-suc 128 (length bytes))

spelled_below : (value : ℕ) (bytes : List ℕ) → IsLeb value bytes → value < 2 ^ 63
spelled_below value bytes leb =
    let nine : length bytes ≤ 9 = omega (arith, ap length leb.bytes_are, length-append leb.front (leb.last ∷ []), leb.at_most_nine) in
    let small : 128 ^ length bytes ≤ 128 ^ 9 = pow-le-pow_right {n = 128} (omega arith) {i = length bytes} {j = 9} nine in
    omega (arith, small, leb.value_is, base128_value-below bytes)

pub read_below : (bytes : List ℕ) (value : ℕ) (rest : List ℕ) → ReadsLeb bytes value rest → value < 2 ^ 63
read_below bytes value rest (spelled front is leb) = spelled_below value front leb
read_below bytes value rest (unspelled none value-is rest-is) = omega (arith, value-is)
