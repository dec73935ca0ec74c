-- LEB128: the shortest spelling.
use Rattle.rtp_vla.proofs.Common.{◌≡◌, ℕ, zero, suc, ◌+◌, ◌*◌, ◌/◌, ◌%◌, ◌^◌, ◌<◌, ◌≤◌, inl, ⊎_elim, List, [], ◌∷◌, ◌++◌, length, refl, sym, ap, ◌∙◌, subst, arith, length-append, set, AllByRecursion, mod-eq_of_lt, pow-suc, lt-ltb, le-ltb, cases_lt, overwritten, Leaves}
use Rattle.rtp_vla.specs.Leb.{base128_value, IsShortest, leb_of, shortest_of}
use Rattle.rtp_vla.proofs.LeavingLemmas.{Leaves-start, Leaves-byte, Leaves-end}
use Rattle.rtp_vla.proofs.LebLemmas.{base128_value-below}

-- ---- The shortest spelling

leb_of-low : (room value : ℕ) → value < 128 → leb_of (suc room) value ≡ value ∷ []
unfolding leb_of
leb_of-low room value low = rw (lt-ltb value 128 low) refl

leb_of-high : (room value : ℕ) → 128 ≤ value → leb_of (suc room) value ≡ (value % 128 + 128) ∷ leb_of room (value / 128)
unfolding leb_of
leb_of-high room value high = rw (le-ltb value 128 high) refl

leb_of-none : (value : ℕ) → leb_of zero value ≡ []
unfolding leb_of
leb_of-none value = refl

pub shortest-leb_of : (value : ℕ) → shortest_of value ≡ leb_of 9 value
unfolding shortest_of
shortest-leb_of value = refl

-- seven bits less
shorter : (room value : ℕ) → 128 ≤ value → value < 128 ^ suc room → (value / 128 < 128 ^ room) × (1 ≤ room)
shorter zero value high below = absurd (omega arith)
shorter (suc room) value high below =
    (omega (arith, below, pow-suc 128 (suc room)), omega arith)

record SpellsLow (more value : ℕ) (bytes : List ℕ) : Type 0 where
  front : List ℕ
  last : ℕ
  bytes_are : bytes ≡ front ++ last ∷ []
  few : length front ≤ more
  continued : AllByRecursion (λ byte. 128 ≤ byte) front
  low : last < 128
  value_is : value ≡ base128_value bytes

low_alone : (more byte : ℕ) → byte < 128 → SpellsLow more byte (byte ∷ [])
low_alone more byte low = record {
  front = [];
  last = byte;
  bytes_are = refl;
  few = omega arith;
  continued = tt;
  low = low;
  value_is = sym (mod-eq_of_lt low) ∙ omega arith;
}

low_more : (more value : ℕ) (bytes : List ℕ) → SpellsLow more (value / 128) bytes → SpellsLow (suc more) value ((value % 128 + 128) ∷ bytes)
low_more more value bytes s = record {
  front = (value % 128 + 128) ∷ s.front;
  last = s.last;
  bytes_are = ap (λ (xs : List ℕ). (value % 128 + 128) ∷ xs) s.bytes_are;
  few = omega (arith, s.few);
  continued = (omega arith, s.continued);
  low = s.low;
  value_is = omega (arith, s.value_is);
}

leb_of-spells : (more value : ℕ) → value < 128 ^ suc more → SpellsLow more value (leb_of (suc more) value)
leb_of-spells zero value below = subst (SpellsLow zero value) (sym (leb_of-low zero value below)) (low_alone zero value below)
leb_of-spells (suc more) value below =
    ⊎_elim
    (λ low. subst (SpellsLow (suc more) value) (sym (leb_of-low (suc more) value low)) (low_alone (suc more) value low))
    (λ high. subst (SpellsLow (suc more) value) (sym (leb_of-high (suc more) value high)) (low_more more value (leb_of (suc more) (value / 128)) (leb_of-spells more (value / 128) (shorter (suc more) value high below).0)))
    (cases_lt value 128)

length_high : (value more len : ℕ) → 128 ≤ value → value < 128 ^ suc more → ((m : ℕ) → value / 128 < 128 ^ suc m → len ≤ suc m) → suc len ≤ suc more
length_high value zero len high below rest = absurd (omega arith)
length_high value (suc more) len high below rest = omega (arith, rest more (shorter (suc more) value high below).0)

length-leb_of-le : (room value more : ℕ) → value < 128 ^ suc more → length (leb_of room value) ≤ suc more
length-leb_of-le zero value more below = rw (leb_of-none value) (omega arith)
length-leb_of-le (suc room) value more below =
    ⊎_elim
    (λ low. rw (leb_of-low room value low) (omega arith))
    (λ high. rw (leb_of-high room value high) (length_high value more (length (leb_of room (value / 128))) high below (λ m small. length-leb_of-le room (value / 128) m small)))
    (cases_lt value 128)

pub IsShortest-shortest_of : (value : ℕ) → value < 2 ^ 63 → IsShortest value (shortest_of value)
IsShortest-shortest_of value small = subst (IsShortest value) (sym (shortest-leb_of value))
    (let s : SpellsLow 8 value (leb_of 9 value) = leb_of-spells 8 value small in
    record {
      spells = record {
        front = s.front;
        last = s.last;
        bytes_are = s.bytes_are;
        at_most_nine = s.few;
        continued = s.continued;
        ended = inl s.low;
        value_is = s.value_is;
      };
      shortest = λ other leb.
          let len : length other ≡ suc (length leb.front) = ap length leb.bytes_are ∙ length-append leb.front (leb.last ∷ []) ∙ omega arith in
          let below : value < 128 ^ suc (length leb.front) = subst (λ (n : ℕ). value < 128 ^ n) len (omega (arith, leb.value_is, base128_value-below other)) in
          omega (arith, len, length-leb_of-le 9 value (length leb.front) below);
      ends_low = s.low;
    })

pub length-leb_of-pos : (room value : ℕ) → 1 ≤ length (leb_of (suc room) value)
length-leb_of-pos room value =
    ⊎_elim (λ low. rw (leb_of-low room value low) (omega arith)) (λ high. rw (leb_of-high room value high) (omega arith)) (cases_lt value 128)

pub length-shortest_of : (value : ℕ) → value < 2 ^ 63 → (1 ≤ length (shortest_of value)) × (length (shortest_of value) ≤ 9)
length-shortest_of value small = rw (shortest-leb_of value) (length-leb_of-pos 8 value, length-leb_of-le 9 value 8 small)

leb_of-bytes : (room value : ℕ) → AllByRecursion (λ byte. byte < 256) (leb_of room value)
leb_of-bytes zero value = rw (leb_of-none value) tt
leb_of-bytes (suc room) value =
    ⊎_elim
    (λ low. rw (leb_of-low room value low) (omega arith, tt))
    (λ high. rw (leb_of-high room value high) (omega arith, leb_of-bytes room (value / 128)))
    (cases_lt value 128)

pub shortest_of-bytes : (value : ℕ) → AllByRecursion (λ byte. byte < 256) (shortest_of value)
shortest_of-bytes value = rw (shortest-leb_of value) (leb_of-bytes 9 value)

-- ---- Those of one and two bytes

pub shortest-one : (value : ℕ) → value < 128 → shortest_of value ≡ value ∷ []
shortest-one value low = shortest-leb_of value ∙ leb_of-low 8 value low

pub shortest-two : (value : ℕ) → 128 ≤ value → value < 16384 → shortest_of value ≡ (value % 128 + 128) ∷ (value / 128) ∷ []
shortest-two value high low =
    shortest-leb_of value ∙ leb_of-high 8 value high ∙ ap (λ (bytes : List ℕ). (value % 128 + 128) ∷ bytes) (leb_of-low 7 (value / 128) (omega arith))

pub put_one : (buf : List ℕ) (at value : ℕ) → value < 128 → at + length (shortest_of value) ≤ length buf → set buf at value ≡ overwritten buf at (shortest_of value)
put_one buf at value low room =
    let one = shortest-one value low in
    let first = Leaves-byte buf [] buf (value ∷ []) at at value (Leaves-start buf (value ∷ []) at (omega (arith, room, ap length one))) in
    (Leaves-end (set buf at value) buf (value ∷ []) (at + 1) at first).0 ∙ ap (overwritten buf at) (sym one)

-- the two bytes in one number
pub spread_two : (value spread : ℕ) → 128 ≤ value → value < 16384 → spread ≡ value + value / 128 * 128 + 128 → (spread % 256) ∷ (spread / 256) ∷ [] ≡ shortest_of value
spread_two value spread high low is =
    let first : spread % 256 ≡ value % 128 + 128 = omega (arith, is) in
    let second : spread / 256 ≡ value / 128 = omega (arith, is) in
    (λ i. first i ∷ second i ∷ []) ∙ sym (shortest-two value high low)

-- ---- The loops that write it and measure it

pub measured_more : (room len left all : ℕ) → 128 ≤ left → left < 128 ^ suc room → len + length (leb_of (suc room) left) ≡ all
    → ((len + 1) + length (leb_of room (left / 128)) ≡ all) × (left / 128 < 128 ^ room) × (1 ≤ room)
measured_more room len left all high below so_far =
    let less = shorter room left high below in
    (omega (arith, so_far, ap length (leb_of-high room left high)), less.0, less.1)

pub measured_all : (room len left all : ℕ) → left < 128 → len + length (leb_of (suc room) left) ≡ all → len + 1 ≡ all
measured_all room len left all low so_far = omega (arith, so_far, ap length (leb_of-low room left low))

pub put_more : (room : ℕ) (buf first all : List ℕ) (end at left : ℕ) → 128 ≤ left → left < 128 ^ suc room → Leaves buf end (leb_of (suc room) left) first at all
    → Leaves (set buf end (left % 128 + 128)) (end + 1) (leb_of room (left / 128)) first at all × (left / 128 < 128 ^ room) × (1 ≤ room)
put_more room buf first all end at left high below leaves =
    let less = shorter room left high below in
    (Leaves-byte buf (leb_of room (left / 128)) first all end at (left % 128 + 128) (rw (leb_of-high room left high) at leaves), less.0, less.1)

pub put_last : (room : ℕ) (buf first all : List ℕ) (end at left : ℕ) → left < 128 → Leaves buf end (leb_of (suc room) left) first at all
    → (set buf end left ≡ overwritten first at all) × (end + 1 ≡ at + length all)
put_last room buf first all end at left low leaves =
    Leaves-end (set buf end left) first all (end + 1) at (Leaves-byte buf [] first all end at left (rw (leb_of-low room left low) at leaves))

pub put_within : (room : ℕ) (buf first all : List ℕ) (end at left : ℕ) → Leaves buf end (leb_of (suc room) left) first at all → end < length buf
put_within room buf first all end at left leaves = omega (arith, leaves.room, length-leb_of-pos room left)
