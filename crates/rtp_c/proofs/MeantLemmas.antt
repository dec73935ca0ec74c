-- What the ids of a map mean by their numbers, and the new ids of these.
use Rattle.rtp_c.proofs.Common.{◌≡◌, ◌≢◌, ℕ, zero, suc, ◌≤◌, ◌<◌, ◌+◌, List, [], ◌∷◌, length, length-set, drop, set, get_or, Option, None, Some, inl, inr, ◌⊎◌, arith, refl, sym, ap, ◌∙◌, subst, option_map, cases_lt, get_or_past, get_or-set_same, get_or-set_other, get_or-map, extension_of_kind, Extension, KnownKind, one_kind, extension_at, IsNewId, CarriesExtensions, new_id, id_in_byte, ids_in_bytes, kind_number, kind_numbered, IsNamed, IsFirstNumber, Means, IsNumberAt, IsIdOf, IsLowestOf, AreNewIdsOf, CarryKinds, numbered_slots, take, take_all, length-drop}
use Rattle.rtp_c.proofs.KindNumberLemmas.{number_of_kind, kind_low}
use Rattle.rtp_c.proofs.NumberedLemmas.{HasKinds-numbered, after_first, numbered_kind, extension_numbered}

-- the numbers of the ids from 1 on
pub rest_is : (numbers : List ℕ) → length numbers ≡ 256 → take 255 (drop 1 numbers) ≡ drop 1 numbers
rest_is numbers long = take_all 255 (drop 1 numbers) (omega (arith, long, length-drop 1 numbers))

not_zero : IsNamed 0 → ⊥
not_zero (inl kind) = omega (arith, kind.0)
not_zero (inr own) = omega (arith, own)

-- the index after the first number is the id
means_after : (numbers rest : List ℕ) (number id : ℕ) → rest ≡ drop 1 numbers → Means numbers id number → (k : ℕ) × (id ≡ suc k) × (get_or rest k 0 ≡ number)
means_after numbers rest number zero is means = absurd (omega (arith, means.is_id))
means_after numbers rest number (suc k) is means =
    (k, refl, ap (λ (ns : List ℕ). get_or ns k 0) is ∙ after_first numbers k ∙ means.here)

pub IsIdOf-found : (numbers rest : List ℕ) (number index id : ℕ) → rest ≡ drop 1 numbers → IsNamed number → IsFirstNumber rest number index → id ≡ index + 1
    → IsIdOf numbers number id
IsIdOf-found numbers rest number index zero is named first id_is = absurd (omega (arith, id_is))
IsIdOf-found numbers rest number index (suc k) is named first id_is =
    let same : index ≡ k = omega (arith, id_is) in record {
      means = record {
        is_id = omega arith;
        here = sym (after_first numbers k) ∙ ap (λ (ns : List ℕ). get_or ns k 0) (sym is) ∙ ap (λ (i : ℕ). get_or rest i 0) (sym same) ∙ first.here;
        named = named;
      };
      lowest = λ id below means.
          let there = means_after numbers rest number id is means in
          first.before there.0 (omega (arith, below, there.1, same)) there.2;
    }

pub IsIdOf-none : (numbers rest : List ℕ) (number : ℕ) → rest ≡ drop 1 numbers → IsNamed number
    → ((k : ℕ) → k < length rest → get_or rest k 0 ≢ number) → IsIdOf numbers number 0
IsIdOf-none numbers rest number is named never = λ id means.
    let there = means_after numbers rest number id is means in
    elim (cases_lt there.0 (length rest)) [
      | inl within ↦ never there.0 within there.2
      | inr past ↦ not_zero (subst IsNamed (sym there.2 ∙ get_or_past rest there.0 0 past) named)
    ]

-- an id that means no number has no new one
only_zero : (to : List ℕ) (id : ℕ) → IsIdOf to 0 id → id ≡ 0
only_zero to zero is = refl
only_zero to (suc k) is = absurd (not_zero is.means.named)

module _ (from to bytes : List ℕ) (id number : ℕ) (at : IsNumberAt from id number) (new : IsIdOf to number (get_or bytes id 0)) where
  new_id-meant : (meant : ℕ) → Means from id meant → IsIdOf to meant (get_or bytes id 0)
  new_id-meant meant means = of_number number at new
    where
      of_number : (n : ℕ) → IsNumberAt from id n → IsIdOf to n (get_or bytes id 0) → IsIdOf to meant (get_or bytes id 0)
      of_number zero none is = absurd (none meant means)
      of_number (suc k) some is = subst (λ (n : ℕ). IsIdOf to n (get_or bytes id 0)) (sym some.here ∙ means.here) is

  new_id-other : ((meant : ℕ) → Means from id meant → ⊥) → get_or bytes id 0 ≡ 0
  new_id-other none = of_number number at new
    where
      of_number : (n : ℕ) → IsNumberAt from id n → IsIdOf to n (get_or bytes id 0) → get_or bytes id 0 ≡ 0
      of_number zero never is = only_zero to (get_or bytes id 0) is
      of_number (suc k) some is = absurd (none (suc k) some)

-- the bytes of the ids that were passed are those of their numbers
pub record HaveNewIds (from to bytes : List ℕ) (passed : ℕ) : Type 0 where
  pub many : length bytes ≡ 256
  pub each : (id : ℕ) → id < passed → (number : ℕ) × IsNumberAt from id number × IsIdOf to number (get_or bytes id 0)

pub HaveNewIds-next : (from to bytes : List ℕ) (passed number new : ℕ) → passed < 256 → HaveNewIds from to bytes passed
    → IsNumberAt from passed number → IsIdOf to number new → HaveNewIds from to (set bytes passed new) (passed + 1)
HaveNewIds-next from to bytes passed number new within was at is =
    record { many = length-set bytes passed new ∙ was.many; each = each }
  where
    here : get_or (set bytes passed new) passed 0 ≡ new
    here = get_or-set_same bytes passed new 0 (omega (arith, within, was.many))

    each : (id : ℕ) → id < passed + 1 → (n : ℕ) × IsNumberAt from id n × IsIdOf to n (get_or (set bytes passed new) id 0)
    each id below = elim (cases_lt id passed) [
      | inl earlier ↦
          let before = was.each id earlier in
          (before.0, before.1, subst (IsIdOf to before.0) (sym (get_or-set_other bytes passed id new 0 (omega (arith, earlier)))) before.2)
      | inr later ↦
          let same : passed ≡ id = omega (arith, below, later) in (
            number,
            subst (λ (i : ℕ). IsNumberAt from i number) same at,
            subst (λ (i : ℕ). IsIdOf to number (get_or (set bytes passed new) i 0)) same (subst (IsIdOf to number) (sym here) is),
          )
    ]

-- the next id means no number, and has no new one
pub HaveNewIds-none : (from to bytes : List ℕ) (passed number : ℕ) → number ≡ 0 → IsNumberAt from passed number
    → ((id : ℕ) → passed ≤ id → get_or bytes id 0 ≡ 0) → HaveNewIds from to bytes passed → HaveNewIds from to bytes (passed + 1)
HaveNewIds-none from to bytes passed number none is zeros was = record { many = was.many; each = each }
  where
    each : (id : ℕ) → id < passed + 1 → (number : ℕ) × IsNumberAt from id number × IsIdOf to number (get_or bytes id 0)
    each id below = elim (cases_lt id passed) [
      | inl earlier ↦ was.each id earlier
      | inr later ↦
          let same : passed ≡ id = omega (arith, below, later) in (
            0,
            subst (λ (i : ℕ). IsNumberAt from i 0) same (subst (IsNumberAt from passed) none is),
            subst (IsIdOf to 0) (sym (zeros id later)) (λ other means. not_zero means.named),
          )
    ]

-- no number is meant by the ids from those that were passed up to others
pub HaveNewIds-over : (from to bytes : List ℕ) (passed next : ℕ) → ((id : ℕ) → passed ≤ id → id < next → get_or from id 0 ≡ 0)
    → ((id : ℕ) → passed ≤ id → get_or bytes id 0 ≡ 0) → HaveNewIds from to bytes passed → HaveNewIds from to bytes next
HaveNewIds-over from to bytes passed next none zeros was = record { many = was.many; each = each }
  where
    each : (id : ℕ) → id < next → (number : ℕ) × IsNumberAt from id number × IsIdOf to number (get_or bytes id 0)
    each id below = elim (cases_lt id passed) [
      | inl earlier ↦ was.each id earlier
      | inr later ↦ (
        0,
        λ number means. not_zero (subst IsNamed (sym means.here ∙ none id later below) means.named),
        subst (IsIdOf to 0) (sym (zeros id later)) (λ other means. not_zero means.named),
      )
    ]

pub AreNewIdsOf-all : (from to bytes : List ℕ) (passed : ℕ) → 256 ≤ passed → length from ≡ 256 → HaveNewIds from to bytes passed → AreNewIdsOf from to bytes
AreNewIdsOf-all from to bytes passed all long have = record { meant = meant; others = others }
  where
    past : (id number : ℕ) → 256 ≤ id → Means from id number → ⊥
    past id number above means = not_zero (subst IsNamed (sym means.here ∙ get_or_past from id 0 (omega (arith, above, long))) means.named)

    meant : (id number : ℕ) → Means from id number → IsIdOf to number (get_or bytes id 0)
    meant id number means = elim (cases_lt id 256) [
      | inl below ↦ let here = have.each id (omega (arith, below, all)) in new_id-meant from to bytes id here.0 here.1 here.2 number means
      | inr above ↦ absurd (past id number above means)
    ]

    others : (id : ℕ) → ((number : ℕ) → Means from id number → ⊥) → get_or bytes id 0 ≡ 0
    others id none = elim (cases_lt id 256) [
      | inl below ↦ let here = have.each id (omega (arith, below, all)) in new_id-other from to bytes id here.0 here.1 here.2 none
      | inr above ↦ get_or_past bytes id 0 (omega (arith, above, have.many))
    ]

-- ---- and these carry the kinds

named_kind : (kind : KnownKind) → IsNamed (kind_number kind)
named_kind kind = let low = kind_low (kind_number kind) kind (number_of_kind kind) in inl (low.0, omega (arith, low.1))

-- the number of a kind stands where its extension does
means_kind : (numbers : List ℕ) (id : ℕ) (kind : KnownKind) → extension_at (numbered_slots numbers) id ≡ Some (extension_of_kind kind)
    → Means numbers id (kind_number kind)
means_kind numbers zero kind is = cc
means_kind numbers (suc k) kind is = record { is_id = omega arith; here = numbered_kind numbers (suc k) kind is; named = named_kind kind }

kind_meant : (numbers : List ℕ) (id : ℕ) (kind : KnownKind) → 1 ≤ id → get_or numbers id 0 ≡ kind_number kind
    → extension_at (numbered_slots numbers) id ≡ Some (extension_of_kind kind)
kind_meant numbers id kind is_id here =
    sym (extension_numbered numbers id (Some kind) is_id (sym (ap kind_numbered here ∙ number_of_kind kind)))

-- each extension there is that of a kind
abbrev HasKind : Extension → Type 0
HasKind extension = (kind : KnownKind) × (extension_of_kind kind ≡ extension)

kind_at : (numbers : List ℕ) (id : ℕ) (extension : Extension) → extension_at (numbered_slots numbers) id ≡ Some extension → HasKind extension
kind_at numbers zero extension is = cc
kind_at numbers (suc k) extension is =
    of_found (kind_numbered (get_or numbers (suc k) 0)) (extension_numbered numbers (suc k) (kind_numbered (get_or numbers (suc k) 0)) (omega arith) refl ∙ is)
  where
    of_found : (found : Option KnownKind) → option_map extension_of_kind found ≡ Some extension → HasKind extension
    of_found None none = cc
    of_found (Some kind) some = (kind, one_kind some)

-- the new id in a table
new_in_table : (bytes : List ℕ) (k : ℕ) → new_id (ids_in_bytes bytes) (suc k) ≡ id_in_byte (get_or bytes (suc k) 0)
new_in_table [] k = refl
new_in_table (first ∷ bytes) k = get_or-map id_in_byte bytes k 0

none_first : (bytes : List ℕ) → new_id (ids_in_bytes bytes) 0 ≡ None
none_first [] = refl
none_first (first ∷ bytes) = refl

IsNewId-kind : (from to : List ℕ) (id byte : ℕ) (kind : KnownKind) → extension_at (numbered_slots from) id ≡ Some (extension_of_kind kind)
    → IsIdOf to (kind_number kind) byte → IsNewId (numbered_slots from) (numbered_slots to) id (id_in_byte byte)
IsNewId-kind from to id zero kind is never = λ extension mapped there here.
    let same : extension ≡ extension_of_kind kind = one_kind (sym mapped ∙ is) in
    never there (means_kind to there kind (here ∙ ap Some same))
IsNewId-kind from to id (suc k) kind is found = (
  extension_of_kind kind,
  is,
  record {
    mapped = kind_meant to (suc k) kind (omega arith) found.means.here;
    lowest = λ there below here. found.lowest there below (means_kind to there kind here);
  },
)

-- whether a number is named
named_or_not : (number : ℕ) → IsNamed number ⊎ (IsNamed number → ⊥)
named_or_not number = elim (cases_lt number 128) [
  | inl low ↦ elim (cases_lt number 21) [
    | inl lower ↦ elim (cases_lt 0 number) [
      | inl above ↦ inl (inl (omega (arith, above), omega (arith, lower)))
      | inr none ↦ inr (λ named. elim named [ inl kind ↦ omega (arith, none, kind.0) | inr own ↦ omega (arith, low, own) ])
    ]
    | inr between ↦ inr (λ named. elim named [ inl kind ↦ omega (arith, between, kind.1) | inr own ↦ omega (arith, low, own) ])
  ]
  | inr own ↦ inl (inr own)
]

module _ (from to bytes : List ℕ) (are : AreNewIdsOf from to bytes) where
  -- an id that gets another one means what that means
  kind_before : (k new : ℕ) (kind : KnownKind) → get_or bytes (suc k) 0 ≡ suc new → get_or to (suc new) 0 ≡ kind_number kind
      → get_or from (suc k) 0 ≡ kind_number kind
  kind_before k new kind byte here = elim (named_or_not (get_or from (suc k) 0)) [
    | inl named ↦
        let found : IsLowestOf to (get_or from (suc k) 0) (suc new) =
        subst (IsIdOf to (get_or from (suc k) 0)) byte (are.meant (suc k) (get_or from (suc k) 0) (record { is_id = omega arith; here = refl; named = named })) in
        sym found.means.here ∙ here
    | inr not_named ↦
        let none = are.others (suc k) (λ number means. not_named (subst IsNamed (sym means.here) means.named)) in
        absurd (omega (arith, none, byte))
  ]

  mapped_new : (id : ℕ) (extension : Extension) → extension_at (numbered_slots from) id ≡ Some extension
      → IsNewId (numbered_slots from) (numbered_slots to) id (new_id (ids_in_bytes bytes) id)
  mapped_new zero extension is = cc
  mapped_new (suc k) extension is =
      let has = kind_at from (suc k) extension is in
      let kind_is : extension_at (numbered_slots from) (suc k) ≡ Some (extension_of_kind has.0) = is ∙ ap Some (sym has.1) in
      subst (IsNewId (numbered_slots from) (numbered_slots to) (suc k)) (sym (new_in_table bytes k))
      (IsNewId-kind from to (suc k) (get_or bytes (suc k) 0) has.0 kind_is (are.meant (suc k) (kind_number has.0) (means_kind from (suc k) has.0 kind_is)))

  -- the byte of a new id
  byte_is : (byte new : ℕ) → id_in_byte byte ≡ Some new → byte ≡ new
  byte_is zero new is = cc
  byte_is (suc k) new is = cc

  kept : (id new : ℕ) (extension : Extension) → new_id (ids_in_bytes bytes) id ≡ Some new → extension_at (numbered_slots to) new ≡ Some extension
      → extension_at (numbered_slots from) id ≡ Some extension
  kept zero new extension is there = let none = sym (none_first bytes) ∙ is in cc
  kept (suc k) zero extension is there = cc
  kept (suc k) (suc new) extension is there =
      let has = kind_at to (suc new) extension there in
      let byte : get_or bytes (suc k) 0 ≡ suc new = byte_is (get_or bytes (suc k) 0) (suc new) (sym (new_in_table bytes k) ∙ is) in
      kind_meant from (suc k) has.0 (omega arith)
      (kind_before k new has.0 byte (numbered_kind to (suc new) has.0 (there ∙ ap Some (sym has.1))))
      ∙ ap Some has.1

  carried : CarriesExtensions (numbered_slots from) (numbered_slots to) (ids_in_bytes bytes)
  carried = record {
    mapped = mapped_new;
    others = kept;
  }

  pub CarryKinds-new : CarryKinds from to bytes
  CarryKinds-new = record {
    before = numbered_slots from;
    has_before = HasKinds-numbered from;
    after = numbered_slots to;
    has_after = HasKinds-numbered to;
    carried = carried;
  }
