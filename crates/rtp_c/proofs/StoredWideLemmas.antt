-- A window in words that the caller has: what it accepts, what it keeps once a number is taken, and that it always keeps some set.
use Rattle.rtp_c.proofs.Common.{◌≡◌, ◌≢◌, ℕ, ◌+◌, ◌-◌, ◌*◌, ◌<◌, ◌⊎◌, ◌↔◌, IsTrue, nat_eq, Bool, true, false, ◌||◌, List, [], ◌∷◌, length, get_or, map, inl, inr, refl, sym, ap, ◌∙◌, subst, arith, eq-eqb, ne_eqb, or_right, false≢true, cases_lt, cases_eq, get_or-map-range_with_len, range_with_len, Numbers, WindowState, IsGreatest, KeepsOf, AcceptsOf, only, including, AcceptsOf-low, KeepsOf-first, KeepsOf-shown, IsNothing, IsFreshOf, HoldsWindow, HoldsStored}
use Rattle.rtp_c.specs.declared.wide_receiver.StoredWideReceiver.{StoredWideReceiver}
use Rattle.rtp_c.specs.StoredWideReceiver.{HoldsIn}
use Rattle.rtp_base.specs.Ring.{ring_size, ring_bit, ring_bits, ring_window}
use Rattle.rtp_base.proofs.RingLemmas.{ring_bits-near}
use Rattle.rtp_base.proofs.BitmapLemmas.{or-none}

-- a set with a greatest number is not empty
pub some : (taken : Numbers) (greatest : ℕ) → IsGreatest taken greatest → IsNothing taken → ⊥
some taken greatest is none = false≢true (sym (none greatest) ∙ is.member)

-- ---- which set the words keep

-- the set is kept by the highest number that is stored
pub kept : (size highest : ℕ) (bits : List Bool) (taken : Numbers) (held : HoldsWindow size highest bits taken) → KeepsOf size (record { greatest = highest; recorded = held.window.recorded }) taken
kept size highest bits taken held =
    subst (λ (n : ℕ). KeepsOf size (record { greatest = n; recorded = held.window.recorded }) taken) held.is_window.greatest_is held.keeps

-- a receiver that refuses a number has a greatest one
pub top_refused : (receiver : StoredWideReceiver) (words : List ℕ) (count : ℕ) (taken : Numbers) (number : ℕ) → HoldsIn receiver words count taken → (IsFreshOf (ring_size words) taken number → ⊥)
    → IsGreatest taken receiver.highest
top_refused receiver words count taken number (inl empty) refused = absurd (refused (inl empty.2))
top_refused receiver words count taken number (inr held) refused = (kept (ring_size words) receiver.highest (ring_bits words receiver.highest) taken held.1).top

-- and by any bits that show the same
pub KeepsOf-bits : (size highest : ℕ) (old new : List Bool) (taken : Numbers) → ((k : ℕ) → k < size → get_or new k false ≡ get_or old k false)
    → KeepsOf size (record { greatest = highest; recorded = old }) taken → KeepsOf size (record { greatest = highest; recorded = new }) taken
KeepsOf-bits size highest old new taken same keeps = record {
  top = keeps.top;
  recorded = λ n low near. same (highest - n) (omega arith) ∙ keeps.recorded n low near;
}

-- a window keeps each set that has the same numbers
KeepsOf-set : (size : ℕ) (window : WindowState) (old new : Numbers) → ((n : ℕ) → new n ≡ old n) → KeepsOf size window old → KeepsOf size window new
KeepsOf-set size window old new same keeps = record {
  top = record { member = same window.greatest ∙ keeps.top.member; top = λ n is. keeps.top.top n (sym (same n) ∙ is) };
  recorded = λ n low near. keeps.recorded n low near ∙ sym (same n);
}

-- a window that keeps a set is stored as it is
pub HoldsWindow-kept : (words : List ℕ) (highest : ℕ) (taken : Numbers) → 0 < length words → KeepsOf (ring_size words) (ring_window words highest) taken
    → HoldsWindow (ring_size words) highest (ring_bits words highest) taken
HoldsWindow-kept words highest taken words-some keeps =
    let first : get_or (ring_bits words highest) 0 false ≡ true = KeepsOf-first (ring_size words) highest (ring_bits words highest) taken (omega arith) keeps in
    record {
      window = ring_window words highest;
      is_window = record {
        greatest_is = refl;
        recorded_are = λ k below. elim (cases_eq k 0) [
          | inl is ↦
              ap (λ (i : ℕ). get_or (ring_bits words highest) i false) is ∙ first
              ∙ sym (or_right (get_or (ring_bits words highest) k false) (nat_eq k 0) (eq-eqb k 0 is))
          | inr other ↦ sym (or-none (get_or (ring_bits words highest) k false) (nat_eq k 0) (ne_eqb k 0 other))
        ];
      };
      keeps = keeps;
    }

pub HoldsStored-kept : (words : List ℕ) (highest count : ℕ) (taken : Numbers) → 0 < length words → KeepsOf (ring_size words) (ring_window words highest) taken
    → HoldsStored (ring_size words) highest (ring_bits words highest) 1 count taken
HoldsStored-kept words highest count taken words-some keeps = inr (omega arith, HoldsWindow-kept words highest taken words-some keeps)

-- there are words where the highest number is recorded
some_words : (words : List ℕ) (highest : ℕ) → get_or (ring_bits words highest) 0 false ≡ true → 0 < length words
unfolding ring_bits
some_words [] highest recorded = absurd (false≢true recorded)
some_words (word ∷ words) highest recorded = omega arith

-- the highest number's bit is set where the window records it
pub highest_bit : (words : List ℕ) (highest : ℕ) → get_or (ring_bits words highest) 0 false ≡ true → ring_bit words highest ≡ true
highest_bit words highest recorded =
    let words-some = some_words words highest recorded in
    ap (ring_bit words) (let e : highest ≡ highest - 0 = omega arith in e) ∙ sym (ring_bits-near words highest 0 (omega arith) (omega arith)) ∙ recorded

-- a window that keeps a set has it set
pub first_bit : (words : List ℕ) (highest : ℕ) (taken : Numbers) → 0 < length words → KeepsOf (ring_size words) (ring_window words highest) taken → ring_bit words highest ≡ true
first_bit words highest taken words-some keeps = highest_bit words highest (KeepsOf-first (ring_size words) highest (ring_bits words highest) taken (omega arith) keeps)

-- each stored window keeps some set
pub HoldsWindow-some : (size highest : ℕ) (bits : List Bool) → 0 < size → (taken : Numbers) × HoldsWindow size highest bits taken
HoldsWindow-some size highest bits size-some =
    let recorded : List Bool = map (λ i. get_or bits i false || nat_eq i 0) (range_with_len 0 size) in
    let at : (k : ℕ) → k < size → get_or recorded k false ≡ (get_or bits k false || nat_eq k 0) =
    λ k below. get_or-map-range_with_len (λ i. get_or bits i false || nat_eq i 0) 0 size k k false below (omega arith) in
    let shown = KeepsOf-shown size highest recorded size-some (at 0 size-some ∙ or_right (get_or bits 0 false) (nat_eq 0 0) refl) in
    (shown.0, record { window = record { greatest = highest; recorded = recorded }; is_window = record { greatest_is = refl; recorded_are = at }; keeps = shown.1 })

-- ---- what the words accept

-- a number below the highest has its own bit
own_bit : (words : List ℕ) (highest number : ℕ) (taken : Numbers) → HoldsWindow (ring_size words) highest (ring_bits words highest) taken
    → number < highest → highest < number + ring_size words → ring_bit words number ≡ taken number
own_bit words highest number taken held low near =
    let k : ℕ = highest - number in
    ap (ring_bit words) (let e : number ≡ highest - (highest - number) = omega arith in e)
    ∙ sym (ring_bits-near words highest (highest - number) (omega arith) (omega arith))
    ∙ sym (or-none (get_or (ring_bits words highest) (highest - number) false) (nat_eq (highest - number) 0) (ne_eqb (highest - number) 0 (λ e. omega arith)))
    ∙ sym (held.is_window.recorded_are (highest - number) (omega arith))
    ∙ (kept (ring_size words) highest (ring_bits words highest) taken held).recorded number (omega arith) near

pub stored-accepts : (words : List ℕ) (highest number : ℕ) (taken : Numbers) (outcome : Bool) → number ≢ highest
    → HoldsWindow (ring_size words) highest (ring_bits words highest) taken
    → IsTrue outcome ↔ ((highest < number) ⊎ ((highest < number + ring_size words) × (ring_bit words number ≡ false)))
    → IsTrue outcome ↔ IsFreshOf (ring_size words) taken number
stored-accepts words highest number taken outcome other held is =
    let top = (kept (ring_size words) highest (ring_bits words highest) taken held).top in (
      λ yes. elim (is.0 yes) [
        | inl above ↦ inr (record { greatest = highest; is_greatest = top; above_or_new = inl above })
        | inr near ↦ elim (cases_lt highest number) [
          | inl above ↦ inr (record { greatest = highest; is_greatest = top; above_or_new = inl above })
          | inr low ↦ inr ((AcceptsOf-low (ring_size words) highest taken number top low).1
              (near.0, sym (own_bit words highest number taken held (omega (arith, other)) near.0) ∙ near.1))
        ]
      ],
      λ fresh. is.1 (elim fresh [
        | inl none ↦ absurd (some taken highest top none)
        | inr accepted ↦ elim (cases_lt highest number) [
          | inl above ↦ inl above
          | inr low ↦
              let near = (AcceptsOf-low (ring_size words) highest taken number top low).0 accepted in
              inr (near.0, own_bit words highest number taken held (omega (arith, other)) near.0 ∙ near.1)
        ]
      ]),
    )

-- ---- a number taken

-- the first one
pub first-kept : (old new : List ℕ) (number : ℕ) (taken : Numbers) → length new ≡ length old → IsNothing taken → KeepsOf (ring_size old) (ring_window new number) (only number)
    → KeepsOf (ring_size new) (ring_window new number) (including taken number)
first-kept old new number taken same none keeps =
    subst (λ (n : ℕ). KeepsOf (64 * n) (ring_window new number) (including taken number)) (sym same)
    (KeepsOf-set (ring_size old) (ring_window new number) (only number) (including taken number) (λ n. ap (λ (b : Bool). b || nat_eq n number) (none n)) keeps)

restored-kept : (old new : List ℕ) (highest : ℕ) (taken : Numbers) → HoldsWindow (ring_size old) highest (ring_bits old highest) taken
    → ((k : ℕ) → k < ring_size old → get_or (ring_bits new highest) k false ≡ (get_or (ring_bits old highest) k false || nat_eq k 0))
    → KeepsOf (ring_size old) (ring_window new highest) taken
restored-kept old new highest taken held recorded =
    KeepsOf-bits (ring_size old) highest held.window.recorded (ring_bits new highest) taken (λ k below. recorded k below ∙ sym (held.is_window.recorded_are k below))
    (kept (ring_size old) highest (ring_bits old highest) taken held)

-- a later one, once the bit of the highest number is set
pub later-kept : (old mid new : List ℕ) (highest number after : ℕ) (taken : Numbers) (outcome : Bool) → length mid ≡ length old → length new ≡ length old
    → HoldsWindow (ring_size old) highest (ring_bits old highest) taken
    → ((k : ℕ) → k < ring_size old → get_or (ring_bits mid highest) k false ≡ (get_or (ring_bits old highest) k false || nat_eq k 0))
    → ((set : Numbers) → KeepsOf (ring_size mid) (ring_window mid highest) set → IsTrue outcome ↔ AcceptsOf (ring_size mid) set number)
    → ((set : Numbers) → KeepsOf (ring_size mid) (ring_window mid highest) set → IsTrue outcome → KeepsOf (ring_size mid) (ring_window new after) (including set number))
    → IsFreshOf (ring_size old) taken number → KeepsOf (ring_size new) (ring_window new after) (including taken number)
later-kept old mid new highest number after taken outcome mid-len new-len held restored accepts recorded fresh =
    let keeps = restored-kept old mid highest taken held restored in
    let accepted : AcceptsOf (ring_size old) taken number = elim fresh [ inl none ↦ absurd (some taken highest keeps.top none) | inr accepted ↦ accepted ] in
    let there : KeepsOf (ring_size mid) (ring_window mid highest) taken = subst (λ (n : ℕ). KeepsOf (64 * n) (ring_window mid highest) taken) (sym mid-len) keeps in
    let taken' = recorded taken there ((accepts taken there).1 (subst (λ (n : ℕ). AcceptsOf (64 * n) taken number) (sym mid-len) accepted)) in
    subst (λ (n : ℕ). KeepsOf (64 * n) (ring_window new after) (including taken number)) (mid-len ∙ sym new-len) taken'

-- where branches join
pub kept_there : (made joined : List ℕ) (at here : ℕ) (set : Numbers) → joined ≡ made → here ≡ at → KeepsOf (ring_size made) (ring_window made at) set
    → KeepsOf (ring_size joined) (ring_window joined here) set
kept_there made joined at here set words highest keeps =
    subst (λ (ws : List ℕ). KeepsOf (ring_size ws) (ring_window ws here) set) (sym words)
    (subst (λ (h : ℕ). KeepsOf (ring_size made) (ring_window made h) set) (sym highest) keeps)

-- ---- the empty set

pub none : Numbers
none = λ n. false

pub nothing : IsNothing none
unfolding none
nothing n = refl
