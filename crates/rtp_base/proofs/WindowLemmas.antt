-- Which sets a window keeps: as it is made, as a number is refused, and always some set.
use Rattle.rtp_base.proofs.Common.{◌≡◌, ◌+◌, ◌-◌, ◌^◌, ◌<◌, ◌≤◌, ◌↔◌, nat_eq, ℕ, Bool, true, false, ◌||◌, ◌&&◌, leb, ltb, List, get_or, inl, inr, refl, sym, ap, ◌∙◌, arith, le-leb, leb-true, lt-ltb, and_parts, or_cases, or_left, cases_Bool, cases_lt, cases_eq, eqb-true, eq-eqb, ne_eqb, Numbers, WindowState, window_size, only, up_to, including, IsGreatest, KeepsOf, Keeps, AcceptsOf, Accepts, bits_of}
use Rattle.rtp_base.proofs.BitmapLemmas.{or-none, or-already, one-first, one-others, ones-at}

-- a window in which its greatest number alone is recorded
pub KeepsOf-only : (size number : ℕ) (recorded : List Bool) → get_or recorded 0 false ≡ true → ((k : ℕ) → 0 < k → k < size → get_or recorded k false ≡ false)
    → KeepsOf size (record { greatest = number; recorded = recorded }) (only number)
KeepsOf-only size number recorded first others = record {
  top = record { member = eq-eqb number number refl; top = λ n is. let same = eqb-true n number is in omega arith };
  recorded = λ n low near. elim (cases_eq n number) [
    | inl same ↦ ap (λ k. get_or recorded k false) (let e : number - n ≡ 0 = omega arith in e) ∙ first ∙ sym (eq-eqb n number same)
    | inr other ↦ others (number - n) (omega arith) (omega arith) ∙ sym (ne_eqb n number other)
  ];
}

-- a window in which each number is recorded
pub KeepsOf-up_to : (size number : ℕ) (recorded : List Bool) → ((k : ℕ) → k < size → get_or recorded k false ≡ true)
    → KeepsOf size (record { greatest = number; recorded = recorded }) (up_to number)
KeepsOf-up_to size number recorded all = record {
  top = record { member = le-leb number number (omega arith); top = λ n is. leb-true n number is };
  recorded = λ n low near. all (number - n) (omega arith) ∙ sym (le-leb n number low);
}

pub Keeps-only : (number : ℕ) → Keeps (record { greatest = number; recorded = bits_of 1 }) (only number)
Keeps-only number = KeepsOf-only window_size number (bits_of 1) one-first one-others

pub Keeps-up_to : (number : ℕ) → Keeps (record { greatest = number; recorded = bits_of (2 ^ 128 - 1) }) (up_to number)
Keeps-up_to number = KeepsOf-up_to window_size number (bits_of (2 ^ 128 - 1)) ones-at

-- the greatest number of a set stays with a lower one more
pub greatest_stays : (numbers : Numbers) (greatest number : ℕ) → IsGreatest numbers greatest → number ≤ greatest → IsGreatest (including numbers number) greatest
greatest_stays numbers greatest number top low = record {
  member = or_left (numbers greatest) (nat_eq greatest number) top.member;
  top = λ n is. elim (or_cases (numbers n) (nat_eq n number) is) [
    | inl member ↦ top.top n member
    | inr same ↦ let e = eqb-true n number same in omega arith
  ];
}

-- a number at most the greatest is accepted where it is less than the size below it and not in the set
pub AcceptsOf-low : (size greatest : ℕ) (taken : Numbers) (number : ℕ) → IsGreatest taken greatest → number ≤ greatest
    → AcceptsOf size taken number ↔ ((greatest < number + size) × (taken number ≡ false))
AcceptsOf-low size greatest taken number top low = (
  λ accepted.
      let same : accepted.greatest ≡ greatest =
      (let below = top.top accepted.greatest accepted.is_greatest.member in let above = accepted.is_greatest.top greatest top.member in omega arith)
      in
      elim accepted.above_or_new [ inl above ↦ absurd (omega arith) | inr (near, none) ↦ (omega arith, none) ],
  λ (near, none). record { greatest = greatest; is_greatest = top; above_or_new = inr (near, none) },
)

-- a number that is refused is in the set, or too far below for the window
pub KeepsOf-refused : (size : ℕ) (window : WindowState) (taken : Numbers) (number : ℕ) → KeepsOf size window taken → (AcceptsOf size taken number → ⊥) → KeepsOf size window (including taken number)
KeepsOf-refused size window taken number keeps refused =
    let low : number ≤ window.greatest =
    elim (cases_lt window.greatest number) [
      | inl above ↦ absurd (refused (record { greatest = window.greatest; is_greatest = keeps.top; above_or_new = inl above }))
      | inr low ↦ low
    ]
    in
    record {
      top = greatest_stays taken window.greatest number keeps.top low;
      recorded = λ n n-low near. keeps.recorded n n-low near ∙ elim (cases_eq n number) [
        | inl same ↦ or-already taken number n (elim (cases_Bool (taken number)) [
          | inl member ↦ member
          | inr none ↦ absurd (refused (record { greatest = window.greatest; is_greatest = keeps.top; above_or_new = inr (omega (arith, same, near), none) }))
        ])
        | inr other ↦ sym (or-none (taken n) (nat_eq n number) (ne_eqb n number other))
      ];
    }

pub Keeps-refused : (window : WindowState) (taken : Numbers) (number : ℕ) → Keeps window taken → (Accepts taken number → ⊥) → Keeps window (including taken number)
Keeps-refused = KeepsOf-refused window_size

-- a number of the window, at most the greatest, is recorded
pub KeepsOf-recorded : (size greatest : ℕ) (old new : List Bool) (taken : Numbers) (number : ℕ)
    → KeepsOf size (record { greatest = greatest; recorded = old }) taken → number ≤ greatest
    → ((k : ℕ) → k < size → get_or new k false ≡ (get_or old k false || nat_eq k (greatest - number)))
    → KeepsOf size (record { greatest = greatest; recorded = new }) (including taken number)
KeepsOf-recorded size greatest old new taken number keeps low recorded = record {
  top = greatest_stays taken greatest number keeps.top low;
  recorded = λ n n-low near.
      recorded (greatest - n) (omega arith)
      ∙ ap (λ b. b || nat_eq (greatest - n) (greatest - number)) (keeps.recorded n n-low near)
      ∙ ap (λ b. taken n || b) (elim (cases_eq n number) [
        | inl same ↦ eq-eqb (greatest - n) (greatest - number) (omega arith) ∙ sym (eq-eqb n number same)
        | inr other ↦ ne_eqb (greatest - n) (greatest - number) (λ e. other (omega arith)) ∙ sym (ne_eqb n number other)
      ]);
}

-- the greatest number is recorded
pub KeepsOf-first : (size greatest : ℕ) (recorded : List Bool) (taken : Numbers) → 0 < size → KeepsOf size (record { greatest = greatest; recorded = recorded }) taken → get_or recorded 0 false ≡ true
KeepsOf-first size greatest recorded taken some keeps =
    ap (λ k. get_or recorded k false) (let e : 0 ≡ greatest - greatest = omega arith in e) ∙ keeps.recorded greatest (omega arith) (omega arith) ∙ keeps.top.member

-- the numbers that are recorded
shown : ℕ → ℕ → List Bool → Numbers
shown size greatest recorded = λ n. leb n greatest && (ltb greatest (n + size) && get_or recorded (greatest - n) false)

pub KeepsOf-shown : (size greatest : ℕ) (recorded : List Bool) → 0 < size → get_or recorded 0 false ≡ true
    → (taken : Numbers) × KeepsOf size (record { greatest = greatest; recorded = recorded }) taken
unfolding shown
KeepsOf-shown size greatest recorded some first = (
  shown size greatest recorded,
  record {
    top = record {
      member = rw (le-leb greatest greatest (omega arith), lt-ltb greatest (greatest + size) (omega arith)) (let here : greatest - greatest ≡ 0 = omega arith in rw here first);
      top = λ n is. leb-true n greatest (and_parts (leb n greatest) (ltb greatest (n + size) && get_or recorded (greatest - n) false) is).0;
    };
    recorded = λ n low near. rw (le-leb n greatest low, lt-ltb greatest (n + size) near) refl;
  },
)

pub Keeps-shown : (greatest : ℕ) (recorded : List Bool) → get_or recorded 0 false ≡ true
    → (taken : Numbers) × Keeps (record { greatest = greatest; recorded = recorded }) taken
Keeps-shown greatest recorded = KeepsOf-shown window_size greatest recorded (omega arith)
