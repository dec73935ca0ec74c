-- The verdicts of a run are those of the true numbers.
use Rattle.std.proofs.Common.{◌≡◌, nat_eq, ℕ, zero, suc, ◌+◌, ◌%◌, ◌^◌, ◌<◌, ◌≤◌, Bool, true, false, ◌||◌, eqb, List, [], ◌∷◌, ◌++◌, length, take, get_or, refl, sym, ap, ◌∙◌, subst, inl, inr, arith, length-take-le}
use Rattle.std.specs.Prelude.{Option, Some, None, IfSome}
use Rattle.std.proofs.lemmas.Bool.{eq-eqb, eqb-true, cases_lt, cases_eq, ne_eqb, false≢true, or_left, or_right, or_cases, true_from_ne_false}
use Rattle.std.proofs.lemmas.List.{take_more}
use Rattle.rtp_base.specs.Window.{Numbers, IsGreatest, Accepts, including}
use Rattle.rtp_base.proofs.WindowLemmas.{greatest_stays}
use Rattle.rtp_receive.specs.declared.receiver.Verdict.{Verdict}
use Rattle.rtp_receive.specs.declared.receiver.Verdict.TheVariants.{Unreadable, Taken, Refused}
use Rattle.rtp_receive.specs.Widening.{IsNearest}
use Rattle.rtp_receive.specs.Receiver.{IsNothing, IsHighest, ExtendsFrom, IsNumberOf, IsFresh, taken_after}
use Rattle.rtp_receive.specs.Verdicts.{PacketId, taken_by, IsVerdict, IsRun}
use Rattle.rtp_receive.specs.TrueNumbers.{IsInReach, IsTrueNumber, numbers_of, AreTrueNumbers, IsTrueVerdict, AreTrueVerdicts}
use Rattle.rtp_receive.proofs.ReceiverLemmas.{not_nothing}
use Rattle.rtp_receive.proofs.VerdictLemmas.{or_assoc, or_false, taken_by-push}
use Rattle.rtp_receive.proofs.NearestLemmas.{only_near, Extends-within_half}

-- ---- the number of a packet

-- a number within reach of the highest one is the extended number of its 16 bits
pub number_within : (count : ℕ) (highest : Option ℕ) (low number near : ℕ) → IfSome highest (λ h. h < 2 ^ 64) → number < 2 ^ 64 → number % 65536 ≡ low
    → IsInReach count highest number → ExtendsFrom count highest low near → near ≡ number
number_within count None low number near fits whole ends within is = omega (arith, is, ends, within.0, within.1)
number_within count (Some h) low number near fits whole ends within is =
    only_near 16 (Some h) low near number (omega arith) (omega arith) fits is
    (Extends-within_half 16 (Some h) low number (whole, omega (arith, ends), omega (arith, within.0, within.1)))

pub one_greatest : (numbers : Numbers) (a b : ℕ) → IsGreatest numbers a → IsGreatest numbers b → a ≡ b
one_greatest numbers a b first second = let low = second.top a first.member in let high = first.top b second.member in omega arith

pub one_highest : (numbers : Numbers) (a b : Option ℕ) → IsHighest numbers a → IsHighest numbers b → a ≡ b
one_highest numbers None None first second = refl
one_highest numbers None (Some b) first second = absurd (not_nothing numbers b second first)
one_highest numbers (Some a) None first second = absurd (not_nothing numbers a first second)
one_highest numbers (Some a) (Some b) first second = ap Some (one_greatest numbers a b first second)

-- ---- what is taken, and the true numbers

-- what is taken and the true numbers have the same highest number, and are the same near it
record AgreesNear (taken numbers : Numbers) (highest : ℕ) : Type 0 where
  pub fits : highest < 2 ^ 64
  pub taken_top : IsGreatest taken highest
  pub numbers_top : IsGreatest numbers highest
  pub same : (n : ℕ) → highest < n + 128 → taken n ≡ numbers n

abbrev Agrees : Numbers → Numbers → Option ℕ → Type 0
Agrees taken numbers None = IsNothing taken × IsNothing numbers
Agrees taken numbers (Some highest) = AgreesNear taken numbers highest

-- the numbers after a place
abbrev pub numbers_after : Numbers → Option PacketId → ℕ → Numbers
numbers_after numbers None number = numbers
numbers_after numbers (Some packet_id) number = including numbers number

highest_of : (taken numbers : Numbers) (highest : Option ℕ) → Agrees taken numbers highest → IsHighest taken highest × IsHighest numbers highest
highest_of taken numbers None agrees = agrees
highest_of taken numbers (Some h) agrees = (agrees.taken_top, agrees.numbers_top)

fits_of : (taken numbers : Numbers) (highest : Option ℕ) → Agrees taken numbers highest → IfSome highest (λ h. h < 2 ^ 64)
fits_of taken numbers None agrees = tt
fits_of taken numbers (Some h) agrees = agrees.fits

-- the extended number of a packet is its true number
one_number : (count : ℕ) (taken numbers : Numbers) (highest : Option ℕ) (low number near : ℕ) → Agrees taken numbers highest → IsTrueNumber count numbers low number
    → IsNumberOf count taken low near → near ≡ number
one_number count taken numbers highest low number near agrees is of =
    let tops = highest_of taken numbers highest agrees in
    number_within count highest low number near (fits_of taken numbers highest agrees) is.fits is.ends
    (subst (λ h. IsInReach count h number) (one_highest numbers is.highest highest is.is_highest tops.1) is.within)
    (subst (λ h. ExtendsFrom count h low near) (one_highest taken of.0 highest of.1 tops.0) of.2)

-- the number nearest to the highest one is the true number
pub number_in_reach : (count : ℕ) (numbers : Numbers) (highest low number near : ℕ) → highest < 2 ^ 64 → IsGreatest numbers highest → IsTrueNumber count numbers low number
    → IsNearest 16 highest low near → near ≡ number
number_in_reach count numbers highest low number near fits top is nearest =
    number_within count (Some highest) low number near fits is.fits is.ends
    (subst (λ h. IsInReach count h number) (one_highest numbers is.highest (Some highest) is.is_highest top) is.within) nearest

-- a number may be taken after the one exactly where it may after the other
Accepts-same : (taken numbers : Numbers) (highest number : ℕ) → IsGreatest taken highest → IsGreatest numbers highest
    → ((n : ℕ) → highest < n + 128 → numbers n ≡ taken n) → Accepts taken number → Accepts numbers number
Accepts-same taken numbers highest number top other same accepts =
    let here = one_greatest taken accepts.greatest highest accepts.is_greatest top in
    record {
      greatest = highest;
      is_greatest = other;
      above_or_new = elim accepts.above_or_new [
        | inl above ↦ inl (omega arith)
        | inr new ↦ inr (omega (arith, new.0), same number (omega (arith, new.0)) ∙ new.1)
      ];
    }

fresh_there : (taken numbers : Numbers) (highest : Option ℕ) (number : ℕ) → Agrees taken numbers highest → IsFresh taken number → IsFresh numbers number
fresh_there taken numbers None number agrees fresh = inl agrees.1
fresh_there taken numbers (Some h) number agrees (inl none) = absurd (not_nothing taken h agrees.taken_top none)
fresh_there taken numbers (Some h) number agrees (inr accepts) =
    inr (Accepts-same taken numbers h number agrees.taken_top agrees.numbers_top (λ n near. sym (agrees.same n near)) accepts)

fresh_here : (taken numbers : Numbers) (highest : Option ℕ) (number : ℕ) → Agrees taken numbers highest → IsFresh numbers number → IsFresh taken number
fresh_here taken numbers None number agrees fresh = inl agrees.0
fresh_here taken numbers (Some h) number agrees (inl none) = absurd (not_nothing numbers h agrees.numbers_top none)
fresh_here taken numbers (Some h) number agrees (inr accepts) =
    inr (Accepts-same numbers taken h number agrees.numbers_top agrees.taken_top agrees.same accepts)

-- ---- one number more

including-self : (numbers : Numbers) (number : ℕ) → including numbers number number ≡ true
including-self numbers number = or_right (numbers number) (nat_eq number number) (eq-eqb number number refl)

pub greatest_of_none : (numbers : Numbers) (number : ℕ) → IsNothing numbers → IsGreatest (including numbers number) number
greatest_of_none numbers number none = record {
  member = including-self numbers number;
  top = λ n is. elim (or_cases (numbers n) (nat_eq n number) is) [
    | inl member ↦ absurd (false≢true (sym (none n) ∙ member))
    | inr same ↦ let e = eqb-true n number same in omega arith
  ];
}

greatest_above : (numbers : Numbers) (highest number : ℕ) → IsGreatest numbers highest → highest < number → IsGreatest (including numbers number) number
greatest_above numbers highest number top above = record {
  member = including-self numbers number;
  top = λ n is. elim (or_cases (numbers n) (nat_eq n number) is) [
    | inl member ↦ let low = top.top n member in omega arith
    | inr same ↦ let e = eqb-true n number same in omega arith
  ];
}

Agrees-taken : (taken numbers : Numbers) (highest : Option ℕ) (number : ℕ) → number < 2 ^ 64 → Agrees taken numbers highest
    → (after : Option ℕ) × Agrees (including taken number) (including numbers number) after
Agrees-taken taken numbers None number fits agrees = (
  Some number,
  record {
    fits = fits;
    taken_top = greatest_of_none taken number agrees.0;
    numbers_top = greatest_of_none numbers number agrees.1;
    same = λ n near. ap (λ (b : Bool). b || nat_eq n number) (agrees.0 n ∙ sym (agrees.1 n));
  },
)
Agrees-taken taken numbers (Some h) number fits agrees = elim (cases_lt h number) [
  | inl above ↦ (
    Some number,
    record {
      fits = fits;
      taken_top = greatest_above taken h number agrees.taken_top above;
      numbers_top = greatest_above numbers h number agrees.numbers_top above;
      same = λ n near. ap (λ (b : Bool). b || nat_eq n number) (agrees.same n (omega arith));
    },
  )
  | inr low ↦ (
    Some h,
    record {
      fits = agrees.fits;
      taken_top = greatest_stays taken h number agrees.taken_top low;
      numbers_top = greatest_stays numbers h number agrees.numbers_top low;
      same = λ n near. ap (λ (b : Bool). b || nat_eq n number) (agrees.same n near);
    },
  )
]

not_this : (a b : Bool) → b ≡ false → (a || b) ≡ a
not_this true b none = refl
not_this false b none = none

-- a number that is refused is one of the numbers near the highest, or far below it
Agrees-refused : (taken numbers : Numbers) (highest : Option ℕ) (number : ℕ) → Agrees taken numbers highest → (IsFresh numbers number → ⊥)
    → Agrees taken (including numbers number) highest
Agrees-refused taken numbers None number agrees refused = absurd (refused (inl agrees.1))
Agrees-refused taken numbers (Some h) number agrees refused =
    let low : number ≤ h =
    elim (cases_lt h number) [
      | inl above ↦ absurd (refused (inr (record { greatest = h; is_greatest = agrees.numbers_top; above_or_new = inl above })))
      | inr low ↦ low
    ]
    in
    record {
      fits = agrees.fits;
      taken_top = agrees.taken_top;
      numbers_top = greatest_stays numbers h number agrees.numbers_top low;
      same = λ n near. agrees.same n near ∙ elim (cases_eq n number) [
        | inl same ↦
            let there : numbers n ≡ true =
            true_from_ne_false (numbers n) (λ none. refused (inr (record { greatest = h; is_greatest = agrees.numbers_top; above_or_new = inr (omega (arith, near, same), ap numbers (sym same) ∙ none) })))
            in
            there ∙ sym (or_left (numbers n) (nat_eq n number) there)
        | inr other ↦ sym (not_this (numbers n) (nat_eq n number) (ne_eqb n number other))
      ];
    }

-- ---- a place

-- the verdict on a packet is that of its true number, and what is taken and the true numbers agree after it
record IsKept (taken numbers : Numbers) (packet_id : Option PacketId) (number : ℕ) (verdict : Verdict) : Type 0 where
  pub is : IsTrueVerdict numbers packet_id number verdict
  pub highest : Option ℕ
  pub agrees : Agrees (taken_after taken verdict) (numbers_after numbers packet_id number) highest

kept : (count : ℕ) (taken numbers : Numbers) (highest : Option ℕ) (packet_id : Option PacketId) (number : ℕ) (verdict : Verdict) → Agrees taken numbers highest
    → IfSome packet_id (λ r. IsTrueNumber count numbers r.low number) → IsVerdict count taken packet_id verdict → IsKept taken numbers packet_id number verdict
kept count taken numbers highest None number verdict agrees is judged = record {
  is = judged;
  highest = highest;
  agrees = subst (λ v. Agrees (taken_after taken v) numbers highest) (sym judged) agrees;
}
kept count taken numbers highest (Some packet_id) number (Taken n) agrees is judged =
    let here : n ≡ number = judged.2.0 ∙ one_number count taken numbers highest packet_id.low number judged.0 agrees is judged.1 in
    let fresh = subst (IsFresh taken) (sym judged.2.0 ∙ here) judged.2.1 in
    let after = Agrees-taken taken numbers highest number is.fits agrees in
    record {
      is = (here, fresh_there taken numbers highest number agrees fresh);
      highest = after.0;
      agrees = subst (λ k. Agrees (including taken k) (including numbers number) after.0) (sym here) after.1;
    }
kept count taken numbers highest (Some packet_id) number Refused agrees is judged =
    let here = one_number count taken numbers highest packet_id.low number judged.0 agrees is judged.1 in
    let refused : IsFresh numbers number → ⊥ =
    λ fresh. judged.2 (subst (IsFresh taken) (sym here) (fresh_here taken numbers highest number agrees fresh)) in
    record { is = refused; highest = highest; agrees = Agrees-refused taken numbers highest number agrees refused }
kept count taken numbers highest (Some packet_id) number Unreadable agrees is judged = absurd judged.2

-- ---- the run

pub numbers_of-push : (packet_ids : List (Option PacketId)) (numbers : List ℕ) (packet_id : Option PacketId) (number n : ℕ) → length numbers ≡ length packet_ids
    → numbers_of (packet_ids ++ packet_id ∷ []) (numbers ++ number ∷ []) n ≡ numbers_after (numbers_of packet_ids numbers) packet_id number n
numbers_of-push [] [] None number n many = refl
numbers_of-push [] [] (Some packet_id) number n many = or_false (eqb n number)
numbers_of-push [] (m ∷ numbers) packet_id number n many = absurd (omega (arith, many))
numbers_of-push (r ∷ packet_ids) [] packet_id number n many = absurd (omega (arith, many))
numbers_of-push (None ∷ packet_ids) (m ∷ numbers) None number n many = numbers_of-push packet_ids numbers None number n (omega (arith, many))
numbers_of-push (None ∷ packet_ids) (m ∷ numbers) (Some s) number n many = numbers_of-push packet_ids numbers (Some s) number n (omega (arith, many))
numbers_of-push (Some r ∷ packet_ids) (m ∷ numbers) None number n many =
    ap (λ (b : Bool). eqb n m || b) (numbers_of-push packet_ids numbers None number n (omega (arith, many)))
numbers_of-push (Some r ∷ packet_ids) (m ∷ numbers) (Some s) number n many =
    ap (λ (b : Bool). eqb n m || b) (numbers_of-push packet_ids numbers (Some s) number n (omega (arith, many))) ∙ or_assoc (eqb n m) (numbers_of packet_ids numbers n) (eqb n number)

IsGreatest-same : (a b : Numbers) (highest : ℕ) → ((n : ℕ) → b n ≡ a n) → IsGreatest a highest → IsGreatest b highest
IsGreatest-same a b highest same top = record { member = same highest ∙ top.member; top = λ n is. top.top n (sym (same n) ∙ is) }

Agrees-same : (a b c d : Numbers) (highest : Option ℕ) → ((n : ℕ) → b n ≡ a n) → ((n : ℕ) → d n ≡ c n) → Agrees a c highest → Agrees b d highest
Agrees-same a b c d None first second agrees = (λ n. first n ∙ agrees.0 n, λ n. second n ∙ agrees.1 n)
Agrees-same a b c d (Some h) first second agrees = record {
  fits = agrees.fits;
  taken_top = IsGreatest-same a b h first agrees.taken_top;
  numbers_top = IsGreatest-same c d h second agrees.numbers_top;
  same = λ n near. first n ∙ agrees.same n near ∙ sym (second n);
}

-- what is taken and the true numbers agree before each place
before_place : (count : ℕ) (packet_ids : List (Option PacketId)) (verdicts : List Verdict) (numbers : List ℕ) → IsRun count packet_ids verdicts → AreTrueNumbers count packet_ids numbers
    → (i : ℕ) → i ≤ length packet_ids → (highest : Option ℕ) × Agrees (taken_by (take i verdicts)) (numbers_of (take i packet_ids) (take i numbers)) highest
before_place count packet_ids verdicts numbers run are zero within = (None, (λ n. refl, λ n. refl))
before_place count packet_ids verdicts numbers run are (suc i) within =
    let old = before_place count packet_ids verdicts numbers run are i (omega arith) in
    let packet_id = get_or packet_ids i None in
    let number = get_or numbers i 0 in
    let verdict = get_or verdicts i Unreadable in
    let here : i < length packet_ids = omega arith in
    let next : suc i ≡ i + 1 = omega arith in
    let one = kept count (taken_by (take i verdicts)) (numbers_of (take i packet_ids) (take i numbers)) old.0 packet_id number verdict old.1 (are.each i here) (run.each i here) in
    let packet_ids_are : take (suc i) packet_ids ≡ take i packet_ids ++ packet_id ∷ [] = ap (λ k. take k packet_ids) next ∙ take_more packet_ids i None here in
    let numbers_are : take (suc i) numbers ≡ take i numbers ++ number ∷ [] = ap (λ k. take k numbers) next ∙ take_more numbers i 0 (omega (arith, are.as_many)) in
    let verdicts_are : take (suc i) verdicts ≡ take i verdicts ++ verdict ∷ [] = ap (λ k. take k verdicts) next ∙ take_more verdicts i Unreadable (omega (arith, run.as_many)) in
    let many : length (take i numbers) ≡ length (take i packet_ids) = length-take-le i numbers (omega (arith, are.as_many)) ∙ sym (length-take-le i packet_ids (omega arith)) in (
      one.highest,
      Agrees-same (taken_after (taken_by (take i verdicts)) verdict) (taken_by (take (suc i) verdicts))
          (numbers_after (numbers_of (take i packet_ids) (take i numbers)) packet_id number) (numbers_of (take (suc i) packet_ids) (take (suc i) numbers)) one.highest
          (λ n. ap (λ vs. taken_by vs n) verdicts_are ∙ taken_by-push (take i verdicts) verdict n)
          (λ n. ap (λ rs. numbers_of rs (take (suc i) numbers) n) packet_ids_are ∙ ap (λ ns. numbers_of (take i packet_ids ++ packet_id ∷ []) ns n) numbers_are
          ∙ numbers_of-push (take i packet_ids) (take i numbers) packet_id number n many) one.agrees,
    )

pub AreTrueVerdicts-run : (count : ℕ) (packet_ids : List (Option PacketId)) (verdicts : List Verdict) (numbers : List ℕ) → IsRun count packet_ids verdicts → AreTrueNumbers count packet_ids numbers
    → AreTrueVerdicts packet_ids numbers verdicts
AreTrueVerdicts-run count packet_ids verdicts numbers run are = record {
  as_many = run.as_many;
  each = λ i below.
      let before = before_place count packet_ids verdicts numbers run are i (omega arith) in
      (kept count (taken_by (take i verdicts)) (numbers_of (take i packet_ids) (take i numbers)) before.0 (get_or packet_ids i None) (get_or numbers i 0) (get_or verdicts i Unreadable)
      before.1 (are.each i below) (run.each i below)).is;
}
