use Rattle.rtp_c.proofs.Common.{◌≡◌, ℕ, List, ◌<◌, ◌≤◌, arith, sym, ap, ◌∙◌, length, take, get_or, rules, inl, inr, cases_lt, OnTrue_at, get_or-take, items_from, numbered_slots}
use Rattle.rtp_c.proofs.NumberedLemmas.{numbered-low, numbered-all, numbered-few}
use Rattle.rtp_c.proofs.WalkLemmas.{last_end-low, last_end-high}
use Rattle.rtp_c.proofs.kinds.StoredMapKinds.walk_end.Goals as goal

-- the first sixteen numbers past an index, and those past the sixteenth
zeros_after : (numbers : List ℕ) (end i : ℕ) → 256 ≡ length numbers → ((k : ℕ) → end < k → k < length (take 16 numbers) → get_or (take 16 numbers) k 0 ≡ 0)
    → ((k : ℕ) → 16 ≤ k → get_or numbers k 0 ≡ 0) → end < i → get_or numbers i 0 ≡ 0
zeros_after numbers end i all few high past = elim (cases_lt i 16) [
  | inl here ↦ sym (get_or-take 16 numbers i 0 here) ∙ few i past (search rules)
  | inr there ↦ high i there
]

pub returns-then-has_low_ids_alone-clause-all : goal.returns-then-has_low_ids_alone-clause-all
returns-then-has_low_ids_alone-clause-all c =
    let numbers = c.args.self.now.kind in
    let end = c.last_of_16.result in
    let many : length numbers ≡ 256 = search rules in
    elim (cases_lt 14 end) [
      | inl high ↦ ap (λ (n : ℕ). items_from 0 (take n (numbered_slots numbers))) (last_end-high end high) ∙ numbered-all numbers many
      | inr low ↦
          ap (λ (n : ℕ). items_from 0 (take n (numbered_slots numbers))) (last_end-low end low)
          ∙ numbered-low numbers end (λ i above.
          zeros_after numbers end i (sym many) c.last_of_16.ensures.zeros (OnTrue_at c.if-has_low_ids_alone.true c.has_low_ids_alone.ensures) (omega (arith, above)))
    ]

pub returns-else-has_low_ids_alone-clause-all : goal.returns-else-has_low_ids_alone-clause-all
returns-else-has_low_ids_alone-clause-all c = let many : length c.args.self.now.kind ≡ 256 = search rules in numbered-all c.args.self.now.kind many

pub returns-then-has_low_ids_alone-clause-few : goal.returns-then-has_low_ids_alone-clause-few
returns-then-has_low_ids_alone-clause-few c = numbered-few c.args.self.now.kind (search rules)

pub returns-else-has_low_ids_alone-clause-few : goal.returns-else-has_low_ids_alone-clause-few
returns-else-has_low_ids_alone-clause-few c = numbered-few c.args.self.now.kind (search rules)
