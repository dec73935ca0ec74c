use Rattle.rtp_ext.proofs.Common.{◌≡◌, ◌∙◌, ◌≤◌, ◌<◌, ◌+◌, ◌-◌, ap, sym, subst, ℕ, zero, suc, inl, inr, Bool, true, false, take, drop, map, get_or, List, Option, IfSome, arith, OnTrue, cases_lt, get_or-take, get_or-drop, new_id, id_in_byte}
use Rattle.rtp_ext.proofs.NewIdLemmas.{new_id-byte}
use Rattle.rtp_ext.proofs.new_ids.NewIds.fit_one_byte_form.Goals as goal

-- a byte of at most 14 says such an id, or none
short_id : (byte : ℕ) → byte ≤ 14 → IfSome (id_in_byte byte) (λ new. (1 ≤ new) × (new ≤ 14))
short_id zero short = tt
short_id (suc k) short = (omega arith, short)

-- each byte up to that of the id 14 is among the first eight or the eight from the seventh on
byte_short : (ids : List ℕ) → ((k : ℕ) → k < 8 → get_or (take 8 ids) k 0 ≤ 14) → ((k : ℕ) → k < 8 → get_or (take 8 (drop 7 ids)) k 0 ≤ 14)
    → (id : ℕ) → id ≤ 14 → get_or ids id 0 ≤ 14
byte_short ids low high id few = elim (cases_lt id 8) [
  | inl here ↦ subst (λ byte. byte ≤ 14) (get_or-take 8 ids id 0 here) (low id here)
  | inr past ↦
      let k = id - 7 in
      let here : id - 7 < 8 = omega (arith, past, few) in
      let place : 7 + (id - 7) ≡ id = omega (arith, past) in
      subst (λ byte. byte ≤ 14) (get_or-take 8 (drop 7 ids) k 0 here ∙ get_or-drop 7 ids k 0 ∙ ap (λ i. get_or ids i 0) place) (high k here)
]

short_ids : (ids : List ℕ) {slots : List (Option ℕ)} (test : Bool) → map id_in_byte ids ≡ slots → ((k : ℕ) → k < 8 → get_or (take 8 ids) k 0 ≤ 14)
    → OnTrue test ((k : ℕ) → k < 8 → get_or (take 8 (drop 7 ids)) k 0 ≤ 14)
    → OnTrue test ((id : ℕ) → id ≤ 14 → IfSome (new_id slots id) (λ new. (1 ≤ new) × (new ≤ 14)))
short_ids ids false is low high = tt
short_ids ids true is low high = λ id few.
    subst (λ found. IfSome (new_id found id) (λ new. (1 ≤ new) × (new ≤ 14))) is
    (subst (λ found. IfSome found (λ new. (1 ≤ new) × (new ≤ 14))) (sym (new_id-byte ids id)) (short_id (get_or ids id 0) (byte_short ids low high id few)))

pub returns-then-are_short : goal.returns-then-are_short
returns-then-are_short c =
    short_ids c.self.inside.ids c.are_short-then-are_short.result c.self.view_is c.if-are_short.ensures c.are_short-then-are_short.ensures
