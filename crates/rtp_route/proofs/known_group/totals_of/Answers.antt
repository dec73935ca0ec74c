use Rattle.std.proofs.Common.{◌≡◌, ℕ, ◌+◌, ◌<◌, ◌≤◌, ◌⊎◌, inl, inr, List, take, replicate, get_or, sym, ap, subst, ◌∙◌, arith}
use Rattle.std.proofs.lemmas.Bool.{false≢true, cases_lt}
use Rattle.std.proofs.lemmas.List.{take-replicate}
use Rattle.rtp_ext.specs.declared.form.ExtensionsForm.TheVariants.{OneByte}
use Rattle.rtp_ext.specs.ElementsInARow.{IsWritable}
use Rattle.rtp_route.proofs.KnownGroupLemmas.{IsFound, found-more}
use Rattle.rtp_route.proofs.known_group.totals_of.Goals as goal
use Rattle.rtp_route.proofs.known_group.totals_of.Goals.{then-not-can_carry, else-not-can_carry}

-- an id that has a number isn't 0, which has none
some-id : (numbers : List ℕ) (id index : ℕ) → get_or numbers 0 0 ≡ 0 → get_or numbers id 0 ≡ index + 1 → (0 < id) ⊎ (id ≤ 0) → 1 ≤ id
some-id numbers id index none number (inl some) = omega (arith, some)
some-id numbers id index none number (inr few) = let same : id ≡ 0 = omega (arith, few) in absurd (omega (arith, number, none, ap (λ (k : ℕ). get_or numbers k 0) same))

pub loop-index-preserved : goal.loop-index-preserved
loop-index-preserved c =
    let group = c.args.group.now in
    let index = c.loop-index.index in
    let id : ℕ = get_or group.element_ids index 0 in
    let len : ℕ = get_or group.data_lens index 0 in
    let number : get_or group.numbers id 0 ≡ index + 1 = ap (λ (k : ℕ). get_or group.numbers k 0) (sym c.from.ensures) ∙ sym c.from-in-loop-index.ensures ∙ c.if-from-index.false in
    let zeros : take {A = ℕ} c.from-in-loop-index-2.result (replicate 255 0) ≡ replicate len 0 =
    take-replicate c.from-in-loop-index-2.result 255 0 (omega arith) ∙ ap (λ (n : ℕ). replicate n 0) c.from-in-loop-index-2.ensures in
    let carries = c.can_carry.ensures.carried in
    subst (λ (n : ℕ). IsFound group.element_ids group.data_lens group.numbers (index + 1) (c.loop-index.total + n) c.if-not-can_carry.one_byte) (sym c.from-total.ensures)
    (found-more group.element_ids group.data_lens group.numbers index c.loop-index.total c.loop-index.one_byte c.if-not-can_carry.one_byte c.loop-index.invariant (omega arith) (omega arith) number
    (some-id group.numbers id index c.requires.no_number number (cases_lt 0 id)) (omega arith) (omega arith)
    (λ yes.
    elim c.if-not-can_carry.branch [
      | then-not-can_carry w ↦ absurd (false≢true (sym w.one_byte-is ∙ yes))
      | else-not-can_carry w ↦ (sym w.one_byte-is ∙ yes, subst (λ (bytes : List ℕ). IsWritable OneByte (id, bytes)) zeros (carries.0 w.if-not-can_carry.false))
    ])
    (λ no.
    elim c.if-not-can_carry.branch [
      | then-not-can_carry w ↦ inr (λ is. false≢true (sym w.if-not-can_carry.true ∙ carries.1 (subst (λ (bytes : List ℕ). IsWritable OneByte (id, bytes)) (sym zeros) is)))
      | else-not-can_carry w ↦ inl (sym w.one_byte-is ∙ no)
    ]))
