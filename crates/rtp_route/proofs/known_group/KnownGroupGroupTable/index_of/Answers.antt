use Rattle.std.proofs.Common.{◌≡◌, ℕ, ◌+◌, ◌-◌, ◌<◌, replicate, get_or, length, Some, ap, ◌∙◌, subst, arith}
use Rattle.std.proofs.lemmas.Option.{slice_get-get_or, get_or_from_slice_get}
use Rattle.rtp_ext.specs.Elements.{Element}
use Rattle.rtp_route.specs.declared.stored_group.StoredGroup.{StoredGroup}
use Rattle.rtp_route.specs.StoredGroup.{IsGroup, elements_in}
use Rattle.rtp_route.specs.GroupLaws.{element-at, length-elements, are-from}
use Rattle.rtp_route.proofs.known_group.KnownGroupGroupTable.index_of.Goals as goal
use Rattle.rtp_route.proofs.known_group.KnownGroupGroupTable.index_of.Goals.{then-number-eq0-via-then-number-eq0, then-number-eq0-via-else-number-eq0+then-number-from}

-- at the id of an element stands its number
number-of : (group : StoredGroup) → IsGroup group → length group.element_ids ≡ 16 → length group.data_lens ≡ 16 → (k id : ℕ) (d : Element) → k < length (elements_in group)
    → (get_or (elements_in group) k d).0 ≡ id → (get_or group.numbers id 0 ≡ k + 1) × (k < group.count) × (get_or group.element_ids k 0 ≡ id)
number-of group is ids lens k id d there same =
    let within : k < group.count = omega (arith, there, length-elements group is.few ids lens) in
    let here = element-at group k is.few ids lens within in (
      omega (arith, are-from group is ids lens k (get_or (elements_in group) k d) (slice_get-get_or (elements_in group) k d there), ap (λ (i : ℕ). get_or group.numbers i 0) same),
      within,
      omega (arith, same, ap (λ (e : Element). e.0) (get_or_from_slice_get (elements_in group) k _ d here)),
    )

pub returns-then-number-eq0-clause-none : goal.returns-then-number-eq0-clause-none
returns-then-number-eq0-clause-none c k d there same =
    let known = c.args.self.now in
    let is = number-of known.group.now known.is_group known.ids known.lens k c.args.id d there same in
    let number : c.from-number.result ≡ get_or known.group.now.numbers c.args.id 0 = c.from-number.ensures ∙ ap (λ (i : ℕ). get_or known.group.now.numbers i 0) c.from.ensures in
    elim c.then-number-eq0.branch [
      | then-number-eq0-via-then-number-eq0 w ↦ omega (arith, is.0, number, w.if-number-eq0.true)
      | then-number-eq0-via-else-number-eq0+then-number-from w ↦ omega (arith, is.0, is.1, number, w.if-number-from.true, w.from-else-number-eq0.ensures)
    ]

pub returns-then-self-number-clause-none : goal.returns-then-self-number-clause-none
returns-then-self-number-clause-none c k d there same =
    let known = c.args.self.now in
    let is = number-of known.group.now known.is_group known.ids known.lens k c.args.id d there same in
    let number : c.from-number.result ≡ get_or known.group.now.numbers c.args.id 0 = c.from-number.ensures ∙ ap (λ (i : ℕ). get_or known.group.now.numbers i 0) c.from.ensures in
    let at : k ≡ c.from-number.result - 1 = omega (arith, is.0, number) in
    c.if-self-number.true (subst (λ (i : ℕ). get_or known.group.now.element_ids i 0 ≡ c.args.id) at is.2)

pub returns-clause-some : goal.returns-clause-some
returns-clause-some c =
    let known = c.args.self.now in
    let group = known.group.now in
    let index = c.from-number.result - 1 in
    let within : index < group.count = omega (arith, c.if-number-from.false, c.if-number-eq0.false, c.from-else-number-eq0.ensures) in (
      replicate (get_or group.data_lens index 0) 0,
      element-at group index known.is_group.few known.ids known.lens within ∙ ap (λ (id : ℕ). Some (id, replicate (get_or group.data_lens index 0) 0)) c.if-self-number.false,
    )
