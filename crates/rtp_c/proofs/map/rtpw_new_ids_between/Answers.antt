use Rattle.rtp_c.proofs.Common.{rules, ◌≡◌, ◌≤◌, ◌+◌, ◌∙◌, ℕ, zero, suc, length, get_or, refl, sym, subst, arith, get_or-set_other, Means, AreNewIdsOf}
use lib.ListN.{replicate}
use Rattle.rtp_c.specs.declared.map.StoredNewIds.{StoredNewIds}
use Rattle.rtp_c.proofs.MeantLemmas.{HaveNewIds, HaveNewIds-next, HaveNewIds-none, HaveNewIds-over, AreNewIdsOf-all, CarryKinds-new}
use Rattle.rtp_c.proofs.map.rtpw_new_ids_between.Goals as goal
use Rattle.rtp_c.proofs.map.rtpw_new_ids_between.Goals.{then-number-ne0, else-number-ne0}

-- a table of zeros
no_ids : (n id : ℕ) → get_or (replicate {A = ℕ} n 0) id 0 ≡ 0
no_ids zero id = refl
no_ids (suc n) zero = refl
no_ids (suc n) (suc id) = no_ids n id

pub loop-id-init : goal.loop-id-init
loop-id-init c = (record { many = search rules; each = λ id below. absurd (omega (arith, below)) }, λ id within. no_ids 256 id)

pub loop-id-preserved : goal.loop-id-preserved
loop-id-preserved c =
    let within = c.loop-id-test.true in
    let from = c.args.from.now.kind in
    let to = c.args.to.now.kind in
    elim c.if-number-ne0.branch [
      | then-number-ne0 w ↦
          subst (λ (ids : StoredNewIds). HaveNewIds from to ids.id (c.loop-id.id + 1) × ((id : ℕ) → c.loop-id.id + 1 ≤ id → get_or ids.id id 0 ≡ 0)) (sym w.ids-is) (
            HaveNewIds-next from to c.loop-id.ids.id c.loop-id.id c.number_at-number.result w.id_of.result
                (omega (arith, within, c.numbers_end-id-end.ensures.few)) c.loop-id.invariant.0 c.number_at-number.ensures w.id_of.ensures,
            λ id past. get_or-set_other c.loop-id.ids.id c.loop-id.id id w.id_of.result 0 (omega (arith, past)) ∙ c.loop-id.invariant.1 id (omega (arith, past)),
          )
      | else-number-ne0 w ↦
          subst (λ (ids : StoredNewIds). HaveNewIds from to ids.id (c.loop-id.id + 1) × ((id : ℕ) → c.loop-id.id + 1 ≤ id → get_or ids.id id 0 ≡ 0)) (sym w.ids-is) (
            HaveNewIds-none from to c.loop-id.ids.id c.loop-id.id c.number_at-number.result w.if-number-ne0.false c.number_at-number.ensures
                c.loop-id.invariant.1 c.loop-id.invariant.0,
            λ id past. c.loop-id.invariant.1 id (omega (arith, past)),
          )
    ]

are_new : (c : goal.After-loop-id) → AreNewIdsOf c.args.from.now.kind c.args.to.now.kind c.loop-id.ids.id
are_new c =
    let many : length c.args.from.now.kind ≡ 256 = search rules in
    AreNewIdsOf-all c.args.from.now.kind c.args.to.now.kind c.loop-id.ids.id 256 (omega arith) many
    (HaveNewIds-over c.args.from.now.kind c.args.to.now.kind c.loop-id.ids.id c.loop-id.id 256
    (λ id past below. c.numbers_end-id-end.ensures.zeros id (omega (arith, past, c.loop-id-test.false)) below) c.loop-id.invariant.1 c.loop-id.invariant.0)

pub returns-clause-ids : goal.returns-clause-ids
returns-clause-ids c = are_new c

pub returns-clause-kinds : goal.returns-clause-kinds
returns-clause-kinds c = CarryKinds-new c.args.from.now.kind c.args.to.now.kind c.loop-id.ids.id (are_new c)

pub returns-clause-first : goal.returns-clause-first
returns-clause-first c =
    let none : (number : ℕ) → Means c.args.from.now.kind 0 number → ⊥ = λ number means. omega (arith, means.is_id) in
    (are_new c).others 0 none
