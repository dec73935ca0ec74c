use Rattle.rtp_ext.proofs.Common.{◌∷◌, ◌≡◌, ◌++◌, ◌∙◌, sym, refl, subst, ap, ℕ, List, [], Bor, Bool, true, false, Option, Some, None, is_some, IfSome, IsSomeAnd, false≢true, map-append, All-nil, YieldsList-from_first, YieldsList-end, VideoLayersAllocation, no_values, SameFields-refl, Allocation, Means, ExtensionValues, Element, Slots, Carries, AreFields, SaysValues, last}
use Rattle.rtp_ext.proofs.KindsByIdLemmas.{AreFields-known}
use Rattle.rtp_ext.proofs.ValuesLaws.{AreValues-none, AreFields-passed, AreFields-one}
use Rattle.rtp_ext.proofs.LastAllocationLemmas.{kind-tested}
use Rattle.rtp_ext.proofs.block_values.read_layers.Goals as goal
use Rattle.rtp_ext.proofs.block_values.read_layers.Goals.{else-eq-via-then-eq+else-read_into, else-eq-via-else-eq}

-- data of which none is read mean no allocation
no_meaning : (bytes : List ℕ) {read : Bool} (New : Allocation → Type 0) (known : Option Allocation) → ((a : Allocation) → Means bytes a → (read ≡ true) × New a)
    → read ≡ false → IsSomeAnd known (Means bytes) → ⊥
no_meaning bytes New None only is means = means
no_meaning bytes New (Some a) only is means = false≢true (sym is ∙ (only a means).0)

-- an element that doesn't carry the allocation
passed : (exts : Slots) (done : List Element) (element : Element) (known : Option Allocation) → (Carries exts VideoLayersAllocation element → ⊥)
    → AreFields exts done VideoLayersAllocation no_values (record no_values { video_layers_allocation = known })
    → AreFields exts (done ++ element ∷ []) VideoLayersAllocation no_values (record no_values { video_layers_allocation = known })
passed exts done element known not_carried = AreFields-passed exts done element VideoLayersAllocation no_values _ _ not_carried (SameFields-refl VideoLayersAllocation _)

pub loop-id-init : goal.loop-id-init
loop-id-init g c = (None, AreValues-none (g.K.Kinds.known c.args.exts.now) no_values VideoLayersAllocation, refl, tt, λ _. refl)

pub loop-id-preserved-then-read_into : goal.loop-id-preserved-then-read_into
loop-id-preserved-then-read_into g c =
    let mapped = sym c.get.ensures ∙ (kind-tested c.get.result c.eq.ensures).0 c.if-eq.true in
    let read = c.if-read_into.ensures.found in (
      Some read.0,
      simp map-append (last _ [] (c.in-Some.id, c.in-Some.element.now) refl mapped read.1
          (All-nil (λ later. Carries (g.K.Kinds.known c.args.exts.now) VideoLayersAllocation later → ⊥))),
      refl,
      read.2,
      λ none. absurd (false≢true (sym none)),
    )

pub loop-id-preserved : goal.loop-id-preserved
loop-id-preserved g c =
    let so_far = c.loop-id.invariant in
    elim c.else-eq.branch [
      | else-eq-via-then-eq+else-read_into w ↦ (
          let same = w.layers-is ∙ w.read_into.ensures.unchanged w.if-read_into.false in (
            so_far.0,
            simp map-append (passed (g.K.Kinds.known c.args.exts.now) _ (c.in-Some.id, c.in-Some.element.now) so_far.0
                (λ carries. no_meaning _ _ _ w.read_into.ensures.only w.if-read_into.false carries.1.1) so_far.1),
            so_far.2,
            subst (λ layers. IfSome so_far.0 (g.L.SetLayers.shows layers)) (sym same) so_far.3,
            λ none. same ∙ so_far.4 none,
          )
          )
      | else-eq-via-else-eq w ↦ (
        so_far.0,
        simp map-append (passed (g.K.Kinds.known c.args.exts.now) _ (c.in-Some.id, c.in-Some.element.now) so_far.0
            (λ carries. false≢true (sym w.if-eq.false ∙ (kind-tested c.get.result c.eq.ensures).1 (c.get.ensures ∙ carries.0))) so_far.1),
        so_far.2,
        subst (λ layers. IfSome so_far.0 (g.L.SetLayers.shows layers)) (sym w.layers-is) so_far.3,
        λ none. w.layers-is ∙ so_far.4 none,
      )
    ]

-- the allocation that was read is that of the values
known_is : (g : _) (c : goal.In-None g) (values : ExtensionValues) → SaysValues c.args.form (g.K.Kinds.slots c.args.exts.now) c.args.buf.now values
    → c.loop-id.invariant.0 ≡ values.video_layers_allocation
known_is g c values says =
    let end = YieldsList-end (YieldsList-from_first (λ (item : ℕ × Bor (List ℕ)). (item.0, item.1.now)) (λ left. left)
    c.new-id-items.result c.into_iter-id-iterator.ensures.into_iter_gives)
    c.loop-id.yielded _ c.loop-id.yielded_by _ _ c.in-None.is c.next.ensures.steps in
    let shown : ExtensionValues = record no_values { video_layers_allocation = c.loop-id.invariant.0 } in
    ap (λ (v : ExtensionValues). v.video_layers_allocation) (sym (AreFields-one
    (AreFields-known (g.K.Kinds.slots c.args.exts.now) says.elements VideoLayersAllocation no_values shown
    (subst (λ (slots : Slots). AreFields slots says.elements VideoLayersAllocation no_values shown) (g.met.K.Kinds.known_is c.args.exts.now)
    (subst (λ (es : List Element). AreFields (g.K.Kinds.known c.args.exts.now) es VideoLayersAllocation no_values shown)
    (end.0 ∙ sym (c.new-id-items.ensures.only says.elements says.are_elements)) c.loop-id.invariant.1)))
    (says.are_values VideoLayersAllocation)))

pub returns-clause-found : goal.returns-clause-found
returns-clause-found g c values says = c.loop-id.invariant.2 ∙ ap is_some (known_is g c values says)

pub returns-clause-shown : goal.returns-clause-shown
returns-clause-shown g c values says = subst (λ (known : Option Allocation). IfSome known (g.L.SetLayers.shows c.loop-id.layers)) (known_is g c values says) c.loop-id.invariant.3
