use Rattle.rtp_vla.proofs.Common.{◌≡◌, ◌+◌, ◌/◌, ◌++◌, ℕ, List, length, take, ap, sym, ◌∙◌, arith, subst, refl, false≢true, take-append-drop, length-take-le, FitResolutions, active_count, rate_count, after_rates, quarters}
use Rattle.rtp_vla.proofs.AllocationReadingLemmas.{length-quarters}
use Rattle.rtp_vla.proofs.AllocationLayout.{cut_masks, cut_counts, cut_resolutions, shared_masks}
use Rattle.std.proofs.lemmas.Nat.{and_mask}
use Rattle.rtp_vla.proofs.parsing.layout_of.Goals as goal

pub returns-in_err-streams-clause-refused : goal.returns-in_err-streams-clause-refused
returns-in_err-streams-clause-refused c =
    rw c.from_residual-in_err-streams.ensures
    (cut_masks c.args.buf.now c.in_ok-head.head.now c.in_ok-head.after.now c.in_ok-head.ensures.cases.0 c.in_err-streams.ensures.refused)

pub returns-in_err-counts-clause-refused : goal.returns-in_err-counts-clause-refused
returns-in_err-counts-clause-refused c =
    rw c.from_residual-in_err-counts.ensures
    (cut_counts c.args.buf.now c.in_ok-head.head.now c.in_ok-head.after.now (take c.in_ok-streams.streams c.read_masks.new.masks) c.in_ok-streams.after.now c.in_ok-head.ensures.cases.0 c.in_ok-streams.ensures.found
    (omega (arith, c.in_err-counts.ensures.cases, c.active_under-active.ensures.active)))

pub returns-then-not-resolutions_fit-clause-refused : goal.returns-then-not-resolutions_fit-clause-refused
returns-then-not-resolutions_fit-clause-refused c =
    let masks = (take c.in_ok-streams.streams c.read_masks.new.masks) in
    let counts = c.in_ok-counts.counts.now in
    let rates = c.in_ok-counts.rates.now in
    let split = c.in_ok-counts.ensures.cases in
    let active = c.active_under-active.ensures.active in
    let k = (c.active_under-active.result + 3) / 4 in
    let len : length counts ≡ (active_count masks + 3) / 4 = ap length split.1 ∙ length-take-le k c.in_ok-streams.after.now split.0 ∙ ap (λ (n : ℕ). (n + 3) / 4) active in
    cut_resolutions c.args.buf.now c.in_ok-head.head.now c.in_ok-head.after.now masks c.in_ok-streams.after.now counts rates c.in_ok-head.ensures.cases.0 c.in_ok-streams.ensures.found
    (sym (take-append-drop k c.in_ok-streams.after.now) ∙ (λ j. sym split.1 j ++ sym split.2 j)) len
    (λ fit. false≢true (c.if-not-resolutions_fit.ensures.1
    (subst (λ (bytes : List ℕ). FitResolutions c.active_under-active.result bytes) (sym (c.after_rates-resolutions.ensures ∙ ap (λ (n : ℕ). after_rates n rates) (c.rate_count.ensures ∙ ap rate_count c.new-layer_counts.ensures)))
    (subst (λ (n : ℕ). FitResolutions n (after_rates (rate_count (take n (quarters counts))) rates)) (sym active) fit))))

pub new-requires : goal.new-requires
new-requires c =
    let counts = c.in_ok-counts.counts.now in
    let split = c.in_ok-counts.ensures.cases in
    let k = (c.active_under-active.result + 3) / 4 in
    let len : length counts ≡ k = ap length split.1 ∙ length-take-le k c.in_ok-streams.after.now split.0 in
    let all : length c.new-layer_counts.result ≡ c.active_under-active.result =
    ap length c.new-layer_counts.ensures ∙ length-take-le c.active_under-active.result (quarters counts) (omega (arith, len, length-quarters counts)) in
    record { fit = subst (λ (n : ℕ). FitResolutions n c.after_rates-resolutions.result.now) (sym all) (c.if-not-resolutions_fit.ensures.0 refl) }

pub active_under-active-requires-clause-within : goal.active_under-active-requires-clause-within
active_under-active-requires-clause-within c = omega (arith, and_mask c.in_ok-head.head.now 4)

pub active_under-active-requires-clause-shared : goal.active_under-active-requires-clause-shared
active_under-active-requires-clause-shared c =
    shared_masks _ _ _ _ _ _ (and_mask c.in_ok-head.head.now 4) c.in_ok-streams.ensures.found
