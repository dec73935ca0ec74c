use Rattle.rtp_vla.proofs.Common.{◌≡◌, ◌++◌, ◌∙◌, ap, drop, get_or, ℕ, ◌+◌, [], sym, flat_map, drop_more, drop_all, get_or_read, shortest_of}
use Rattle.rtp_vla.proofs.LeavingLemmas.{Leaves-part, Leaves-end}
use Rattle.rtp_vla.proofs.putting.put_layer_rates.Goals as goal

pub loop-rate-preserved : goal.loop-rate-preserved
loop-rate-preserved c =
    let rates = c.args.rates.now in
    let i = c.loop-rate.rate-index in
    let is : c.rate.inside.cumulative_kbps ≡ get_or rates i 0 = c.rate.view_is ∙ get_or_read rates i c.rate-item.result c.loop-rate-test.true c.rate-item.is 0 in
    let split : flat_map shortest_of (drop i rates) ≡ shortest_of c.rate.inside.cumulative_kbps ++ flat_map shortest_of (drop (i + 1) rates) =
    ap (flat_map shortest_of) (drop_more rates i 0 c.loop-rate-test.true) ∙ ap (λ (r : ℕ). shortest_of r ++ flat_map shortest_of (drop (i + 1) rates)) (sym is) in
    Leaves-part c.loop-rate.buf c.put_leb-end.new.buf _ _ _ _ c.loop-rate.end c.put_leb-end.result c.args.at (rw split at c.loop-rate.invariant) c.put_leb-end.ensures.written c.put_leb-end.ensures.end

pub returns-clause-written : goal.returns-clause-written
returns-clause-written c =
    let none : flat_map shortest_of (drop c.loop-rate.rate-index c.args.rates.now) ≡ [] = ap (flat_map shortest_of) (drop_all c.loop-rate.rate-index c.args.rates.now c.loop-rate-test.false) in
    (Leaves-end _ _ _ _ _ (rw none at c.loop-rate.invariant)).0
