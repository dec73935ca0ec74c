use Rattle.rtp_c.proofs.Common.{◌≡◌, ℕ, suc, ◌+◌, ◌-◌, ◌≤◌, List, [], ◌∷◌, ◌++◌, length, replicate, set, sym, ap, ◌∙◌, arith, append_assoc, length-append, set-append_right}
use Rattle.rtp_c.proofs.header.put_sources.Invariants.{SoFar}
use Rattle.rtp_c.proofs.header.put_sources.Goals as goal

-- the next source goes into the first slot that is left
one_more : (sources left after slots : List ℕ) (count at source : ℕ) → SoFar sources left slots count → length sources ≤ 15 → left ≡ source ∷ after → at ≡ count
    → SoFar sources after (set slots at source) (count + 1)
one_more sources left after slots count at source so_far few next at-is =
    let done = so_far.done in
    let rest : ℕ = 15 - (count + 1) in
    let in_order : sources ≡ done ++ (source ∷ after) = so_far.in_order ∙ ap (λ (xs : List ℕ). done ++ xs) next in
    let within : count + 1 ≤ 15 = omega (arith, few, ap length in_order, length-append done (source ∷ after), so_far.count_is) in
    let left_slots : 15 - count ≡ suc rest = omega arith in
    let first : count - count ≡ 0 = omega arith in
    let put : set (replicate (15 - count) 0) (count - count) source ≡ source ∷ replicate rest 0 =
    ap (λ (k : ℕ). set (replicate k 0) (count - count) source) left_slots ∙ ap (λ (i : ℕ). set (replicate (suc rest) 0) i source) first in
    record {
      done = done ++ (source ∷ []);
      in_order = in_order ∙ sym (append_assoc done (source ∷ []) after);
      count_is = omega (arith, so_far.count_is, length-append done (source ∷ []));
      slots_are =
          ap (λ (i : ℕ). set slots i source) at-is
          ∙ ap (λ (xs : List ℕ). set xs count source) so_far.slots_are
          ∙ set-append_right done (replicate (15 - count) 0) count count source (sym so_far.count_is) (omega arith)
          ∙ ap (λ (xs : List ℕ). done ++ xs) put
          ∙ sym (append_assoc done (source ∷ []) (replicate rest 0));
    }

pub loop-source-preserved : goal.loop-source-preserved
loop-source-preserved c =
    one_more c.args.sources c.loop-source.source-iterator c.next.new.self c.loop-source.slots c.loop-source.count c.from.result c.in-Some.source
    c.loop-source.invariant c.requires c.in-Some.ensures.steps c.from.ensures
