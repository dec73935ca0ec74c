use Rattle.std.proofs.Common.{rules, ◌≡◌, ℕ, ◌+◌, List, [], ◌∷◌, ◌++◌, length, take, drop, arith, sym, subst}
use Rattle.std.proofs.lemmas.Bool.{false≢true}
use Rattle.std.proofs.lemmas.Result.{err_from_is_err_and}
use Rattle.std.proofs.lemmas.List.{take_all}
use Rattle.rtp_ext.specs.Elements.{Element}
use Rattle.rtp_ext.specs.ElementsInPlace.{HasNone}
use Rattle.rtp_wire.specs.declared.packet.not_put.NotPut.{NotPut}
use Rattle.rtp_wire.specs.declared.packet.not_put.NotPut.TheVariants.{ZeroId}
use Rattle.rtp_route.specs.Calls.{ArePut}
use Rattle.rtp_route.specs.NotPutAmong.{ArePutInRoom, IsNotPutAmong}
use Rattle.rtp_route.proofs.ElementAtLemmas.{taken-more, around, none-more}
use Rattle.rtp_route.proofs.NotPutLemmas.{applies-here, first-here, ArePutInRoom-puts, ArePutInRoom-more, none-refused, no_elements}
use Rattle.rtp_route.proofs.by_calls.put_each.Goals as goal

pub loop-index-init : goal.loop-index-init
loop-index-init g c = record {
  are_put = search rules;
  no_zero = search rules;
  none_refused = λ packet cause same is. no_elements _ _ _ _ is;
  within = search rules;
  same_length = search rules;
}

pub loop-index-preserved : goal.loop-index-preserved
loop-index-preserved g c =
    let elements = g.L.ElementList.elements c.args.group.now.elements in
    let k = c.loop-index.index in
    let new : Element = (c.at-id.result.0, c.at-id.result.1.now) in
    let more : take (k + 1) elements ≡ take k elements ++ new ∷ [] = taken-more elements k new c.at-id.ensures in
    let start : List ℕ = take c.args.len c.args.buf.now in
    let allowed = c.args.group.now.allowed in
    let put : (cause : NotPut) → _ → ⊥ = λ cause is. false≢true (c.in_ok-len.ensures.refused.1 (cause, is)) in
    let room : ℕ = length c.args.buf.now in
    let now : List ℕ = take c.loop-index.len c.loop-index.buf in
    record {
      are_put = subst (λ (es : List Element). ArePutInRoom room start es allowed (take c.in_ok-len.len c.put_element_copy.new.buf)) (sym more)
          (ArePutInRoom-more (take k elements) new allowed room start now c.put_element_copy.new.buf c.in_ok-len.len c.loop-index.invariant.are_put c.in_ok-len.ensures.put
          (λ cause fact. put cause (applies-here c.loop-index.buf c.loop-index.len room new allowed cause c.loop-index.invariant.same_length fact)));
      no_zero = none-more elements k 0 new c.at-id.ensures c.loop-index.invariant.no_zero (λ is. put ZeroId is);
      none_refused = λ packet cause same is.
          none-refused packet start (take k elements) new allowed c.loop-index.buf c.loop-index.len (length c.args.buf.now) cause same
          (ArePutInRoom-puts (take k elements) allowed room start now c.loop-index.invariant.are_put) c.loop-index.invariant.same_length
          (λ other. c.loop-index.invariant.none_refused packet other same) put
          (subst (λ (es : List Element). IsNotPutAmong packet es allowed (length c.args.buf.now) cause) more is);
      within = omega (arith, c.in_ok-len.ensures.within.1, c.put_element_copy.auto.buf);
      same_length = search rules;
    }

pub returns-in_err-len-clause-cause : goal.returns-in_err-len-clause-cause
returns-in_err-len-clause-cause g c =
    let elements = g.L.ElementList.elements c.args.group.now.elements in
    let k = c.loop-index.index in
    let new : Element = (c.at-id.result.0, c.at-id.result.1.now) in
    let p = err_from_is_err_and c.from_residual.result c.from_residual.ensures.1 in
    let refused : IsNotPutAmong (take c.args.len c.args.buf.now) elements c.args.group.now.allowed (length c.args.buf.now) c.in_err-len.field-0.0 = record {
      before = take k elements;
      element = new;
      after = drop (k + 1) elements;
      in_order = around elements k new c.at-id.ensures;
      packet = take c.loop-index.len c.loop-index.buf;
      are_put = c.loop-index.invariant.are_put;
      cause_is = first-here c.loop-index.buf c.loop-index.len (length c.args.buf.now) _ c.args.group.now.allowed c.in_err-len.field-0.0 c.loop-index.invariant.same_length
          (omega (arith, c.loop-index.invariant.within, c.loop-index.invariant.same_length)) c.in_err-len.ensures.cause;
    } in
    rw (p.1, p.2) refused

pub returns-clause-none_refused : goal.returns-clause-none_refused
returns-clause-none_refused g c packet cause same is =
    c.loop-index.invariant.none_refused packet cause same
    (subst (λ (es : List Element). IsNotPutAmong packet es c.args.group.now.allowed (length c.args.buf.now) cause) (sym (take_all _ _ (omega (arith, c.loop-index-test.false)))) is)

pub returns-clause-put : goal.returns-clause-put
returns-clause-put g c =
    let elements = g.L.ElementList.elements c.args.group.now.elements in
    subst (λ (es : List Element). ArePut (take c.args.len c.args.buf.now) es c.args.group.now.allowed (take c.loop-index.len c.loop-index.buf)) (take_all _ _ (omega (arith, c.loop-index-test.false)))
    (ArePutInRoom-puts (take c.loop-index.index elements) c.args.group.now.allowed (length c.args.buf.now) (take c.args.len c.args.buf.now) (take c.loop-index.len c.loop-index.buf)
    c.loop-index.invariant.are_put)

pub returns-clause-ids : goal.returns-clause-ids
returns-clause-ids g c = subst (λ (es : List Element). HasNone es 0) (take_all _ _ (omega (arith, c.loop-index-test.false))) c.loop-index.invariant.no_zero

pub returns-clause-within : goal.returns-clause-within
returns-clause-within g c = omega (arith, c.loop-index.invariant.within, c.loop-index.invariant.same_length)
