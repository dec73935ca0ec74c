use Rattle.rtp_vla.proofs.Common.{sym, subst, arith, ⊎_elim, inr, refl, false≢true}
use Rattle.rtp_vla.proofs.AllocationParts.{AreBytes, AreBytes-from}
use Rattle.rtp_vla.proofs.AllocationLayout.{laid_out_layers}
use Rattle.rtp_vla.proofs.AllocationMeaning.{laid_out_from, packed_from, packed_only}
use Rattle.rtp_vla.proofs.parsing.read_into.Goals as goal

pub returns-in_default-clause-only : goal.returns-in_default-clause-only
returns-in_default-clause-only g c a =
    ⊎_elim
    (λ nothing. absurd (false≢true (c.if-says_nothing.ensures.1 nothing.0)))
    (λ p. absurd (c.in_default.ensures.refused _ _ _ (laid_out_from c.args.buf.now a p)))

pub put_streams-requires-clause-enough : goal.put_streams-requires-clause-enough
put_streams-requires-clause-enough g c = omega (arith, laid_out_layers _ _ _ _ c.in-Some.ensures.found)

pub returns-clause-found : goal.returns-clause-found
returns-clause-found g c =
    let all : AreBytes c.args.buf.now = AreBytes-from c.args.buf.now (λ i. omega (arith, c.type_inv.buf i)) in
    (_, inr (packed_from _ _ _ _ all c.in-Some.ensures.found), c.put_streams.ensures _ c.begin-2.ensures.begun)

pub returns-clause-only : goal.returns-clause-only
returns-clause-only g c a =
    ⊎_elim
    (λ nothing. absurd (false≢true (c.if-says_nothing.ensures.1 nothing.0)))
    (λ p. (refl, subst (g.L.SetLayers.shows c.put_streams.new.layers) (sym (packed_only _ _ _ _ a c.in-Some.ensures.found p)) (c.put_streams.ensures _ c.begin-2.ensures.begun)))
