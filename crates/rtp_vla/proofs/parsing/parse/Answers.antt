use Rattle.rtp_vla.proofs.Common.{◌∙◌, sym, subst, ap, arith, List, ⊎_elim, inr, Some, false≢true, Allocation, Stream, IsPacked}
use Rattle.rtp_vla.proofs.AllocationParts.{AreBytes, AreBytes-from}
use Rattle.rtp_vla.proofs.AllocationLayout.{laid_out_layers, laid_out_long}
use Rattle.rtp_vla.proofs.AllocationMeaning.{laid_out_from, packed_from, packed_only, one_meaning}
use Rattle.rtp_vla.proofs.parsing.parse.Goals as goal
use Rattle.rtp_vla.proofs.parsing.parse.Goals.{In-Some}

pub returns-in_default-clause-only : goal.returns-in_default-clause-only
returns-in_default-clause-only c a =
    ⊎_elim
    (λ nothing. absurd (false≢true (c.if-says_nothing.ensures.1 nothing.0)))
    (λ p. absurd (c.in_default.ensures.refused _ _ _ (laid_out_from c.args.buf.now a p)))

pub returns-in_default-clause-one : goal.returns-in_default-clause-one
returns-in_default-clause-one c = one_meaning c.args.buf.now

pub streams_of-requires-clause-enough : goal.streams_of-requires-clause-enough
streams_of-requires-clause-enough c = omega (arith, laid_out_layers _ _ _ _ c.in-Some.ensures.found)

pub returns-in_err-streams_of-clause-one : goal.returns-in_err-streams_of-clause-one
returns-in_err-streams_of-clause-one c = one_meaning c.args.buf.now

pub returns-in_err-streams_of-clause-succeeds : goal.returns-in_err-streams_of-clause-succeeds
returns-in_err-streams_of-clause-succeeds c = λ short. absurd (omega (arith, laid_out_long _ _ _ _ c.in-Some.ensures.found))

pub returns-clause-found : goal.returns-clause-found
returns-clause-found c =
    let all : AreBytes c.args.buf.now = AreBytes-from c.args.buf.now (λ i. omega (arith, c.type_inv.buf i)) in
    inr (subst (λ (streams : List Stream). IsPacked c.args.buf.now (record { current_simulcast_stream_index = c.in-Some.layout.index; simulcast_streams = streams }))
    (sym c.in_ok-streams_of.ensures) (packed_from _ _ _ _ all c.in-Some.ensures.found))

pub returns-clause-only : goal.returns-clause-only
returns-clause-only c a =
    ⊎_elim
    (λ nothing. absurd (false≢true (c.if-says_nothing.ensures.1 nothing.0)))
    (λ p. let same = packed_only _ _ _ _ a c.in-Some.ensures.found p in
    (λ i. Some (record { current_simulcast_stream_index = c.in-Some.layout.index; simulcast_streams = c.in_ok-streams_of.ensures i })) ∙ ap (λ (b : Allocation). Some b) (sym same))

pub returns-clause-one : goal.returns-clause-one
returns-clause-one c = one_meaning c.args.buf.now
