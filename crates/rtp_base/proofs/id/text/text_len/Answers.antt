use Rattle.rtp_base.proofs.Common.{arith, sym, ne_eqb, eq-eqb, position_or_len_is}
use Rattle.rtp_base.proofs.IdLemmas.{is_space}
use Rattle.rtp_base.proofs.id.text.text_len.Goals as goal

pub returns-in-Some-clause-index : goal.returns-in-Some-clause-index
returns-in-Some-clause-index c =
    let found = c.in-Some.ensures.found in
    sym (position_or_len_is is_space c.args.bytes.now c.in-Some.index 0 (omega (arith, found.0))
    (λ k below. ne_eqb _ 32 (found.2 k below)) (λ _. eq-eqb _ 32 found.1))

pub returns-in-None-clause-index : goal.returns-in-None-clause-index
returns-in-None-clause-index c =
    sym (position_or_len_is is_space c.args.bytes.now _ 0 (omega arith) (λ k below. ne_eqb _ 32 (c.in-None.ensures.none k below)) (λ within. absurd (omega arith)))
