use Rattle.rtp_c.proofs.Common.{take, drop, arith, refl, false≢true}
use Rattle.rtp_wire.proofs.CompactLemmas.{Compacts-front}
use Rattle.rtp_c.proofs.growing.rtpw_compact.Goals as goal

pub returns-in-Ok-clause-compacted : goal.returns-in-Ok-clause-compacted
returns-in-Ok-clause-compacted c = λ _.
    Compacts-front (take c.args.len.now c.args.buf.now) c.compact.new.datagram (drop c.args.len.now c.args.buf.now) c.in-Ok.new_len
    (let within = c.in-Ok.ensures.within in let long = c.compact.auto.datagram in omega arith) c.in-Ok.ensures.compacted

pub returns-in-Ok-clause-refused : goal.returns-in-Ok-clause-refused
returns-in-Ok-clause-refused c = λ within. (λ wrong. absurd (wrong refl), λ no _. false≢true (c.in-Ok.ensures.refused.1 no))
