use Rattle.rtp_vla.proofs.Common.{◌≡◌, ◌++◌, ℕ, ap, drop, length, sym, ◌∙◌, arith, ⊎_elim, shortest_of, overwritten-front}
use Rattle.rtp_vla.proofs.LebSpellingLemmas.{IsShortest-shortest_of, length-shortest_of}
use Rattle.rtp_vla.proofs.leb.encode_leb_u63.Goals as goal

pub returns-clause-written : goal.returns-clause-written
returns-clause-written c =
    let len : c.put_leb.result ≡ length (shortest_of c.args.value) = omega (arith, c.put_leb.ensures.end) in
    c.put_leb.ensures.written ∙ overwritten-front c.args.buf.now (shortest_of c.args.value)
    ∙ ap (λ (n : ℕ). shortest_of c.args.value ++ drop n c.args.buf.now) (sym len)

pub returns-clause-shortest : goal.returns-clause-shortest
returns-clause-shortest c = IsShortest-shortest_of c.args.value c.requires.small

pub put_leb-requires-clause-room : goal.put_leb-requires-clause-room
put_leb-requires-clause-room c =
    ⊎_elim (λ nine. omega (arith, (length-shortest_of c.args.value c.requires.small).1)) (λ room. omega arith) c.requires.room
