use Rattle.std.proofs.Common.{arith, eq-eqb}
use Rattle.std.proofs.lemmas.Bool.{eqb-true}
use Rattle.rtp_c.proofs.IdBytesLemmas.{text-zero, zero-text}
use Rattle.rtp_c.proofs.given.is_mid_text.Goals as goal

pub returns : goal.returns
returns c =
    let run = c.id_bytes_in_front in (
      λ zero. text-zero c.args.bytes.now run.result (omega arith) run.ensures.few run.ensures.before run.ensures.stops (eqb-true _ _ zero),
      λ is. eq-eqb _ _ (zero-text c.args.bytes.now run.result (omega arith) run.ensures.few run.ensures.before run.ensures.stops is),
    )
