use Rattle.rtp_c.proofs.Common.{Result, Ok, Err, IsOk, OnOk, no_values}
use Rattle.rtp_c.proofs.values.put_values.Goals as goal

-- what holds where nothing is refused
there : {T E : Type 0} {P : Type 0} (result : Result T E) → IsOk result → OnOk result P → P
there (Ok x) ok holds = holds
there (Err e) ok holds = cc

pub returns : goal.returns
returns c elements are =
    let read = there c.read_values.result (c.read_values.ensures.succeeds elements are (λ none has. none)) c.read_values.ensures.values elements are
    no_values c.put_no_values.ensures in
    (read.0, read.2, read.1)
