-- Where memory is refused.
use Rattle.std.proofs.Common.{Result, Ok, Err, OnErr}

pub OnErr-from : {T E : Type 0} (r : Result T E) (P : Type 0) → P → OnErr r P
OnErr-from (Ok x) P p = tt
OnErr-from (Err e) P p = p
