use Rattle.std.proofs.lemmas.Bool.{OnTrue_at}
use Rattle.rtp_c.proofs.kinds.StoredMap.numbers_end.Goals as goal

pub returns-then-has_low_ids_alone-clause-zeros : goal.returns-then-has_low_ids_alone-clause-zeros
returns-then-has_low_ids_alone-clause-zeros c id above below = OnTrue_at c.if-has_low_ids_alone.true c.has_low_ids_alone.ensures id above
