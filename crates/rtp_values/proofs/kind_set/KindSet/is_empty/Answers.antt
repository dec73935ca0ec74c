use Rattle.rtp_values.proofs.KindSetLemmas.{clear-exactly}
use Rattle.rtp_values.proofs.kind_set.KindSet.is_empty.Goals as goal

pub returns : goal.returns
returns c = clear-exactly c.self.inside.flags _ c.contains.result c.self.view_is c.self.told c.contains.ensures.value
