use Rattle.rtp_ext.proofs.Common.{map, id_in_byte}
use Rattle.rtp_ext.proofs.NewIdLemmas.{AreNewBytes-new, CarriesExtensions-new}
use Rattle.rtp_ext.proofs.new_ids.NewIds.between.Goals as goal

pub returns-clause-ids : goal.returns-clause-ids
returns-clause-ids g c = AreNewBytes-new (g.K.Kinds.slots c.args.from.now) (g.K.Kinds.slots c.args.to.now) c.new_ids.result c.new_ids.ensures

pub returns-clause-carries : goal.returns-clause-carries
returns-clause-carries g c = CarriesExtensions-new (g.K.Kinds.slots c.args.from.now) (g.K.Kinds.slots c.args.to.now) (map id_in_byte c.new_ids.result) (returns-clause-ids g c)
