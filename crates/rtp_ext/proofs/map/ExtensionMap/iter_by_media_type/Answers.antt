use Rattle.std.proofs.Common.{sym, subst}
use Rattle.rtp_ext.specs.ExtensionMap as spec
use Rattle.rtp_ext.proofs.ListingLemmas.{ListsItems-filter}
use Rattle.rtp_ext.proofs.map.ExtensionMap.iter_by_media_type.Goals as goal

pub returns : goal.returns
returns c =
    subst (spec.ListsItems c.args.self.now (spec.is_of_medium c.args.audio)) (sym c.new.ensures)
    (ListsItems-filter (spec.is_of_medium c.args.audio) c.iter.ensures.listing)
