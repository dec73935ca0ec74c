use Rattle.rtp_vla.proofs.AllocationWriting.{can_be_written-from, written_means}
use Rattle.rtp_vla.proofs.writing.write_to.Goals as goal

pub returns-clause-means : goal.returns-clause-means
returns-clause-means c = (written_means c.args.v.now (can_be_written-from c.args.v.now c.requires.writable)).0
