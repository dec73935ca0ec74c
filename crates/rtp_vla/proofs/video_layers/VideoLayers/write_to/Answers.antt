use Rattle.rtp_vla.proofs.AllocationWriting.{can_be_written-from, written_means}
use Rattle.rtp_vla.proofs.video_layers.VideoLayers.write_to.Goals as goal

pub returns-clause-means : goal.returns-clause-means
returns-clause-means c = (written_means c.args.self.now (can_be_written-from c.args.self.now c.requires.writable)).0
