use Rattle.rtp_base.proofs.BitmapLemmas.{shifted-test}
use Rattle.rtp_base.proofs.seq_no_window.is_set.Goals as goal

pub returns : goal.returns
returns c = shifted-test c.args.bits c.args.index c.requires
