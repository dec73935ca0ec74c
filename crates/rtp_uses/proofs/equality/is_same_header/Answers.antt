use Rattle.std.proofs.lemmas.Bool.Decides.{Decides-at}
use Rattle.rtp_uses.proofs.EqualityLemmas.{headers}
use Rattle.rtp_uses.proofs.equality.is_same_header.Goals as goal

pub returns : goal.returns
returns c = Decides-at _ _ c.eq.ensures (headers c.args.a.now c.args.b.now)
