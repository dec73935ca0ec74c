use Rattle.std.proofs.lemmas.Bool.Decides.{Decides-at}
use Rattle.rtp_uses.proofs.EqualityLemmas.{values}
use Rattle.rtp_uses.proofs.equality.is_same_values.Goals as goal

pub returns : goal.returns
returns c = Decides-at _ _ c.eq.ensures (values c.args.a.now c.args.b.now)
