use Rattle.rtp_vla.proofs.UpToLemmas.{place_left, pushed_padded}
use Rattle.rtp_vla.proofs.up_to.UpTo.push.Goals as goal

pub invariant_of-self : goal.invariant_of-self
invariant_of-self g c =
    let items = c.self.inside.items in
    let count = c.self.inside.len in
    pushed_padded _ _ items count c.args.item c.self.invariant (place_left _ _ items _ count c.self.invariant c.self.view_is c.requires)
