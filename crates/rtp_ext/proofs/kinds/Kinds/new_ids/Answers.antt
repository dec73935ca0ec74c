use Rattle.std.proofs.Common.{ℕ, ◌+◌, set, replicate, refl, sym, subst}
use Rattle.rtp_ext.proofs.NewIdLemmas.{HasNewBytesTo, HasNewBytesTo-start, HasNewBytesTo-next, AreNewBytes-table}
use Rattle.rtp_ext.proofs.kinds.Kinds.new_ids.Goals as goal

pub loop-id-init : goal.loop-id-init
loop-id-init g c = HasNewBytesTo-start (g.Self.Kinds.slots c.args.self.now) (g.Self.Kinds.slots c.args.other.now) (replicate 256 0) refl

pub loop-id-preserved : goal.loop-id-preserved
loop-id-preserved g c =
    let new = c.id_under.ensures in
    subst (λ (byte : ℕ). HasNewBytesTo (g.Self.Kinds.slots c.args.self.now) (g.Self.Kinds.slots c.args.other.now) (set c.loop-id.new-items c.loop-id.id byte) (c.loop-id.id + 1)) (sym c.unwrap_or.ensures)
    (HasNewBytesTo-next (g.Self.Kinds.slots c.args.self.now) (g.Self.Kinds.slots c.args.other.now) c.loop-id.new-items c.loop-id.id c.id_under.result c.loop-id-test.true c.loop-id.invariant new.new new.valid new.no_others)

pub returns : goal.returns
returns g c = AreNewBytes-table (g.Self.Kinds.slots c.args.self.now) (g.Self.Kinds.slots c.args.other.now) c.loop-id.new-items c.loop-id.id c.loop-id-test.false c.loop-id.invariant
