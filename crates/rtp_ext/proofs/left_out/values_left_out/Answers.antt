use Rattle.std.proofs.Common.{refl}
use Rattle.rtp_ext.specs.ExtensionMap.{items_from}
use Rattle.rtp_ext.specs.KindsById.{known_slots}
use Rattle.rtp_ext.proofs.LeftOutLemmas.{left-taken, left-end}
use Rattle.rtp_ext.proofs.left_out.values_left_out.Goals as goal

pub loop-kind-preserved-then-is_some : goal.loop-kind-preserved-then-is_some
loop-kind-preserved-then-is_some g c k =
    left-taken (g.V.ElementValues.values c.args.ev.now) (items_from 0 (known_slots c.args.ids.now)) c.loop-kind.items c.next.new.self c.in-Some.field-0-0 c.in-Some.kind
    c.data_len.result c.is_some.result c.loop-kind.left c.remove.new.self c.in-Some.ensures.some c.data_len.ensures.length c.is_some.ensures c.if-is_some.true
    c.remove.ensures.this c.remove.ensures.others k (c.loop-kind.invariant k)

pub returns : goal.returns
returns g c k =
    left-end c.args.ids.now (known_slots c.args.ids.now) (g.V.ElementValues.values c.args.ev.now) c.loop-kind.items c.loop-kind.left refl c.in_default.ensures.none k
    (c.loop-kind.invariant k)
