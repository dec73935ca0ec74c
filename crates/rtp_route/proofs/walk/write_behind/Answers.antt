use Rattle.std.proofs.Common.{arith}
use Rattle.rtp_route.proofs.WalkLemmas.{header-short}
use Rattle.rtp_route.proofs.walk.write_behind.Goals as goal

pub put_element-requires-clause-room : goal.put_element-requires-clause-room
put_element-requires-clause-room c = omega (arith, header-short c.args.form c.args.id c.args.bytes.now, c.if-at-bytes.false)

pub returns-clause-within : goal.returns-clause-within
returns-clause-within c = omega (arith, c.put_element.ensures.end, header-short c.args.form c.args.id c.args.bytes.now, c.if-at-bytes.false)
