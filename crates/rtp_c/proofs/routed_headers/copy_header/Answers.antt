use Rattle.std.proofs.Common.{arith}
use Rattle.rtp_route.proofs.TemplateLemmas.{whole-put}
use Rattle.rtp_c.proofs.routed_headers.copy_header.Goals as goal

pub returns : goal.returns
returns c = whole-put c.args.buf.now c.put_header.new.buf c.args.header.now c.put_header.ensures (omega (arith, c.requires, c.put_header.auto.buf))
