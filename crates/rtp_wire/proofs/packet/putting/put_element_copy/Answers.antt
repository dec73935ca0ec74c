use Rattle.rtp_wire.proofs.Common.{refl}
use Rattle.rtp_wire.specs.declared.packet.not_put.NotPut.TheVariants.{CutPacket}
use Rattle.rtp_wire.proofs.ChangedPackets.{HasLayout-read}
use Rattle.rtp_wire.proofs.packet.putting.put_element_copy.Goals as goal

pub returns-then-len-buf-clause-refused : goal.returns-then-len-buf-clause-refused
returns-then-len-buf-clause-refused g c = (λ _. (CutPacket, c.if-len-buf.true), λ _. refl)

pub new-packet-requires-clause-layout : goal.new-packet-requires-clause-layout
new-packet-requires-clause-layout g c = HasLayout-read c.in_ok-packet.packet _ c.in_ok-packet.ensures.bytes c.in_ok-packet.ensures.found
