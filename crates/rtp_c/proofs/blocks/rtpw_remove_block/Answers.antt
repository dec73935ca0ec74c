use Rattle.rtp_c.proofs.Common.{take, arith, rules, refl, sym, no_packet-refused}
use Rattle.rtp_c.proofs.BlockLemmas.{TakesBlockOff-without, shorter}
use Rattle.rtp_c.proofs.blocks.rtpw_remove_block.Goals as goal

pub returns-in-Ok-clause-taken_off : goal.returns-in-Ok-clause-taken_off
returns-in-Ok-clause-taken_off c = λ _.
    TakesBlockOff-without c.new-packet.result c.remove_block.new.self c.args.buf.now _ c.args.len.now _ c.new-packet.ensures.same_bytes c.new-packet.ensures.length (search rules)
    (sym c.len.ensures.length) c.remove_block.ensures.parts

pub returns-in-Ok-clause-within : goal.returns-in-Ok-clause-within
returns-in-Ok-clause-within c = λ _.
    let less = shorter c.new-packet.result c.remove_block.new.self c.remove_block.ensures.parts in
    omega (arith, less, c.new-packet.ensures.length, c.len.ensures.length)

pub returns-in-Ok-clause-refused : goal.returns-in-Ok-clause-refused
returns-in-Ok-clause-refused c = λ _. (
  λ wrong. absurd (wrong refl),
  λ none. absurd (no_packet-refused (take c.args.len.now c.args.buf.now) c.in-Ok.ensures.found.parts none c.in-Ok.ensures.found.is_packet),
)
