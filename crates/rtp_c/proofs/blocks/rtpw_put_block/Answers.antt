use Rattle.rtp_c.proofs.Common.{◌≡◌, ◌≤◌, ◌*◌, ◌%◌, length, rules, arith, refl, sym, pos, false≢true}
use Rattle.rtp_c.specs.ChangedBlock.{IsBlockFault, cut_packet, cut_word, long}
use Rattle.rtp_c.specs.Status.{short_buffer}
use Rattle.rtp_c.proofs.StatusLemmas.{bad_field≢ok, long_block≢ok, short_buffer≢ok}
use Rattle.rtp_c.proofs.BlockLemmas.{PutsBlock-with, fault-kept, none-kept}
use Rattle.rtp_c.proofs.blocks.rtpw_put_block.Goals as goal
use Rattle.rtp_c.proofs.blocks.rtpw_put_block.Goals.{In-Err-put_block, In-Ok-put_block, then-len-buf-via-then-len-buf, then-len-buf-via-else-len-buf+then-body-ne0}

pub returns-then-len-buf-clause-refused : goal.returns-then-len-buf-clause-refused
returns-then-len-buf-clause-refused c = (
  λ _. (
    pos 9,
    elim c.then-len-buf.branch [
      | then-len-buf-via-then-len-buf w ↦ cut_packet (search rules) refl
      | then-len-buf-via-else-len-buf+then-body-ne0 w ↦ cut_word (search rules) refl
    ],
  ),
  λ _ is_ok. bad_field≢ok is_ok,
)

pub returns-then-body-clause-refused : goal.returns-then-body-clause-refused
returns-then-body-clause-refused c = (λ _. (pos 15, long (search rules) (search rules) (search rules) refl), λ _ is_ok. long_block≢ok is_ok)

-- there is no room
fault : (c : In-Err-put_block) → IsBlockFault c.args.buf.now c.args.len.now c.args.body.now short_buffer
fault c =
    let whole : length c.args.body.now % 4 ≡ 0 = search rules in
    let few : length c.args.body.now ≤ 4 * 65535 = omega (arith, c.if-body.false) in
    fault-kept c.new-packet.result c.args.buf.now c.args.body.now c.args.len.now c.new-packet.ensures.same_bytes c.new-packet.ensures.length (whole, few) c.in-Err-put_block.field-0
    c.in-Err-put_block.ensures.cause.applies

pub returns-in-Err-put_block-clause-fault : goal.returns-in-Err-put_block-clause-fault
returns-in-Err-put_block-clause-fault c = λ _. fault (goal.at.returns-in-Err-put_block-clause-fault c).In-Err-put_block

pub returns-in-Err-put_block-clause-refused : goal.returns-in-Err-put_block-clause-refused
returns-in-Err-put_block-clause-refused c = (λ _. (pos 8, fault (goal.at.returns-in-Err-put_block-clause-refused c).In-Err-put_block), λ _ is_ok. short_buffer≢ok is_ok)

pub returns-in-Ok-put_block-clause-put : goal.returns-in-Ok-put_block-clause-put
returns-in-Ok-put_block-clause-put c = λ _.
    PutsBlock-with c.new-packet.result c.put_block.new.self c.args.buf.now _ c.args.len.now _ c.new-packet.ensures.same_bytes c.new-packet.ensures.length (search rules) (sym c.len.ensures.length)
    c.args.profile c.args.body.now c.in-Ok-put_block.ensures.parts c.in-Ok-put_block.ensures.profile

pub returns-in-Ok-put_block-clause-refused : goal.returns-in-Ok-put_block-clause-refused
returns-in-Ok-put_block-clause-refused c = (
  λ wrong. absurd (wrong refl),
  λ fact _.
      let whole : length c.args.body.now % 4 ≡ 0 = search rules in
      let few : length c.args.body.now ≤ 4 * 65535 = omega (arith, c.if-body.false) in
      none-kept c.new-packet.result c.args.buf.now c.args.body.now c.args.len.now c.new-packet.ensures.same_bytes c.new-packet.ensures.length (whole, few) fact.0 fact.1
      (λ cause kept. false≢true (c.in-Ok-put_block.ensures.refused.1 (cause, kept))),
)
