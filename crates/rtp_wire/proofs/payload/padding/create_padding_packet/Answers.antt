use Rattle.rtp_wire.proofs.Common.{◌<◌, ℕ, List, ap, ◌∙◌, arith, overwritten, padding_bytes}
use Rattle.rtp_wire.proofs.PaddingLemmas.{with_padding_bit-announced, with_padding_bit-same}
use Rattle.rtp_wire.proofs.payload.padding.create_padding_packet.Goals as goal

pub set_padding_bit-requires : goal.set_padding_bit-requires
set_padding_bit-requires c =
    let wanted : 0 < c.args.pad_len = omega arith in
    omega (arith, c.requires.room wanted c.padding_len-count.result c.padding_len-count.ensures.length)

pub put_padding-requires-clause-room : goal.put_padding-requires-clause-room
put_padding-requires-clause-room c =
    let wanted : 0 < c.args.pad_len = omega arith in
    omega (arith, c.requires.room wanted c.padding_len-count.result c.padding_len-count.ensures.length)

pub returns-clause-announced : goal.returns-clause-announced
returns-clause-announced c wanted after padding extension sources first =
    let room = c.requires.room wanted c.padding_len-count.result c.padding_len-count.ensures.length in
    let put : List ℕ = padding_bytes c.padding_len-count.result in
    with_padding_bit-announced c.args.buf.now c.put_padding.new.buf put c.args.header_len padding extension sources
    (omega (arith, room, c.padding_len-count.ensures.some)) after
    (c.put_padding.ensures ∙ ap (λ (bytes : List ℕ). overwritten bytes c.args.header_len put) c.set_padding_bit.ensures) first

pub returns-clause-put : goal.returns-clause-put
returns-clause-put c wanted extension sources first =
    let put : List ℕ = padding_bytes c.padding_len-count.result in
    c.put_padding.ensures ∙ ap (λ (bytes : List ℕ). overwritten bytes c.args.header_len put)
    (c.set_padding_bit.ensures ∙ with_padding_bit-same c.args.buf.now extension sources first)
