use Rattle.rtp_wire.proofs.Common.{◌≡◌, ◌-◌, ◌∙◌, arith, length, sym, get_or_from_slice_get, padding_count}
use Rattle.rtp_wire.proofs.PaddingLemmas.{IsUnpadded-cut}
use Rattle.rtp_wire.proofs.payload.padding.unpad_payload.Goals as goal

pub returns-clause-found : goal.returns-clause-found
returns-clause-found c =
    let bytes = c.args.buf.now in
    let count : c.from.result ≡ padding_count bytes =
    c.from.ensures ∙ sym (get_or_from_slice_get bytes (length bytes - 1) c.in-Some.count.now 0 (sym c.in-Some.ensures.value)) in
    let cut = c.in_ok-len.ensures in
    IsUnpadded-cut bytes c.in_ok-len.len (omega (arith, cut, count)) (omega (arith, cut, count))
