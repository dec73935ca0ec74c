use Rattle.rtp_listing.proofs.Common.{◌*◌, ◌≤◌, ℕ, List, length, take, length-take-le, take-take, decode_of, arith, refl, sym, ap, ◌∙◌}
use Rattle.rtp_wire.specs.PartsAt.{header_end}
use Rattle.rtp_listing.proofs.DecodedLemmas.{decoded-nothing}
use Rattle.rtp_listing.proofs.HeaderBytesLemmas.{IsOk-front, decoded-half, HoldsHeader-all, HoldsHeader-within, HoldsHeader-longer}
use Rattle.rtp_listing.proofs.header_bytes.decode_header.Goals as goal

pub decode_into-requires-clause-before : goal.decode_into-requires-clause-before
decode_into-requires-clause-before c = decoded-nothing

pub returns-then-all-le-FRONT-clause-header : goal.returns-then-all-le-FRONT-clause-header
returns-then-all-le-FRONT-clause-header c datagram decoded = HoldsHeader-all c.args.line.now datagram _ decoded c.in_ok-decode_into.ensures.decoded

pub slice_bounds-decode_into-end : goal.slice_bounds-decode_into-end
slice_bounds-decode_into-end c = sym (length-take-le 160 c.args.line.now (omega arith))

pub decode_into-requires-2-clause-hex : goal.decode_into-requires-2-clause-hex
decode_into-requires-2-clause-hex c = IsOk-front c.args.line.now 160 (omega arith) refl c.requires

pub decode_into-requires-2-clause-before : goal.decode_into-requires-2-clause-before
decode_into-requires-2-clause-before c = decoded-nothing

pub slice_bounds-header_len-end : goal.slice_bounds-header_len-end
slice_bounds-header_len-end c =
    sym (length-take-le 80 c.deref.result.now (omega (arith, c.deref.ensures.len, c.in_ok-decode_into-2.ensures.within, length-take-le 160 c.args.line.now (omega arith))))

pub header_len-requires : goal.header_len-requires
header_len-requires c =
    let room : 80 ≤ length c.deref.result.now = omega (arith, c.deref.ensures.len, c.in_ok-decode_into-2.ensures.within, length-take-le 160 c.args.line.now (omega arith)) in
    omega (arith, length-take-le 80 c.deref.result.now room)

pub decode_into-requires-then-len-gt-FRONT-clause-hex : goal.decode_into-requires-then-len-gt-FRONT-clause-hex
decode_into-requires-then-len-gt-FRONT-clause-hex c = IsOk-front c.args.line.now _ (omega arith) (omega arith) c.requires

pub decode_into-requires-then-len-gt-FRONT-clause-held : goal.decode_into-requires-then-len-gt-FRONT-clause-held
decode_into-requires-then-len-gt-FRONT-clause-held c = omega (arith, c.in_ok-decode_into-2.ensures.within, length-take-le 160 c.args.line.now (omega arith))

pub decode_into-requires-then-len-gt-FRONT-clause-before : goal.decode_into-requires-then-len-gt-FRONT-clause-before
decode_into-requires-then-len-gt-FRONT-clause-before c =
    ap decode_of (take-take 160 (2 * c.min-len.result) c.args.line.now (omega arith))
    ∙ decoded-half c.args.line.now c.decode_into-2.new.bytes.items 80 (omega arith) c.in_ok-decode_into-2.ensures.decoded

pub returns-in_ok-decode_into-3-clause-header : goal.returns-in_ok-decode_into-3-clause-header
returns-in_ok-decode_into-3-clause-header c datagram decoded =
    let end = c.header_len.ensures ∙ ap (λ (xs : List ℕ). header_end (take 80 xs)) c.deref.ensures.value in
    HoldsHeader-longer c.args.line.now datagram c.decode_into-2.new.bytes.items 80 c.min-len.result decoded (omega arith) (omega arith)
    (omega (arith, c.in_ok-decode_into-2.ensures.within, length-take-le 160 c.args.line.now (omega arith)))
    c.in_ok-decode_into-2.ensures.decoded (omega (arith, end, c.min-len.ensures)) _
    (omega (arith, c.in_ok-decode_into-3.ensures.within, length-take-le (2 * c.min-len.result) c.args.line.now (omega arith))) c.in_ok-decode_into-3.ensures.decoded

pub returns-else-len-gt-FRONT-clause-within : goal.returns-else-len-gt-FRONT-clause-within
returns-else-len-gt-FRONT-clause-within c = omega (arith, c.in_ok-decode_into-2.ensures.within, length-take-le 160 c.args.line.now (omega arith))

pub returns-else-len-gt-FRONT-clause-header : goal.returns-else-len-gt-FRONT-clause-header
returns-else-len-gt-FRONT-clause-header c datagram decoded =
    let end = c.header_len.ensures ∙ ap (λ (xs : List ℕ). header_end (take 80 xs)) c.deref.ensures.value in
    HoldsHeader-within c.args.line.now datagram c.decode_into-2.new.bytes.items 80 c.min-len.result decoded (omega arith) (omega arith)
    (omega (arith, c.in_ok-decode_into-2.ensures.within, length-take-le 160 c.args.line.now (omega arith)))
    c.in_ok-decode_into-2.ensures.decoded (omega (arith, end, c.min-len.ensures)) c.if-len-gt-FRONT.false
