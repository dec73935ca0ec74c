use Rattle.std.proofs.Common.{◌≡◌, ◌+◌, ◌∙◌, ℕ, List, length, map, drop, sym, ap, drop_at, length-take, arith}
use Rattle.std.proofs.lemmas.List.{drop-drop}
use Rattle.std.specs.Borrow.{Bor}
use Rattle.rtp_route.specs.Template.{with_data}
use Rattle.rtp_route.specs.TemplateOf.{header_len_in}
use Rattle.rtp_route.proofs.LengthLemmas.{short-header}
use Rattle.rtp_route.proofs.OneHeaderLemmas.{are_taken}
use Rattle.rtp_route.proofs.RetransmittedLemmas.{again-in_front, one-again}
use Rattle.rtp_route.proofs.template.HeaderTemplate.write_retransmission.Goals as goal

pub overflow_add-header_len : goal.overflow_add-header_len
overflow_add-header_len c = omega (arith, c.header_len-header_len.ensures, short-header c.args.self.now.header)

pub slice_bounds-send_again-end : goal.slice_bounds-send_again-end
slice_bounds-send_again-end c = omega (arith, c.in_ok-len.ensures.length.0, c.in_ok-len.ensures.length.1, c.write_before.auto.buf)

pub slice_bounds-send_again-end-2 : goal.slice_bounds-send_again-end-2
slice_bounds-send_again-end-2 c = omega (arith, c.in_ok-len.ensures.length.0, c.in_ok-len.ensures.length.1, c.write_before.auto.buf, length-take c.in_ok-len.len c.write_before.new.buf)

pub send_again-requires-clause-room : goal.send_again-requires-clause-room
send_again-requires-clause-room c = omega (arith, c.in_ok-len.ensures.length.0, c.in_ok-len.ensures.length.1, c.write_before.auto.buf, length-take c.in_ok-len.len c.write_before.new.buf)

pub returns-clause-routed : goal.returns-clause-routed
returns-clause-routed c old ids news allowed is =
    let self = c.args.self.now in
    let elements = with_data news (map (λ (b : Bor (List ℕ)). b.now) c.args.contents.now) in
    let wrote = c.write_before.new.buf in
    let again = again-in_front old c.args.fields.now c.args.original_number ids elements allowed (header_len_in self) c.header_len-header_len.result c.in_ok-len.len wrote c.send_again.new.buf
    c.header_len-header_len.ensures (omega (arith, c.in_ok-len.ensures.length.0)) (omega (arith, c.send_again.auto.buf, c.in_ok-len.ensures.length.1, c.in_ok-len.ensures.length.0, c.write_before.auto.buf, length-take c.in_ok-len.len wrote)) (c.in_ok-len.ensures.routed old ids news allowed is) c.send_again.ensures in
    again

pub returns-clause-only : goal.returns-clause-only
returns-clause-only c old ids news allowed is header bytes other =
    let self = c.args.self.now in
    let elements = with_data news (map (λ (b : Bor (List ℕ)). b.now) c.args.contents.now) in
    let wrote = c.write_before.new.buf in
    let again = again-in_front old c.args.fields.now c.args.original_number ids elements allowed (header_len_in self) c.header_len-header_len.result c.in_ok-len.len wrote c.send_again.new.buf
    c.header_len-header_len.ensures (omega (arith, c.in_ok-len.ensures.length.0)) (omega (arith, c.send_again.auto.buf, c.in_ok-len.ensures.length.1, c.in_ok-len.ensures.length.0, c.write_before.auto.buf, length-take c.in_ok-len.len wrote)) (c.in_ok-len.ensures.routed old ids news allowed is) c.send_again.ensures in
    one-again old c.args.fields.now c.args.original_number ids elements allowed header _ bytes (are_taken c.in_ok-len.len _ (λ k. omega (arith, c.type_inv.buf k))) other again

pub returns-clause-behind : goal.returns-clause-behind
returns-clause-behind c =
    let n = header_len_in c.args.self.now in
    let len : c.in_ok-len.len ≡ n + 2 = omega (arith, c.in_ok-len.ensures.length.0, c.header_len-header_len.ensures) in
    let wrote = c.write_before.new.buf in
    let long : length c.send_again.new.buf ≡ c.in_ok-len.len = omega (arith, c.send_again.auto.buf, c.in_ok-len.ensures.length.1, c.in_ok-len.ensures.length.0, c.write_before.auto.buf, length-take c.in_ok-len.len wrote) in
    drop_at c.send_again.new.buf (drop c.in_ok-len.len wrote) c.in_ok-len.len long
    ∙ ap (λ (k : ℕ). drop k wrote) len
    ∙ sym (drop-drop 2 n wrote)
    ∙ ap (drop 2) c.in_ok-len.ensures.behind
    ∙ drop-drop 2 n c.args.buf.now
    ∙ ap (λ (k : ℕ). drop k c.args.buf.now) (sym len)
