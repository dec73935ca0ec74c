use Rattle.rtp_c.proofs.Common.{◌≡◌, ℕ, ◌+◌, ◌-◌, ◌++◌, length, take, drop, ap, ◌∙◌, arith, length-take, length-drop}
use Rattle.rtp_base.proofs.OverwritingLemmas.{overwritten-copied}
use Rattle.rtp_route.specs.Calls as calls
use Rattle.rtp_route.proofs.ByCallsLemmas.{header_in-length}
use Rattle.rtp_route.proofs.LengthLemmas.{short-header}
use Rattle.rtp_c.specs.SetFields.{fields_given}
use Rattle.rtp_c.specs.StoredTemplate.{slots_of}
use Rattle.rtp_c.proofs.RoutedLemmas.{receivers-again}
use Rattle.rtp_c.proofs.routed_headers.write_again.Goals as goal

pub overflow_add-len : goal.overflow_add-len
overflow_add-len c = omega (arith, c.header_len-len.ensures, short-header c.args.header.now)

pub returns-clause-written : goal.returns-clause-written
returns-clause-written c =
    let receiver = c.args.receiver.now in
    let own = c.write_retransmission.new.buf in
    let buf = c.args.buf.now in
    let at = c.args.at in
    let len = c.header_len-len.result + 2 in
    let own_len : len ≡ length own = omega (arith, c.write_retransmission.auto.buf, c.if-buf-at.false, c.requires.place, length-take (at + len - at) (drop at buf), length-drop at buf) in
    record {
      len_is = omega (arith, c.header_len-len.ensures, header_in-length c.args.header.now);
      within = omega (arith, c.if-buf-at.false, c.requires.place);
      own = own;
      again = receivers-again (calls.header_in c.args.header.now) (slots_of c.args.slots.made.now) (fields_given receiver.fields) c.given_fields-fields.result receiver.original_number c.args.own.now own c.given_fields-fields.ensures c.requires.lengths
          c.write_retransmission.ensures.filled;
      after_is = ap (λ (n : ℕ). take at buf ++ (own ++ drop (at + n - at) (drop at buf))) own_len ∙ overwritten-copied buf own at;
    }
