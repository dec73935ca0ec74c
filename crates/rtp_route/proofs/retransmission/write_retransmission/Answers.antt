use Rattle.std.proofs.Common.{List, ℕ, ◌∙◌, ap, take_at, rules}
use Rattle.rtp_route.specs.Retransmitted.{with_number}
use Rattle.rtp_route.specs.Template.{with_data, data_lengths, pieces}
use Rattle.rtp_route.proofs.RetransmittedLemmas.{again-of}
use Rattle.rtp_route.proofs.retransmission.write_retransmission.Goals as goal

pub returns-clause-routed : goal.returns-clause-routed
returns-clause-routed g c old ids news allowed is =
    let own = c.write_joined.new.buf in
    again-of old c.args.fields.now c.args.original_number ids (with_data news (pieces (data_lengths news) c.args.bytes.now)) allowed own c.send_again.new.buf (c.write_joined.ensures.routed old ids news allowed is)
    (c.send_again.ensures ∙ ap (λ (bytes : List ℕ). with_number bytes c.args.original_number) (take_at own _ c.header_len-header_len.result (search rules)))
