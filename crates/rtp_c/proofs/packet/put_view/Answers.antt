use Rattle.rtp_c.proofs.Common.{◌≡◌, ℕ, ap, ◌∙◌, sym, arith, rules, length, header_len_of, parts_of, datagram_of, length-packet, slice_at}
use Rattle.rtp_c.proofs.PacketLemmas.{body-at, payload-at}
use Rattle.rtp_c.proofs.packet.put_view.Goals as goal

pub returns : goal.returns
returns c =
    let parts = parts_of c.args.packet.now in
    let bytes = datagram_of c.args.packet.now in
    let header = c.header_len-view.result in
    let header_is : header ≡ header_len_of parts = c.header_len-view.ensures in
    let block = c.put_block.ensures in
    let at = c.put_block.new.body_at in
    let payload_is = c.payload.ensures in
    record {
      padding_is = search rules;
      marker_is = search rules;
      payload_type_is = search rules;
      number_is = search rules;
      timestamp_is = search rules;
      ssrc_is = search rules;
      sources_are = search rules;
      form_is = block.number;
      profile_is = block.profile;
      body_is = ap (slice_at bytes at) block.body ∙ body-at bytes parts c.requires at (omega (arith, block.ends, block.body));
      body_ends = block.ends ∙ sym header_is;
      payload_is = ap (λ (n : ℕ). slice_at bytes header n) (ap length payload_is)
          ∙ ap (λ (n : ℕ). slice_at bytes n (length parts.payload)) header_is ∙ payload-at bytes parts c.requires;
      payload_ends = omega (arith, header_is, ap length payload_is, length-packet bytes parts c.requires);
      unpadded_is = c.unpadded_len_of-unpadded_len.ensures;
    }
