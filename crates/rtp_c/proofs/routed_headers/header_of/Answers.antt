use Rattle.rtp_c.proofs.Common.{◌≡◌, [], length, refl, ap, ◌∙◌, arith, false≢true}
use Rattle.rtp_wire.specs.Packet.{PacketParts}
use Rattle.rtp_wire.specs.PartsOf.{parts_of}
use Rattle.rtp_c.specs.RoutedHeaders.{payload}
use Rattle.rtp_c.proofs.RoutedLemmas.{no-bytes, all-header}
use Rattle.rtp_c.proofs.routed_headers.header_of.Goals as goal

pub returns-then-header_len-len-clause-whole : goal.returns-then-header_len-len-clause-whole
returns-then-header_len-len-clause-whole c =
    let header = c.in-Ok.header in
    let all = all-header c.args.bytes.now c.args.made.now.header_len (parts_of header) c.requires.there c.in-Ok.ensures.found in (
      λ wrong. absurd (false≢true wrong),
      λ whole.
          let same : parts_of header ≡ whole.is_header.parts = c.in-Ok.ensures.only whole.is_header.parts whole.is_header.is_packet in
          let none : length (parts_of header).payload ≡ 0 = ap (λ (p : PacketParts). length p.payload) same ∙ ap length whole.is_header.no_payload in
          absurd (c.if-header_len-len.true (omega (arith, all, none, c.header_len.ensures))),
    )

pub returns-then-header_len-len-clause-status : goal.returns-then-header_len-len-clause-status
returns-then-header_len-len-clause-status c =
    let header = c.in-Ok.header in
    let all = all-header c.args.bytes.now c.args.made.now.header_len (parts_of header) c.requires.there c.in-Ok.ensures.found in
    payload (parts_of header) c.requires c.in-Ok.ensures.found
    (λ (none : (parts_of header).payload ≡ []). c.if-header_len-len.true (omega (arith, all, ap length none, c.header_len.ensures)))
    refl

pub returns-clause-whole : goal.returns-clause-whole
returns-clause-whole c =
    let header = c.in-Ok.header in
    let all = all-header c.args.bytes.now c.args.made.now.header_len (parts_of header) c.requires.there c.in-Ok.ensures.found in (
      λ _. record {
        in_range = c.requires;
        is_header = record {
          parts = parts_of header;
          is_packet = c.in-Ok.ensures.found;
          no_payload = no-bytes (parts_of header).payload (omega (arith, all, c.header_len.ensures, c.if-header_len-len.false));
        };
      },
      λ _. refl,
    )

pub returns-in-Err-clause-whole : goal.returns-in-Err-clause-whole
returns-in-Err-clause-whole c = (
  λ wrong. absurd (false≢true wrong),
  λ whole. absurd (c.in-Err.ensures.only whole.is_header.parts whole.is_header.is_packet),
)
