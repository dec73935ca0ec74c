use Rattle.rtp_wire.proofs.Common.{ap, ◌∙◌, arith, w16, w32, to_be_bytes, bit}
use Rattle.rtp_wire.proofs.FixedLemmas.{fixed_put}
use Rattle.rtp_wire.proofs.header.fixed_part.fixed_bytes.Goals as goal

pub returns-clause-bytes : goal.returns-clause-bytes
returns-clause-bytes g c =
    fixed_put (record (g.F.GetFields.header c.args.fields.now) { has_extension = c.args.has_extension }) _ _ _ _ _ _ _ _
    c.put.ensures.written c.put-2.ensures.written c.put-3.ensures.written
    (c.to_be_bytes.ensures ∙ ap (to_be_bytes w16) c.fixed-fixed.ensures.sequence_number)
    (c.to_be_bytes-2.ensures ∙ ap (to_be_bytes w32) c.fixed-fixed.ensures.timestamp)
    (c.to_be_bytes-3.ensures ∙ ap (to_be_bytes w32) (c.get-2.ensures ∙ c.fixed-fixed.ensures.ssrc))
    (omega (arith, c.flag.ensures, ap bit c.fixed-fixed.ensures.has_padding, c.flag-2.ensures, c.fixed-fixed.ensures.csrc_count))
    (omega (arith, c.flag-3.ensures, ap bit c.fixed-fixed.ensures.marker, c.get.ensures, c.fixed-fixed.ensures.payload_type))
