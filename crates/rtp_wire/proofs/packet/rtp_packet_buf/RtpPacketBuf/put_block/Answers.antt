use Rattle.std.proofs.Common.{refl, ap, ◌∙◌}
use Rattle.std.specs.Int.{w16, from_be_bytes}
use Rattle.std.proofs.lemmas.Nat.{from_be_bytes-to_be_bytes_2}
use Rattle.rtp_wire.specs.PartsAt.{form_of_word}
use Rattle.std.proofs.lemmas.Bool.{false≢true}
use Rattle.rtp_wire.specs.declared.packet.block_not_put.BlockNotPut.TheVariants.{NoRoom}
use Rattle.rtp_wire.proofs.HeaderFound.{found-form_of_word}
use Rattle.rtp_wire.proofs.PacketLemmas.{one_packet}
use Rattle.rtp_wire.proofs.ReplacedLemmas.{needed-is, none-before, none-at-all, IsPacket-with, IsKept-with, behind-with, profile-with}
use Rattle.rtp_wire.proofs.packet.rtp_packet_buf.RtpPacketBuf.put_block.Goals as goal

pub returns-then-needed-self-clause-cause : goal.returns-then-needed-self-clause-cause
returns-then-needed-self-clause-cause c = record {
  applies = (needed-is c.args.self.now c.sources_end-block_at.result c.sources_end-block_at.ensures c.args.profile c.args.body.now, c.if-needed-self.true);
  none_before = none-before c.args.self.now c.sources_end-block_at.result c.sources_end-block_at.ensures c.args.profile c.args.body.now c.if-body-ne0.false c.if-body-gt-MAX_BODY_LEN.false _;
}

pub returns-then-needed-self-clause-refused : goal.returns-then-needed-self-clause-refused
returns-then-needed-self-clause-refused c = (
  λ _. (NoRoom _, (needed-is c.args.self.now c.sources_end-block_at.result c.sources_end-block_at.ensures c.args.profile c.args.body.now, c.if-needed-self.true)),
  λ _. refl,
)

pub invariant_of-self : goal.invariant_of-self
invariant_of-self c =
    IsKept-with c.args.self.now c.sources_end-block_at.result c.sources_end-block_at.ensures c.args.profile c.args.body.now c.splice_block.new.buf c.splice_block.ensures
    c.ranges.profile.fits c.if-body-ne0.false c.if-body-gt-MAX_BODY_LEN.false c.if-needed-self.false _
    (found-form_of_word (from_be_bytes w16 c.to_be_bytes.result) c.parse-self.result c.parse-self.ensures.found c.parse-self.ensures.only
    ∙ ap form_of_word (ap (from_be_bytes w16) c.to_be_bytes.ensures ∙ from_be_bytes-to_be_bytes_2 c.args.profile c.ranges.profile.fits))

pub returns-clause-parts : goal.returns-clause-parts
returns-clause-parts c =
    one_packet _ _ (IsPacket-with c.args.self.now c.sources_end-block_at.result c.sources_end-block_at.ensures c.args.profile c.args.body.now c.splice_block.new.buf c.splice_block.ensures
    c.ranges.profile.fits c.if-body-ne0.false c.if-body-gt-MAX_BODY_LEN.false c.if-needed-self.false)

pub returns-clause-profile : goal.returns-clause-profile
returns-clause-profile c =
    profile-with c.args.self.now c.sources_end-block_at.result c.sources_end-block_at.ensures c.args.profile c.args.body.now c.splice_block.new.buf c.splice_block.ensures
    c.ranges.profile.fits c.if-body-ne0.false c.if-body-gt-MAX_BODY_LEN.false c.if-needed-self.false

pub returns-clause-behind : goal.returns-clause-behind
returns-clause-behind c =
    behind-with c.args.self.now c.sources_end-block_at.result c.sources_end-block_at.ensures c.args.profile c.args.body.now c.splice_block.new.buf c.splice_block.ensures
    c.ranges.profile.fits c.if-body-ne0.false c.if-body-gt-MAX_BODY_LEN.false c.if-needed-self.false

pub returns-clause-refused : goal.returns-clause-refused
returns-clause-refused c = (
  λ wrong. absurd (false≢true wrong),
  λ fact. absurd (none-at-all c.args.self.now c.sources_end-block_at.result c.sources_end-block_at.ensures c.args.profile c.args.body.now c.if-body-ne0.false c.if-body-gt-MAX_BODY_LEN.false _ c.if-needed-self.false fact.0 fact.1),
)
