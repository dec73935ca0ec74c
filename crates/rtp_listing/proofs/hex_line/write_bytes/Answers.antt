use Rattle.std.proofs.Common.{ℕ, ◌*◌, take, ap, arith, ◌∙◌}
use Rattle.std.specs.Prelude.{Ok}
use Rattle.rtp_listing.proofs.HexLineLemmas.{decoded_front}
use Rattle.rtp_listing.proofs.DecodedLemmas.{decoded-behind}
use Rattle.hex.proofs.Pairs.{decode_step}
use Rattle.hex.proofs.HexLemmas.{decode_of-even}
use Rattle.rtp_listing.proofs.hex_line.write_bytes.Goals as goal

pub loop-i-init : goal.loop-i-init
loop-i-init c = decoded-behind c.args.digits.now _ (2 * c.args.from) c.requires.within (omega arith) c.requires.before

pub loop-i-preserved : goal.loop-i-preserved
loop-i-preserved c =
    decode_step c.args.digits.now c.loop-i.bytes c.loop-i.i _ (omega arith) (omega arith) (c.byte_of.ensures (2 * c.loop-i.i)) c.loop-i.invariant

pub returns : goal.returns
returns c =
    decode_of-even c.args.digits.now c.requires.even
    ∙ decoded_front c.args.digits.now c.loop-i.bytes c.loop-i.i (omega arith) (omega arith) c.loop-i.invariant
    ∙ ap (λ (n : ℕ). Ok (take n c.loop-i.bytes)) (omega arith)
