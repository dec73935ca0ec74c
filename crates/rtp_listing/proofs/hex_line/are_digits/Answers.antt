use Rattle.rtp_listing.proofs.Common.{arith, refl, ◌∙◌, eqb-true, eq-eqb, All-from_get_or, IsAsciiHexdigit}
use Rattle.rtp_listing.proofs.HexLineLemmas.{AreDigits-none, AreDigits-more}
use Rattle.rtp_listing.proofs.hex_line.are_digits.Goals as goal

pub loop-byte-init : goal.loop-byte-init
loop-byte-init c = AreDigits-none c.args.bytes.now

pub loop-byte-preserved : goal.loop-byte-preserved
loop-byte-preserved c =
    AreDigits-more c.args.bytes.now c.loop-byte.byte-index c.loop-byte.past _ ((c.type_inv.bytes c.loop-byte.byte-index).fits)
    (c.min-past.ensures ∙ rw (c.saturating_sub-past_9.ensures, c.saturating_sub-past_f.ensures) refl) c.loop-byte.invariant

pub returns : goal.returns
returns c = (
  λ all. All-from_get_or IsAsciiHexdigit c.args.bytes.now 0 (λ k below. c.loop-byte.invariant.sound (eqb-true _ 0 all) k (omega arith)),
  λ each. eq-eqb _ 0 (c.loop-byte.invariant.complete (λ k below. each k 0 (omega arith))),
)
