use Rattle.std.proofs.Common.{ℕ, [], ◌∷◌, ap, ◌∙◌, arith}
use Rattle.rtp_base.specs.Overwriting.{overwritten}
use Rattle.rtp_route.proofs.RetransmittedLemmas.{padding-bit}
use Rattle.rtp_route.proofs.in_place.clear_padding.Goals as goal

pub returns : goal.returns
returns c =
    let header = c.args.header.now in
    c.put.ensures.written ∙ ap (λ (b : ℕ). overwritten header 0 (b ∷ [])) (padding-bit _ (omega (arith, c.type_inv.header 0)))
