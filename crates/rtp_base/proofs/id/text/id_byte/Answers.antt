use Rattle.rtp_base.proofs.Common.{◌≡◌, ℕ, ◌<◌, map, get_or, refl, ap, ◌∙◌, arith, range_with_len, get_or-map-range_with_len, id_char}
use Rattle.rtp_base.specs.declared.id.text.TheConstants.{KEPT}
use Rattle.rtp_base.proofs.id.text.id_byte.Goals as goal

-- the table has what is kept for each byte
table_is : KEPT ≡ map id_char (range_with_len 0 256)
table_is = refl

read : (b : ℕ) → b < 256 → get_or KEPT b 0 ≡ id_char b
read b h = ap (λ t. get_or t b 0) table_is ∙ get_or-map-range_with_len id_char 0 256 b b 0 h (omega arith)

pub returns : goal.returns
returns c = rw c.from.ensures (read c.args.byte (omega arith))
