use Rattle.std.proofs.Common.{ℕ, List, ap, ◌∙◌, set}
use Rattle.rtp_wire.proofs.PaddingLemmas.{overwritten-padding}
use Rattle.rtp_wire.proofs.payload.padding.put_padding.Goals as goal

pub returns : goal.returns
returns c =
    ap (λ (bytes : List ℕ). set bytes c.put_zeros-last.result c.args.count) c.put_zeros-last.ensures.written
    ∙ overwritten-padding c.args.buf.now c.args.at c.args.count c.put_zeros-last.result c.requires.some c.requires.room c.put_zeros-last.ensures.end
