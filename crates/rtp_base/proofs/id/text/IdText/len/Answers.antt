use Rattle.rtp_base.proofs.Common.{◌∙◌, ap, position_or_len}
use Rattle.rtp_base.proofs.IdLemmas.{count-text, is_space}
use Rattle.rtp_base.proofs.id.text.IdText.len.Goals as goal

pub returns-then-this-eq16-clause-index : goal.returns-then-this-eq16-clause-index
returns-then-this-eq16-clause-index g c =
    c.count_kept.ensures ∙ count-text c.self.inside.bytes c.self.invariant ∙ ap (position_or_len is_space) c.self.view_is
