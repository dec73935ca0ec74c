use Rattle.rtp_c.proofs.Common.{arith, ap, ◌∙◌, get_or, kind_numbered}
use Rattle.rtp_c.proofs.NumberedLemmas.{extension_numbered}
use Rattle.rtp_c.proofs.kinds.StoredMapKinds.get.Goals as goal

pub returns : goal.returns
returns c =
    extension_numbered c.args.self.now.kind c.args.id c.kind_numbered.result (omega (arith, c.if-id-eq0.false))
    (c.kind_numbered.ensures ∙ ap (λ id. kind_numbered (get_or c.args.self.now.kind id 0)) c.from.ensures)
