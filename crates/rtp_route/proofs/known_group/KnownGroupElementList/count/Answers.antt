use Rattle.std.proofs.Common.{◌∙◌, sym}
use Rattle.rtp_route.specs.GroupLaws.{length-elements}
use Rattle.rtp_route.proofs.known_group.KnownGroupElementList.count.Goals as goal

pub returns : goal.returns
returns c =
    let known = c.args.self.now in
    c.from.ensures ∙ sym (length-elements known.group.now known.is_group.few known.ids known.lens)
