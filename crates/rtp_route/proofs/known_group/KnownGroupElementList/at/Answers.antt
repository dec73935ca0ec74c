use Rattle.std.proofs.Common.{◌≡◌, ℕ, List, replicate, take, get_or, Some, sym, ap, ◌∙◌, arith}
use Rattle.std.proofs.lemmas.List.{take-replicate}
use Rattle.rtp_route.specs.GroupLaws.{element-at, length-elements}
use Rattle.rtp_route.proofs.known_group.KnownGroupElementList.at.Goals as goal

pub returns : goal.returns
returns c =
    let known = c.args.self.now in
    let group = known.group.now in
    let index = c.args.index in
    let zeros : take c.from-len.result (replicate 255 0) ≡ replicate (get_or group.data_lens index 0) 0 =
    take-replicate c.from-len.result 255 0 (omega arith) ∙ ap (λ (n : ℕ). replicate n 0) c.from-len.ensures in
    element-at group index known.is_group.few known.ids known.lens (omega (arith, c.requires, length-elements group known.is_group.few known.ids known.lens))
    ∙ ap (λ (bytes : List ℕ). Some (get_or group.element_ids index 0, bytes)) (sym zeros)
