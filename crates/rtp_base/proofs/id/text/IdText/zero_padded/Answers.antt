use Rattle.rtp_base.proofs.Common.{◌≡◌, ◌<◌, ◌≤◌, ◌++◌, length, map, take, drop, get_or, set, arith, ap, ◌∙◌, take_all, append-nil}
use Rattle.std.proofs.lemmas.List.{get_or_default, drop_all, length-map, length-append, length-drop, length-take-le}
use Rattle.std.proofs.lemmas.List.Edits.{map_over_more}
use Rattle.rtp_base.specs.Id.{zero_padded, before_padding}
use Rattle.rtp_base.proofs.IdLemmas.{without_space, zero_padded-map}
use Rattle.rtp_base.proofs.id.text.IdText.zero_padded.Goals as goal

pub loop-i-preserved : goal.loop-i-preserved
loop-i-preserved g c =
    let old = c.self.inside.bytes in
    let bytes = c.loop-i.bytes in
    let i = c.loop-i.i in
    let within : i < length old = omega (arith, c.self.told, c.loop-i-test.true) in
    let long : length bytes ≡ length old =
    omega (arith, ap length c.loop-i.invariant, length-append (map without_space (take i old)) (drop i old), length-map (take i old) without_space, length-take-le i old, length-drop i old, within) in
    ap (set bytes i) c.without_space.ensures
    ∙ map_over_more without_space old bytes i (get_or bytes i 0) within c.loop-i.invariant (get_or_default bytes i 0 (get_or bytes i 0) (omega (arith, long, within)))

pub returns : goal.returns
returns g c =
    let old = c.self.inside.bytes in
    let all : length old ≤ c.loop-i.i = omega (arith, c.self.told, c.loop-i-test.false) in
    c.loop-i.invariant
    ∙ (λ j. map without_space (take_all c.loop-i.i old all j) ++ drop_all c.loop-i.i old all j)
    ∙ append-nil (map without_space old)
    ∙ zero_padded-map old c.self.invariant
    ∙ (λ j. zero_padded (c.self.told j) (before_padding (c.self.view_is j)))
