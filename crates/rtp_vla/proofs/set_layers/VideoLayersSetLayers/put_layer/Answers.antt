use Rattle.rtp_vla.proofs.Common.{◌≤◌, ◌∙◌, ap, subst, sym, arith, List, length, Allocation, Stream, layer_room}
use Rattle.rtp_vla.proofs.SettingLemmas.{room_put, length_put}
use Rattle.rtp_vla.proofs.set_layers.VideoLayersSetLayers.put_layer.Goals as goal

pub returns-clause-layers : goal.returns-clause-layers
returns-clause-layers c =
    let same = ap (λ (a : Allocation). a.simulcast_streams) c.self.view_is in
    room_put _ _ _ (subst (λ (ss : List Stream). 1 ≤ layer_room ss) (sym same) c.requires) c.push_layer.ensures ∙ ap layer_room same

pub returns-clause-streams : goal.returns-clause-streams
returns-clause-streams c =
    let same = ap (λ (a : Allocation). a.simulcast_streams) c.self.view_is in
    let long = length_put _ _ _ (subst (λ (ss : List Stream). 1 ≤ layer_room ss) (sym same) c.requires) c.push_layer.ensures in
    omega (arith, long, ap (λ (ss : List Stream). length ss) same)
