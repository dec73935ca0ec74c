use Rattle.std.proofs.Common.{◌≡◌, ◌∙◌, ap, sym, List, ℕ, None, length, rules, arith}
use Rattle.rtp_c.proofs.PlacesLemmas.{AreInPlaces-padded}
use Rattle.rtp_c.proofs.layers.Layer.tell.Goals as goal

pub returns-in-Some : goal.returns-in-Some
returns-in-Some c bare = record {
  rates_are = AreInPlaces-padded 4 c.args.layer.now.temporal_layers c.places-self.result (omega (arith, ap (λ (xs : List ℕ). length xs) c.temporal_layers.ensures.layers, c.temporal_layers.ensures.few)) c.places-self.ensures;
  count_is = ap (λ (xs : List ℕ). length xs) c.temporal_layers.ensures.layers;
  width_is = search rules;
  height_is = search rules;
  framerate_is = search rules;
}

pub returns-in_default : goal.returns-in_default
returns-in_default c bare =
    let none : c.args.layer.now.resolution_and_framerate ≡ None = sym c.resolution_and_framerate.ensures ∙ c.in_default.is in
    record {
      rates_are = AreInPlaces-padded 4 c.args.layer.now.temporal_layers c.places-self.result (omega (arith, ap (λ (xs : List ℕ). length xs) c.temporal_layers.ensures.layers, c.temporal_layers.ensures.few)) c.places-self.ensures;
      count_is = ap (λ (xs : List ℕ). length xs) c.temporal_layers.ensures.layers;
      width_is = rw none bare.width_is;
      height_is = rw none bare.height_is;
      framerate_is = rw none bare.framerate_is;
    }
