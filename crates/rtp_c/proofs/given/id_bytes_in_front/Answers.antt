use Rattle.std.proofs.Common.{ℕ, leb, cond, bit_and, refl}
use Rattle.std.proofs.lemmas.Simd.{zip2_splat, zip2_of_maps, splat_is_map, length-chunk}
use lib.Lanes.{chunk}
use Rattle.rtp_c.proofs.IdBytesLemmas.{few_in_front, before_in_front, stops_in_front}
use Rattle.rtp_c.proofs.given.id_bytes_in_front.Goals as goal

pub returns : goal.returns
returns c =
    let v = chunk 0 16 c.args.bytes.now in
    let long = length-chunk 0 16 c.args.bytes.now c.requires in
    let letters = zip2_of_maps (λ a b. cond (leb a b) 255 0) _ _ v (splat_is_map v 16 26 long)
    (zip2_of_maps _ _ _ v (zip2_splat {Y = ℕ} _ v 16 32 long) (splat_is_map v 16 97 long)) in
    let digits = zip2_of_maps (λ a b. cond (leb a b) 255 0) _ _ v (splat_is_map v 16 10 long) (zip2_splat {Y = ℕ} _ v 16 48 long) in
    let ids = zip2_of_maps bit_and _ _ v (zip2_of_maps bit_and _ _ v letters digits) (zip2_splat {Y = ℕ} _ v 16 95 long) in
    record {
      few = few_in_front c.args.bytes.now _ _ c.requires c.type_inv.bytes c.lowest_of_16.ensures _ ids refl;
      before = before_in_front c.args.bytes.now _ _ c.requires c.type_inv.bytes c.lowest_of_16.ensures _ ids refl;
      stops = stops_in_front c.args.bytes.now _ _ c.requires c.type_inv.bytes c.lowest_of_16.ensures _ ids refl;
    }
