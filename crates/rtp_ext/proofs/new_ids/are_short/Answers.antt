use Rattle.rtp_ext.proofs.Common.{◌≡◌, ◌∙◌, ◌≤◌, ◌<◌, ◌%◌, ◌^◌, ap, refl, sym, ℕ, Bool, true, false, eqb, ltb, take, map, length, get_or, List, arith, w8, OnTrue, eqb-true, ltb-false, length-take-le, length-map}
use lib.Lanes.{mask_l}
use lib.ListN.{replicate}
use Rattle.std.proofs.lemmas.Simd.{tops_compared, zip2_splat_left, mask_l-mod, none_from_empty_mask}
use Rattle.rtp_ext.proofs.new_ids.are_short.Goals as goal

-- where no bit is set for those above 14, none is above
none-above : (bytes : List ℕ) (mask : ℕ) (test : Bool) → 8 ≤ length bytes → test ≡ eqb mask 0 → mask ≡ mask_l (map (λ (x : ℕ). ltb 14 x) (take 8 bytes))
    → OnTrue test ((k : ℕ) → k < 8 → get_or bytes k 0 ≤ 14)
none-above bytes mask false long is bits = tt
none-above bytes mask true long is bits = λ k few.
    ltb-false 14 (get_or bytes k 0)
    (none_from_empty_mask (λ (x : ℕ). ltb 14 x) bytes 0 8 0 long (sym bits ∙ eqb-true mask 0 (sym is)) k (omega arith) (omega arith))

pub returns : goal.returns
returns c =
    let bytes = c.args.ids.now in
    let lanes = take 8 bytes in
    let long : length lanes ≡ 8 = length-take-le 8 bytes (omega (arith, c.requires)) in
    none-above bytes _ _ (omega (arith, c.requires)) refl
    (ap (λ ms. mask_l ms % 2 ^ 64) (tops_compared w8 ltb (replicate 8 14) lanes ∙ zip2_splat_left ltb 14 8 lanes long)
    ∙ mask_l-mod (map (λ (x : ℕ). ltb 14 x) lanes) 64 (omega (arith, length-map lanes (λ (x : ℕ). ltb 14 x), long)))
