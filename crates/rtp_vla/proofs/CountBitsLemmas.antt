-- The counts of layers in a number of 32 bits, which is put as bytes.
use Rattle.rtp_vla.proofs.Common.{◌≡◌, ℕ, suc, ◌+◌, ◌-◌, ◌*◌, ◌/◌, ◌%◌, ◌<◌, ◌≤◌, List, [], ◌∷◌, ◌++◌, length, take, drop, map, refl, ap, ◌∙◌, arith, length-drop, AllByRecursion, mul-le, nil_from_length, Layer, IsCounted, count_of, quarters_of, count_bits, weight_after}

-- the count of the first layer, and 0 where there is none
abbrev first_count : List Layer → ℕ
first_count [] = 0
first_count (layer ∷ layers) = count_of layer

quarters_step : (layer : Layer) (layers : List Layer) → quarters_of (map count_of (layer ∷ layers))
    ≡ (64 * count_of layer + 16 * first_count layers + 4 * first_count (drop 1 layers) + first_count (drop 1 (drop 1 layers))) ∷ quarters_of (map count_of (drop 1 (drop 1 (drop 1 layers))))
quarters_step layer [] = λ i. short i ∷ []
  where
    short : 64 * count_of layer ≡ 64 * count_of layer + 16 * 0 + 4 * 0 + 0
    short = omega arith
quarters_step layer (a ∷ []) = λ i. short i ∷ []
  where
    short : 64 * count_of layer + 16 * count_of a ≡ 64 * count_of layer + 16 * count_of a + 4 * 0 + 0
    short = omega arith
quarters_step layer (a ∷ b ∷ []) = λ i. short i ∷ []
  where
    short : 64 * count_of layer + 16 * count_of a + 4 * count_of b ≡ 64 * count_of layer + 16 * count_of a + 4 * count_of b + 0
    short = omega arith
quarters_step layer (a ∷ b ∷ c ∷ layers) = refl

-- ---- What counts weigh

pub count_bits-append : (weight : ℕ) (xs ys : List Layer) → count_bits weight (xs ++ ys) ≡ count_bits weight xs + count_bits (weight_after weight xs) ys
count_bits-append weight [] ys = omega arith
count_bits-append weight (x ∷ xs) ys = omega (arith, count_bits-append (weight / 4) xs ys)

count_small : (count weight : ℕ) → count ≤ 3 → count * weight ≤ 3 * weight
count_small count weight few = mul-le count weight 3 weight few (omega arith)

count_bits-small : (weight : ℕ) (layers : List Layer) → AllByRecursion IsCounted layers → count_bits weight layers ≤ 4 * weight - 1
count_bits-small weight [] fit = omega arith
count_bits-small weight (layer ∷ layers) fit =
    omega (arith, count_small (count_of layer) weight (omega (arith, fit.0)), count_bits-small (weight / 4) layers fit.1)

-- ---- The bytes of counts

abbrev after_four : List Layer → List Layer
after_four layers = drop 1 (drop 1 (drop 1 layers))

-- the byte of a layer's count and of the three after it
abbrev byte_of : Layer → List Layer → ℕ
byte_of layer layers = 64 * count_of layer + 16 * first_count layers + 4 * first_count (drop 1 layers) + first_count (drop 1 (drop 1 layers))

step-one : (layer : Layer) (layers : List Layer) → count_bits 64 (layer ∷ layers) ≡ 1 * byte_of layer layers + count_bits 0 (after_four layers)
step-one layer [] = omega arith
step-one layer (a ∷ []) = omega arith
step-one layer (a ∷ b ∷ []) = omega arith
step-one layer (a ∷ b ∷ c ∷ layers) = omega arith

step-two : (layer : Layer) (layers : List Layer) → count_bits 16384 (layer ∷ layers) ≡ 256 * byte_of layer layers + count_bits 64 (after_four layers)
step-two layer [] = omega arith
step-two layer (a ∷ []) = omega arith
step-two layer (a ∷ b ∷ []) = omega arith
step-two layer (a ∷ b ∷ c ∷ layers) = omega arith

step-three : (layer : Layer) (layers : List Layer) → count_bits 4194304 (layer ∷ layers) ≡ 65536 * byte_of layer layers + count_bits 16384 (after_four layers)
step-three layer [] = omega arith
step-three layer (a ∷ []) = omega arith
step-three layer (a ∷ b ∷ []) = omega arith
step-three layer (a ∷ b ∷ c ∷ layers) = omega arith

step-four : (layer : Layer) (layers : List Layer) → count_bits 1073741824 (layer ∷ layers) ≡ 16777216 * byte_of layer layers + count_bits 4194304 (after_four layers)
step-four layer [] = omega arith
step-four layer (a ∷ []) = omega arith
step-four layer (a ∷ b ∷ []) = omega arith
step-four layer (a ∷ b ∷ c ∷ layers) = omega arith

counted_one : (layers : List Layer) → AllByRecursion IsCounted layers → AllByRecursion IsCounted (drop 1 layers)
counted_one [] fit = tt
counted_one (layer ∷ layers) fit = fit.1

counted_after : (layers : List Layer) → AllByRecursion IsCounted layers → AllByRecursion IsCounted (after_four layers)
counted_after layers fit = counted_one (drop 1 (drop 1 layers)) (counted_one (drop 1 layers) (counted_one layers fit))

length-after : (layers : List Layer) → length (after_four layers) ≡ length layers - 3
length-after layers = omega (arith, length-drop 1 layers, length-drop 1 (drop 1 layers), length-drop 1 (drop 1 (drop 1 layers)))

-- those of up to four layers, and of up to eight, twelve and sixteen
bytes-one : (layers : List Layer) → length layers ≤ 4 → quarters_of (map count_of layers) ≡ take ((length layers + 3) / 4) (count_bits 64 layers ∷ [])
bytes-one [] few = refl
bytes-one (layer ∷ layers) few =
    let none : after_four layers ≡ [] = nil_from_length (after_four layers) (omega (arith, few, length-after layers)) in
    let whole : byte_of layer layers ≡ count_bits 64 (layer ∷ layers) = omega (arith, step-one layer layers, ap (count_bits 0) none) in
    let one : 1 ≡ (length (layer ∷ layers) + 3) / 4 = omega (arith, few) in
    quarters_step layer layers
    ∙ (λ i. whole i ∷ quarters_of (map count_of (none i)))
    ∙ ap (λ (n : ℕ). take n (count_bits 64 (layer ∷ layers) ∷ [])) one

bytes-two : (layers : List Layer) → length layers ≤ 8 → AllByRecursion IsCounted layers → quarters_of (map count_of layers)
    ≡ take ((length layers + 3) / 4) (count_bits 16384 layers / 256 ∷ count_bits 16384 layers % 256 ∷ [])
bytes-two [] few fit = refl
bytes-two (layer ∷ layers) few fit =
    let rest = after_four layers in
    let x = count_bits 16384 (layer ∷ layers) in
    let y = count_bits 64 rest in
    let whole : x ≡ 256 * byte_of layer layers + y = step-two layer layers in
    let small : y < 256 = omega (arith, count_bits-small 64 rest (counted_after layers fit.1)) in
    let high : byte_of layer layers ≡ x / 256 = omega (arith, whole, small) in
    let p0 : y ≡ x % 256 = omega (arith, whole, small) in
    let more : suc ((length rest + 3) / 4) ≡ (length (layer ∷ layers) + 3) / 4 = omega (arith, length-after layers) in
    quarters_step layer layers
    ∙ (λ i. high i ∷ (bytes-one rest (omega (arith, few, length-after layers)) ∙ (λ j. take ((length rest + 3) / 4) (p0 j ∷ []))) i)
    ∙ ap (λ (n : ℕ). take n (x / 256 ∷ x % 256 ∷ [])) more

bytes-three : (layers : List Layer) → length layers ≤ 12 → AllByRecursion IsCounted layers → quarters_of (map count_of layers)
    ≡ take ((length layers + 3) / 4) (count_bits 4194304 layers / 65536 ∷ count_bits 4194304 layers / 256 % 256 ∷ count_bits 4194304 layers % 256 ∷ [])
bytes-three [] few fit = refl
bytes-three (layer ∷ layers) few fit =
    let rest = after_four layers in
    let x = count_bits 4194304 (layer ∷ layers) in
    let y = count_bits 16384 rest in
    let whole : x ≡ 65536 * byte_of layer layers + y = step-three layer layers in
    let small : y < 65536 = omega (arith, count_bits-small 16384 rest (counted_after layers fit.1)) in
    let high : byte_of layer layers ≡ x / 65536 = omega (arith, whole, small) in
    let p0 : y / 256 ≡ x / 256 % 256 = omega (arith, whole, small) in
    let p1 : y % 256 ≡ x % 256 = omega (arith, whole, small) in
    let more : suc ((length rest + 3) / 4) ≡ (length (layer ∷ layers) + 3) / 4 = omega (arith, length-after layers) in
    quarters_step layer layers
    ∙ (λ i. high i ∷ (bytes-two rest (omega (arith, few, length-after layers)) (counted_after layers fit.1) ∙ (λ j. take ((length rest + 3) / 4) (p0 j ∷ p1 j ∷ []))) i)
    ∙ ap (λ (n : ℕ). take n (x / 65536 ∷ x / 256 % 256 ∷ x % 256 ∷ [])) more

pub bytes-four : (layers : List Layer) → length layers ≤ 16 → AllByRecursion IsCounted layers → quarters_of (map count_of layers)
    ≡ take ((length layers + 3) / 4) (count_bits 1073741824 layers / 16777216 ∷ count_bits 1073741824 layers / 65536 % 256 ∷ count_bits 1073741824 layers / 256 % 256 ∷ count_bits 1073741824 layers % 256 ∷ [])
bytes-four [] few fit = refl
bytes-four (layer ∷ layers) few fit =
    let rest = after_four layers in
    let x = count_bits 1073741824 (layer ∷ layers) in
    let y = count_bits 4194304 rest in
    let whole : x ≡ 16777216 * byte_of layer layers + y = step-four layer layers in
    let small : y < 16777216 = omega (arith, count_bits-small 4194304 rest (counted_after layers fit.1)) in
    let high : byte_of layer layers ≡ x / 16777216 = omega (arith, whole, small) in
    let p0 : y / 65536 ≡ x / 65536 % 256 = omega (arith, whole, small) in
    let p1 : y / 256 % 256 ≡ x / 256 % 256 = omega (arith, whole, small) in
    let p2 : y % 256 ≡ x % 256 = omega (arith, whole, small) in
    let more : suc ((length rest + 3) / 4) ≡ (length (layer ∷ layers) + 3) / 4 = omega (arith, length-after layers) in
    quarters_step layer layers
    ∙ (λ i. high i ∷ (bytes-three rest (omega (arith, few, length-after layers)) (counted_after layers fit.1) ∙ (λ j. take ((length rest + 3) / 4) (p0 j ∷ p1 j ∷ p2 j ∷ []))) i)
    ∙ ap (λ (n : ℕ). take n (x / 16777216 ∷ x / 65536 % 256 ∷ x / 256 % 256 ∷ x % 256 ∷ [])) more
