-- The bits of a mask: those of a word from one to before another.
use Rattle.rtp_base.proofs.Common.{◌≡◌, ◌-◌, ◌*◌, ◌/◌, ◌%◌, ◌^◌, ◌<◌, ◌≤◌, ℕ, bit_and, refl, ◌∙◌, arith, bit_at_and, bit_at_ones, bit_at_ones_above, bit_at_mask_inside, bit_at_mask_below, ones_shl, ones_shr, bit_at}

pub mask-inside : (from to k : ℕ) → to ≤ 64 → from ≤ k → k < to → bit_at (bit_and ((2 ^ 64 - 1) * 2 ^ from % 2 ^ 64) ((2 ^ 64 - 1) / 2 ^ (64 - to))) k ≡ 1
mask-inside from to k within low high =
    bit_at_and _ _ k
    ∙ rw (ones_shl 64 from (omega arith), ones_shr 64 (64 - to) (omega arith))
    (let back : 64 - (64 - to) ≡ to = omega arith in rw back (rw (bit_at_mask_inside from 64 k low (omega arith), bit_at_ones to k high) refl))

pub mask-before : (from to k : ℕ) → from < to → to ≤ 64 → k < from → bit_at (bit_and ((2 ^ 64 - 1) * 2 ^ from % 2 ^ 64) ((2 ^ 64 - 1) / 2 ^ (64 - to))) k ≡ 0
mask-before from to k some within low =
    bit_at_and _ _ k ∙ rw (ones_shl 64 from (omega arith), bit_at_mask_below from 64 k low) (omega arith)

pub mask-after : (from to k : ℕ) → to ≤ 64 → to ≤ k → bit_at (bit_and ((2 ^ 64 - 1) * 2 ^ from % 2 ^ 64) ((2 ^ 64 - 1) / 2 ^ (64 - to))) k ≡ 0
mask-after from to k within high =
    bit_at_and _ _ k
    ∙ rw (ones_shr 64 (64 - to) (omega arith))
    (let back : 64 - (64 - to) ≡ to = omega arith in rw (back, bit_at_ones_above to k high) (omega arith))
