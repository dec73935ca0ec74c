use Rattle.std.proofs.Common.{arith, rules, ◌≡◌, ◌<◌, ℕ, refl}
use Rattle.rtp_values.specs.declared.standard.color_space.HdrMetadata.{HdrMetadata}
use Rattle.rtp_values.specs.Values.{big_endian}
use Rattle.rtp_values.specs.Spelling.{bytes_of_number}
use Rattle.rtp_values.specs.StandardColor.{hdr_in, hdr_numbers, numbers_data}
use Rattle.rtp_values.proofs.standard.color_space.hdr_numbers.Goals as goal

abbrev again : ℕ → ℕ
again n = big_endian (bytes_of_number 2 n)

again-is : (n : ℕ) → n < 65536 → again n ≡ n
again-is n fits = omega arith

hdr-same : (h : HdrMetadata) (max min rx ry gx gy bx by wx wy content average : ℕ) → max ≡ h.luminance_max → min ≡ h.luminance_min
    → rx ≡ h.red.x → ry ≡ h.red.y → gx ≡ h.green.x → gy ≡ h.green.y → bx ≡ h.blue.x → by ≡ h.blue.y → wx ≡ h.white.x → wy ≡ h.white.y
    → content ≡ h.max_content_light_level → average ≡ h.max_frame_average_light_level
    → record {
      luminance_max = max;
      luminance_min = min;
      red = record { x = rx; y = ry };
      green = record { x = gx; y = gy };
      blue = record { x = bx; y = by };
      white = record { x = wx; y = wy };
      max_content_light_level = content;
      max_frame_average_light_level = average;
    } ≡ h
hdr-same h max min rx ry gx gy bx by wx wy content average a b c d e f g i j k l m = rw (a, b, c, d, e, f, g, i, j, k, l, m) refl

hdr-again : (h : HdrMetadata) → h.luminance_max < 65536 → h.luminance_min < 65536 → h.red.x < 65536 → h.red.y < 65536 → h.green.x < 65536 → h.green.y < 65536
    → h.blue.x < 65536 → h.blue.y < 65536 → h.white.x < 65536 → h.white.y < 65536 → h.max_content_light_level < 65536 → h.max_frame_average_light_level < 65536
    → hdr_in (numbers_data (hdr_numbers h)) ≡ h
hdr-again h a b c d e f g i j k l m =
    hdr-same h _ _ _ _ _ _ _ _ _ _ _ _ (again-is _ a) (again-is _ b) (again-is _ c) (again-is _ d) (again-is _ e) (again-is _ f)
    (again-is _ g) (again-is _ i) (again-is _ j) (again-is _ k) (again-is _ l) (again-is _ m)

pub returns-clause-back : goal.returns-clause-back
returns-clause-back c =
    hdr-again c.args.hdr (search rules) (search rules) (search rules) (search rules) (search rules) (search rules)
    (search rules) (search rules) (search rules) (search rules) (search rules) (search rules)
