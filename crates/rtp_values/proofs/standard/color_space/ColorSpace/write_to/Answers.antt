use Rattle.std.proofs.Common.{arith, ◌≡◌, ◌≤◌, ℕ, ◌/◌, ◌%◌, List, [], ◌∷◌, length, Option, Some, None, refl, ap, ◌∙◌}
use Rattle.rtp_base.specs.Overwriting.{overwritten}
use Rattle.rtp_base.proofs.OverwritingLemmas.{overwritten-overwritten}
use Rattle.rtp_values.specs.declared.standard.color_space.ColorRange.{ColorRange}
use Rattle.rtp_values.specs.declared.standard.color_space.ColorRange.TheVariants.{Unknown, Limited, Full, Derived}
use Rattle.rtp_values.specs.declared.standard.color_space.ChromaSiting.{ChromaSiting}
use Rattle.rtp_values.specs.declared.standard.color_space.ChromaSiting.TheVariants.{Unspecified, Collocated, Half}
use Rattle.rtp_values.specs.declared.standard.color_space.ColorSpace.{ColorSpace}
use Rattle.rtp_values.specs.declared.standard.color_space.HdrMetadata.{HdrMetadata}
use Rattle.rtp_values.specs.StandardColor.{range_number, range_in, siting_number, siting_in, sampling_byte, hdr_in, hdr_numbers, numbers_data, color_in, color_data}
use Rattle.rtp_values.proofs.standard.color_space.ColorSpace.write_to.Goals as goal

range-again : (r : ColorRange) → range_in (range_number r) ≡ r
range-again Unknown = refl
range-again Limited = refl
range-again Full = refl
range-again Derived = refl

siting-again : (s : ChromaSiting) → siting_in (siting_number s) ≡ s
siting-again Unspecified = refl
siting-again Collocated = refl
siting-again Half = refl

range-small : (r : ColorRange) → range_number r ≤ 3
range-small Unknown = omega arith
range-small Limited = omega arith
range-small Full = omega arith
range-small Derived = omega arith

siting-small : (s : ChromaSiting) → siting_number s ≤ 2
siting-small Unspecified = omega arith
siting-small Collocated = omega arith
siting-small Half = omega arith

range-is : (s : ColorSpace) → range_in (sampling_byte s / 16 % 4) ≡ s.range
range-is s =
    let bits : sampling_byte s / 16 % 4 ≡ range_number s.range = omega (arith, range-small s.range, siting-small s.horizontal, siting-small s.vertical) in
    ap range_in bits ∙ range-again s.range

horizontal-is : (s : ColorSpace) → siting_in (sampling_byte s / 4 % 4) ≡ s.horizontal
horizontal-is s =
    let bits : sampling_byte s / 4 % 4 ≡ siting_number s.horizontal = omega (arith, range-small s.range, siting-small s.horizontal, siting-small s.vertical) in
    ap siting_in bits ∙ siting-again s.horizontal

vertical-is : (s : ColorSpace) → siting_in (sampling_byte s % 4) ≡ s.vertical
vertical-is s =
    let bits : sampling_byte s % 4 ≡ siting_number s.vertical = omega (arith, range-small s.range, siting-small s.horizontal, siting-small s.vertical) in
    ap siting_in bits ∙ siting-again s.vertical

color-same : (s : ColorSpace) (range : ColorRange) (horizontal vertical : ChromaSiting) (hdr again : Option HdrMetadata)
    → range ≡ s.range → horizontal ≡ s.horizontal → vertical ≡ s.vertical → again ≡ hdr
    → record {
      primaries = s.primaries;
      transfer = s.transfer;
      matrix = s.matrix;
      range = range;
      horizontal = horizontal;
      vertical = vertical;
      hdr = again;
    } ≡ record s { hdr = hdr }
color-same s range horizontal vertical hdr again range-is horizontal-is vertical-is hdr-is = rw (range-is, horizontal-is, vertical-is, hdr-is) refl

back-None : (s : ColorSpace) → s.hdr ≡ None → color_in (color_data s) ≡ s
back-None s is = rw is (color-same s _ _ _ _ _ (range-is s) (horizontal-is s) (vertical-is s) refl)

back-Some : (s : ColorSpace) (hdr : HdrMetadata) → s.hdr ≡ Some hdr → hdr_in (numbers_data (hdr_numbers hdr)) ≡ hdr → color_in (color_data s) ≡ s
back-Some s hdr is back = rw is (color-same s _ _ _ _ _ (range-is s) (horizontal-is s) (vertical-is s) (ap Some back))

written-Some : (s : ColorSpace) (hdr : HdrMetadata) (buf mid new numbers : List ℕ) (end sampling : ℕ) → 28 ≤ length buf → s.hdr ≡ Some hdr → sampling ≡ sampling_byte s
    → numbers ≡ hdr_numbers hdr → mid ≡ overwritten buf 0 (s.primaries ∷ s.transfer ∷ s.matrix ∷ sampling ∷ []) → end ≡ 4 → new ≡ overwritten mid end (numbers_data numbers)
    → new ≡ overwritten buf 0 (color_data s)
written-Some s hdr buf mid new numbers end sampling room is sampling-is numbers-are first end-is put =
    let front = s.primaries ∷ s.transfer ∷ s.matrix ∷ sampling_byte s ∷ [] in
    let next : overwritten mid end (numbers_data numbers) ≡ overwritten (overwritten buf 0 front) 4 (numbers_data (hdr_numbers hdr)) = rw (first, end-is, numbers-are, sampling-is) refl in
    rw is (put ∙ next ∙ overwritten-overwritten buf front (numbers_data (hdr_numbers hdr)) 0 4 (omega arith) (omega arith))

pub returns-in-Some-clause-written : goal.returns-in-Some-clause-written
returns-in-Some-clause-written c =
    written-Some c.args.self.now c.in-Some.hdr c.args.buf.now c.put-end.new.buf c.put_numbers.new.buf c.hdr_numbers.result c.put-end.result c.sampling-sampling.result
    c.requires.room c.in-Some.is c.sampling-sampling.ensures c.hdr_numbers.ensures.numbers c.put-end.ensures.written c.put-end.ensures.end c.put_numbers.ensures.written

pub returns-in-Some-clause-back : goal.returns-in-Some-clause-back
returns-in-Some-clause-back c = back-Some c.args.self.now c.in-Some.hdr c.in-Some.is c.hdr_numbers.ensures.back

pub returns-in-None-clause-back : goal.returns-in-None-clause-back
returns-in-None-clause-back c = back-None c.args.self.now c.in-None.is
