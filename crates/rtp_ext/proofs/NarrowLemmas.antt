-- Elements that the one-byte form can carry.
use Rattle.rtp_ext.proofs.Common.{List, [], ◌∷◌, arith, AllByRecursion, OneByte, TwoByte, Element, IsWritable}

-- what the one-byte form can carry, the two-byte form can
pub wide_each : (elements : List Element) → AllByRecursion (IsWritable OneByte) elements → AllByRecursion (IsWritable TwoByte) elements
wide_each [] all = tt
wide_each (element ∷ elements) all = let here = all.0 in ((omega arith, (omega arith, omega arith, omega arith)), wide_each elements all.1)
