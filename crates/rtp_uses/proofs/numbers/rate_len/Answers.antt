use Rattle.std.proofs.Common.{ℕ, ◌+◌, ◌/◌, ◌%◌, ◌<◌, ◌≤◌, inl, [], ◌∷◌, length, refl, arith}
use Rattle.rtp_wire.specs.Leb.{IsLeb, shortest_of}
use Rattle.rtp_uses.proofs.numbers.rate_len.Goals as goal

-- two bytes that spell a number of 14 bits
spelled_in_two : (value : ℕ) → value < 16384 → IsLeb value ((value % 128 + 128) ∷ (value / 128) ∷ [])
spelled_in_two value small = record {
  front = (value % 128 + 128) ∷ [];
  last = value / 128;
  bytes_are = refl;
  at_most_nine = omega arith;
  continued = (omega arith, tt);
  ended = inl (omega (arith, small));
  value_is = omega (arith, small);
}

pub returns : goal.returns
returns c =
    let few : length (shortest_of c.args.value) ≤ 2 = c.encode_leb_u63.ensures.shortest.shortest _ (spelled_in_two c.args.value c.requires) in
    omega (arith, c.encode_leb_u63.ensures.length, few)
