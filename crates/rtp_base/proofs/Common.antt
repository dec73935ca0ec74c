-- The names that most proofs cite, passed on from one place. Declares nothing.
pub use Rattle.std.proofs.Common.{◌≡◌, ◌≢◌, ◌+◌, ◌-◌, ◌*◌, ◌/◌, ◌%◌, ◌^◌, ◌<◌, ◌≤◌, nat_eq, ℕ, Bool, true, false, ◌||◌, get_or, max, bit_and, bit_or, inl, inr, refl, sym, ap, ◌∙◌, arith, List, eqb, Option, Some, None, Ok, IfOk, [], ◌∷◌, ◌++◌, length, drop, ◌⊎◌, subst, not, cond, map, take, replicate, length-append, length-take-le, take_at, drop_at, ltb, leb, filter, append_assoc, length-drop, set, suc, add-zero, zero-add, ◌↔◌, IsTrue, ◌&&◌, w8, Result}
pub use Rattle.std.proofs.Math.Nat.{div-mul-le_self, le_of_mul-le-mul_right, mul-le-mul_right, mul_right_comm, add-mod_right}
pub use Rattle.std.proofs.lemmas.Bool.{cases_lt, cases_eq, eq-eqb, ne_eqb, or_right, eqb-true, eqb-false, cases_Bool, false≢true, lt-ltb, le-ltb, le-leb, lt-leb, leb-true, and_parts, or_cases, or_left, both_ways}
pub use Rattle.std.proofs.lemmas.Bool.Decides.{nat_tests}
pub use Rattle.std.proofs.lemmas.List.{get_or_append_left, get_or-append_right, get_or_past, get_or-replicate, length-replicate, length-take, take-append-drop, drop-replicate, take_all, map-append, length-map, append-nil, drop-drop, take-take, take-append-le, take_rest, drop_all, set_split, get_or-set_same, get_or-set_other, length-set}
pub use Rattle.std.proofs.lemmas.List.Elements.{All-nil, All-cons, All-head, All-tail, All-take, All-replicate, filter-append}
pub use Rattle.std.proofs.lemmas.List.FromFn.{get_or-map-range_with_len, length-map-range_with_len, fill_by_all}
pub use Rattle.std.proofs.lemmas.List.Sums.{position_or_len_is, sum_by-cons, sum_by-append}
pub use Rattle.std.proofs.lemmas.Nat.{one_shl, div-add-mod', pow_pos, le-div, mod_below, row_fits}
pub use Rattle.std.proofs.lemmas.Nat.Bits.{shr_and_one, and_pow, bit_at_or, bit_at-zero, bit_at-lt, bit_at_above, bit_at_ones, bit_at_cat_low, bit_at_cat_high, bit_at_set_same, bit_at_set_other, bit_at_and, bit_at_ones_above, bit_at_mask_inside, bit_at_mask_below, ones_shl, ones_shr, bit_at_not}
pub use Rattle.std.proofs.lemmas.Str.{IsUtf8-from_ascii, chars-IsAscii, chars-encodes}
pub use Rattle.std.specs.Char.{IsAsciiDigit, is_ascii_alphanumeric}
pub use Rattle.std.specs.Int.{bit_at, w128, w64}
pub use Rattle.std.specs.List.{All, position_or_len, count_by, range_with_len}
pub use Rattle.std.specs.Prelude.{IsUtf8}
pub use Rattle.std.specs.Str.{chars, IsAscii}
pub use Rattle.rtp_base.specs.Bitmap.{bits_of}
pub use Rattle.rtp_base.specs.Frequency.{IsFrequencyText}
pub use Rattle.rtp_base.specs.Id.{id_char, id_text, padded, IsIdOf, before_padding, IsIdByte, IsIdArray}
pub use Rattle.rtp_base.specs.MediaTime.{Fraction, per_second, IsAtMost, whole_ticks, fraction_cmp, IsLess, in_ticks, sum_of, IsDifference}
pub use Rattle.rtp_base.specs.Ring.{ring_bit, ring_size, ring_bits}
pub use Rattle.rtp_base.specs.Window.{Numbers, KeepsOf, AcceptsOf, WindowState, window_size, only, up_to, including, IsGreatest, Keeps, Accepts}
pub use Rattle.rtp_base.specs.declared.dir.Direction.TheVariants.{SendOnly, RecvOnly, SendRecv, Inactive}
