use Rattle.std.proofs.Common.{◌≡◌, ◌+◌, ◌*◌, take}
use Rattle.rtp_base.specs.Overwriting.{overwritten}
use Rattle.rtp_values.specs.StandardColor.{numbers_data}
use Rattle.rtp_values.proofs.standard.color_space.put_numbers.Given as goal

abbrev pub invariant-loop-number : goal.invariant-loop-number
invariant-loop-number l = record {
  written : l.buf ≡ overwritten l.initial.buf l.at (numbers_data (take l.number-index l.numbers));
  here : l.end ≡ l.at + 2 * l.number-index;
}
