use Rattle.std.proofs.Common.{refl}
use Rattle.rtp_c.proofs.NumbersAtOnceLemmas.{leading_few, zeros_behind}
use Rattle.rtp_c.proofs.numbers.last_of_16.Goals as goal

pub overflow_sub-result : goal.overflow_sub-result
overflow_sub-result c = leading_few c.args.numbers.now _ c.requires refl

pub returns-clause-zeros : goal.returns-clause-zeros
returns-clause-zeros c = zeros_behind c.args.numbers.now _ c.requires refl
