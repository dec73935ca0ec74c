use Rattle.std.proofs.Common.{◌-◌, arith}
use Rattle.rtp_c.proofs.GivenValuesLemmas.{empty-there, few-there}
use Rattle.rtp_c.proofs.given_values.is_empty_text.Goals as goal

pub returns-clause-empty : goal.returns-clause-empty
returns-clause-empty g c = empty-there (g.row.N - 1) c.args.has c.args.bytes.now (omega arith) (c.requires.text (omega arith))

pub returns-clause-few : goal.returns-clause-few
returns-clause-few g c = few-there (g.row.N - 1) g.row.N c.args.has c.args.bytes.now (omega arith) (c.requires.text (omega arith)) (omega arith)
