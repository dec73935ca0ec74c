use Rattle.std.proofs.lemmas.Result.{on_ok_weaker, on_err_weaker}
use Rattle.rtp_ext.proofs.ValuesLaws.{ReadElements-itself, ReadUntilRefused-itself}
use Rattle.rtp_ext.proofs.map.ExtensionMap.parse.Goals as goal

pub returns-clause-values : goal.returns-clause-values
returns-clause-values c = on_ok_weaker c.read_values.result (λ read elements are. ReadElements-itself c.args.self.now elements c.args.ev.now c.read_values.new.ev (read elements are)) c.read_values.ensures.values

pub returns-clause-refused : goal.returns-clause-refused
returns-clause-refused c = on_err_weaker c.read_values.result (λ refused elements are. ReadUntilRefused-itself c.args.self.now elements c.args.ev.now c.read_values.new.ev (refused elements are).1) c.read_values.ensures.refused
