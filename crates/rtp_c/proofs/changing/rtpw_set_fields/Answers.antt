use Rattle.rtp_c.proofs.Common.{ℤ, rules, sym, with_header_fields}
use Rattle.rtp_c.specs.SetFields.{SetsParts, ChangesOnlyFields}
use Rattle.rtp_c.proofs.StatusLemmas.{passed_on}
use Rattle.rtp_c.proofs.changing.rtpw_set_fields.Goals as goal

pub returns-clause-set : goal.returns-clause-set
returns-clause-set c can_be =
    rw (sym c.given_fields.ensures) (passed_on c.set.result (search rules)
    (λ (z : ℤ). SetsParts (with_header_fields c.given_fields.result) (ChangesOnlyFields c.given_fields.result) c.args.datagram.now c.set.new.datagram z) c.set.ensures)
