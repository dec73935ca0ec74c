use Rattle.rtp_c.proofs.Common.{arith, elements_left, AreElements-found, numbered_slots}
use Rattle.rtp_c.proofs.NumberedLemmas.{HasKinds-numbered}
use Rattle.rtp_c.proofs.values.rtpw_values_read.Goals as goal

pub returns-clause-read : goal.returns-clause-read
returns-clause-read c is_ok =
    let form = c.in-Some.form in
    let body = c.args.body.now in
    let elements = elements_left form body in
    let are = AreElements-found form body (λ i. omega (arith, c.type_inv.body i)) in
    let told = c.put_values.ensures elements are in (
      form,
      c.in-Some.ensures.found,
      record {
        slots = numbered_slots c.args.map.now.kind;
        has_kinds = HasKinds-numbered c.args.map.now.kind;
        values = told.0;
        says_values = record { elements = elements; are_elements = are; are_values = told.1 };
        is_view = told.2;
      },
    )
