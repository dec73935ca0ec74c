use Rattle.std.proofs.Common.{length, arith, refl}
use Rattle.rtp_ext.specs.NewIds.{new_id}
use Rattle.rtp_route.specs.Calls.{header_in}
use Rattle.rtp_route.specs.NotRouted.{AreForTemplate}
use Rattle.rtp_route.proofs.NotPutLemmas.{refused-template}
use Rattle.rtp_route.proofs.making.make_template.Goals as goal

pub returns-in_default-clause-refused : goal.returns-in_default-clause-refused
returns-in_default-clause-refused g c =
    let news = g.L.ElementList.elements c.args.group.now.elements in
    let few : AreForTemplate news = (omega (arith, c.if-count-gt-MAX_ELEMENTS.false), c.if-not-number_elements.ensures.own.0 refl) in
    refused-template c.make_by_calls.result (header_in c.args.packet.now) (new_id c.args.group.now.ids.now) news c.args.group.now.allowed (length c.args.buf.now) few
    c.make_by_calls.ensures.cause c.make_by_calls.ensures.none_refused

pub returns-clause-refused : goal.returns-clause-refused
returns-clause-refused g c =
    let news = g.L.ElementList.elements c.args.group.now.elements in
    let few : AreForTemplate news = (omega (arith, c.if-count-gt-MAX_ELEMENTS.false), c.if-not-number_elements.ensures.own.0 refl) in
    refused-template c.make_from_table.result (header_in c.args.packet.now) (new_id c.args.group.now.ids.now) news c.args.group.now.allowed (length c.args.buf.now) few
    c.make_from_table.ensures.cause c.make_from_table.ensures.none_refused
