use Rattle.std.proofs.Common.{ℕ, List, subst}
use Rattle.rtp_route.specs.Calls.{header_in}
use Rattle.rtp_route.specs.Routing.{IsRouted}
use Rattle.rtp_route.specs.Template.{with_data, slot_lengths, pieces}
use Rattle.rtp_route.proofs.LengthLemmas.{pieces-lengths}
use Rattle.rtp_route.proofs.TemplateLemmas.{routed-filled}
use Rattle.rtp_route.proofs.template.write_joined.Goals as goal

pub returns-clause-filled : goal.returns-clause-filled
returns-clause-filled g c = record { set = c.copy_header.new.buf; is_packet = c.copy_header.ensures.set; only = c.copy_header.ensures.fixed; filled = c.fill_joined.ensures }

pub returns-clause-routed : goal.returns-clause-routed
returns-clause-routed g c old ids news allowed is =
    let slots = g.S.SlotList.slots c.args.slots in
    let bytes = c.args.bytes.now in
    subst (λ (lens : List ℕ). IsRouted old c.args.fields.now ids (with_data news (pieces lens bytes)) allowed c.fill_joined.new.buf) is.lengths_are
    (routed-filled old ids news allowed (header_in c.args.header.now) slots c.args.fields.now (pieces (slot_lengths slots) bytes) c.fill_joined.new.buf is (pieces-lengths slots bytes c.requires.lengths)
    (record { set = c.copy_header.new.buf; is_packet = c.copy_header.ensures.set; only = c.copy_header.ensures.fixed; filled = c.fill_joined.ensures }))
