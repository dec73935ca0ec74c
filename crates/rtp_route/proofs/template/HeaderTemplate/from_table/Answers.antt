use Rattle.std.proofs.Common.{rules, ℕ, List, take, All, sym, subst, arith}
use Rattle.rtp_ext.specs.NewIds.{new_id}
use Rattle.rtp_wire.specs.PartsOf.{datagram_of, parts_of}
use Rattle.rtp_route.specs.GroupHeader.{IsGroupHeader}
use Rattle.rtp_route.specs.Template.{LiesInHeader}
use Rattle.rtp_route.proofs.TemplateLemmas.{within-header}
use Rattle.rtp_route.proofs.template.HeaderTemplate.from_table.Goals as goal

pub invariant_of-result : goal.invariant_of-result
invariant_of-result g c =
    let made = c.in_ok-len.ensures in
    let slots = c.make_from_table.new.slots in
    record {
      few = omega (arith, c.count.ensures, made.few);
      long = search rules;
      within = subst (λ (n : ℕ). All (LiesInHeader (parts_of c.with_layout.result)) (take n slots)) (sym c.count.ensures)
          (within-header c.args.packet.now c.with_layout.result c.make_from_table.new.buf c.in_ok-len.len _ _ _ (take _ slots) c.with_layout.ensures made.room made.made.routed made.within);
    }

pub returns-clause-made : goal.returns-clause-made
returns-clause-made g c =
    let ids = new_id (g.G.GroupTable.ids c.args.group) in
    let news = g.G.ElementList.elements c.args.group in
    subst (λ (b : List ℕ). IsGroupHeader (datagram_of c.args.packet.now) ids news (g.G.GroupTable.allows c.args.group) b (take c.count.result c.make_from_table.new.slots)) (sym c.with_layout.ensures)
    (subst (λ (n : ℕ). IsGroupHeader (datagram_of c.args.packet.now) ids news (g.G.GroupTable.allows c.args.group) (take c.in_ok-len.len c.make_from_table.new.buf) (take n c.make_from_table.new.slots)) (sym c.count.ensures)
    c.in_ok-len.ensures.made)
