use Rattle.std.proofs.Common.{◌∙◌, ℕ, List, map, take, sym, subst, arith}
use Rattle.std.specs.Borrow.{Bor}
use Rattle.rtp_route.specs.Routing.{IsRouted}
use Rattle.rtp_route.specs.Template.{with_data}
use Rattle.rtp_route.proofs.OneHeaderLemmas.{are_taken, one-header}
use Rattle.rtp_route.proofs.RoutingLemmas.{on-ok}
use Rattle.rtp_route.proofs.template.HeaderTemplate.write_header.Goals as goal

pub returns-clause-routed : goal.returns-clause-routed
returns-clause-routed c old ids news allowed is =
    let elements = with_data news (map (λ (b : Bor (List ℕ)). b.now) c.args.contents.now) in
    on-ok c.write_before.result _ _ _
    (λ len routed whole. subst (λ (k : ℕ). IsRouted old c.args.fields.now ids elements allowed (take k c.write_before.new.buf)) (sym (whole.0 ∙ c.header_len.ensures)) routed)
    (c.write_before.ensures.routed old ids news allowed is) c.write_before.ensures.length

pub returns-clause-only : goal.returns-clause-only
returns-clause-only c old ids news allowed is =
    let elements = with_data news (map (λ (b : Bor (List ℕ)). b.now) c.args.contents.now) in
    let now = c.write_before.new.buf in
    on-ok c.write_before.result _ _ _
    (λ len routed whole header bytes other.
    one-header old c.args.fields.now ids elements allowed header (take len now) bytes (are_taken len now (λ k. omega (arith, c.type_inv.buf k))) other
    (subst (λ (k : ℕ). IsRouted old c.args.fields.now ids elements allowed (take k now)) (sym (whole.0 ∙ c.header_len.ensures)) routed))
    (c.write_before.ensures.routed old ids news allowed is) c.write_before.ensures.length
