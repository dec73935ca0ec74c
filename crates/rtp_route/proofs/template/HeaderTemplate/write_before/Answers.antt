use Rattle.std.proofs.Common.{◌≡◌, ◌∙◌, ℕ, List, length, map, drop, sym, ap, subst, take_at, drop_at, rules, refl}
use Rattle.std.specs.Borrow.{Bor}
use Rattle.rtp_route.specs.declared.not_written.NotWritten.TheVariants.{NoRoom}
use Rattle.rtp_route.specs.Routing.{IsRouted}
use Rattle.rtp_route.specs.Template.{with_data}
use Rattle.rtp_route.specs.TemplateOf.{header_len_in}
use Rattle.rtp_route.proofs.TemplateLemmas.{lengths-of, written-with}
use Rattle.rtp_route.proofs.template.HeaderTemplate.write_before.Goals as goal

pub returns-clause-routed : goal.returns-clause-routed
returns-clause-routed c old ids news allowed is =
    let contents : List (List ℕ) = map (λ (b : Bor (List ℕ)). b.now) c.args.contents.now in
    let long : length c.fill.new.buf ≡ header_len_in c.args.self.now = search rules in
    subst (IsRouted old c.args.fields.now ids (with_data news contents) allowed) (sym (take_at c.fill.new.buf _ (header_len_in c.args.self.now) long))
    (written-with old ids news allowed c.args.self.now c.args.fields.now contents c.fill.new.buf is (lengths-of c.args.contents.now ∙ c.if-not-have_lengths.ensures.0 refl)
    (record { set = c.copy_header.new.buf; is_packet = c.copy_header.ensures.set; only = c.copy_header.ensures.fixed; filled = c.fill.ensures }))

pub returns-clause-behind : goal.returns-clause-behind
returns-clause-behind c =
    let long : length c.fill.new.buf ≡ header_len_in c.args.self.now = search rules in
    drop_at c.fill.new.buf _ (header_len_in c.args.self.now) long ∙ ap (λ (n : ℕ). drop n c.args.buf.now) c.header_len.ensures

pub returns-then-buf-len-clause-refused : goal.returns-then-buf-len-clause-refused
returns-then-buf-len-clause-refused c = (λ _. (NoRoom c.args.len, (c.if-not-have_lengths.ensures.0 refl, refl, c.if-buf-len.true)), λ _. refl)
