use Rattle.std.proofs.Common.{rules, ◌≡◌, ℕ, sym, ap, ◌∙◌}
use Rattle.std.specs.Option.{option_copied_mut}
use Rattle.std.specs.Ordering.{nat_cmp}
use Rattle.std.specs.BTreeMap.{get}
use Rattle.rtp_receive.specs.SourcePlaces.{source_at}
use Rattle.rtp_receive.proofs.PlacesLemmas.{is_none}
use Rattle.rtp_receive.proofs.sources.Sources.renumber.Goals as goal

pub returns-in_default-get_mut-clause-moved : goal.returns-in_default-get_mut-clause-moved
returns-in_default-get_mut-clause-moved c below =
    let is : c.in-Some.field-0.now.0 ≡ source_at c.args.self.now.list.items c.args.place = search rules in
    let none = sym c.get_mut.ensures.value ∙ ap option_copied_mut c.in_default-get_mut.is in
    absurd (is_none _ (ap (λ (source : ℕ). get nat_cmp c.args.self.now.places source) (sym is) ∙ none) (c.requires below))
