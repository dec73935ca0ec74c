use Rattle.std.proofs.Common.{rules, ℕ, ◌<◌, length, sym, subst, ◌≡◌}
use Rattle.std.specs.Prelude.{Some}
use Rattle.std.specs.BTreeMap.{get}
use Rattle.std.specs.Ordering.{nat_cmp}
use Rattle.rtp_receive.specs.SourcePlaces.{source_at}
use Rattle.rtp_receive.proofs.sources.Sources.place_of.Goals as goal

pub returns-in-Some : goal.returns-in-Some
returns-in-Some c =
    let below : c.args.self.now.hints.last_place < length c.args.self.now.list.items = search rules in
    let same : source_at c.args.self.now.list.items c.args.self.now.hints.last_place ≡ c.args.ssrc = search rules in
    sym (subst (λ (s : ℕ). get nat_cmp c.args.self.now.places s ≡ Some c.args.self.now.hints.last_place) same (c.requires.placed c.args.self.now.hints.last_place below))
