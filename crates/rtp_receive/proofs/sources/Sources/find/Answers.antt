use Rattle.std.proofs.Common.{rules, ℕ, ◌<◌, length, sym, subst, ◌≡◌}
use Rattle.std.specs.Prelude.{Some}
use Rattle.std.specs.BTreeMap.{get}
use Rattle.std.specs.Ordering.{nat_cmp}
use Rattle.rtp_receive.specs.SourcePlaces.{source_at}
use Rattle.rtp_receive.proofs.sources.Sources.find.Goals as goal

pub returns-in-Some : goal.returns-in-Some
returns-in-Some c =
    let below : c.args.hints.now.last_place < length c.args.list.now.items = search rules in
    let same : source_at c.args.list.now.items c.args.hints.now.last_place ≡ c.args.ssrc = search rules in
    sym (subst (λ (s : ℕ). get nat_cmp c.args.places.now s ≡ Some c.args.hints.now.last_place) same (c.requires.placed c.args.hints.now.last_place below))
