use Rattle.rtp_ext.proofs.Common.{◌≡◌, Option, rules, sym, ◌∙◌, Decides, Entry}
use Rattle.std.proofs.lemmas.Slice.Eq.{slice_eq-Decides}
use Rattle.rtp_ext.specs.EqualMaps.{same_slot}
use Rattle.rtp_ext.proofs.map.ExtensionMapPartialEq.eq.Goals as goal

slot_decides : (a b : Option Entry) → Decides (same_slot a b) (a ≡ b)
slot_decides a b = search rules

pub returns-clause-same : goal.returns-clause-same
returns-clause-same c =
    let decides = slice_eq-Decides slot_decides c.self.inside.slots c.other.inside.slots c.eq.result c.eq.ensures in (
      λ equal. sym c.self.view_is ∙ (decides.0 equal ∙ c.other.view_is),
      λ same. decides.1 (c.self.view_is ∙ (same ∙ sym c.other.view_is)),
    )
