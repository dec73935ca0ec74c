use Rattle.rtp_ext.proofs.Common.{◌≡◌, ◌-◌, ℕ, List, Option, set, get_or, length, None, ap, sym, ◌∙◌, KnownKind, Slots, entry_of_kind, slots_of}
use Rattle.rtp_ext.proofs.KindsByIdLemmas.{slots_of-swapped}
use Rattle.rtp_ext.proofs.kinds_by_id.KindsById.exchange.Goals as goal

pub returns : goal.returns
returns c =
    let kinds = c.args.self.now in
    let first : get_or c.self.inside.kinds c.from.result None ≡ get_or kinds c.args.from None =
    ap (λ (n : ℕ). get_or c.self.inside.kinds n None) c.from.ensures ∙ ap (λ (ks : List (Option KnownKind)). get_or ks c.args.from None) c.self.view_is in
    let second : get_or c.set.inside.kinds c.from-2.result None ≡ get_or kinds c.args.to None =
    ap (λ (n : ℕ). get_or c.set.inside.kinds n None) c.from-2.ensures ∙ ap (λ (ks : List (Option KnownKind)). get_or ks c.args.to None) c.set.view_is in
    c.set-3.ensures ∙ ap (λ (slots : Slots). set slots (c.args.to - 1) (entry_of_kind (get_or c.self.inside.kinds c.from.result None))) c.set-2.ensures
    ∙ ap (λ (kind : Option KnownKind). set (set (slots_of kinds) (c.args.from - 1) (entry_of_kind kind)) (c.args.to - 1)
    (entry_of_kind (get_or c.self.inside.kinds c.from.result None))) second
    ∙ ap (λ (kind : Option KnownKind). set (set (slots_of kinds) (c.args.from - 1) (entry_of_kind (get_or kinds c.args.to None))) (c.args.to - 1) (entry_of_kind kind)) first
    ∙ slots_of-swapped kinds c.args.from c.args.to (ap length (sym c.self.view_is) ∙ c.self.invariant.0) c.requires.ids.0 c.requires.ids.1
