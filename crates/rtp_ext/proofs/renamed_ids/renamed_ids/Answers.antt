use Rattle.rtp_ext.proofs.Common.{ℕ, subst, rules, Some, ◌⊎◌, ◌≡◌, extension_of_kind, Slots, IsLowest, IsUnmapped, extension_at}
use Rattle.rtp_ext.proofs.RenamedIdLemmas.{AreRenamedIds-put, AreRenamedIds-same}
use Rattle.rtp_ext.proofs.renamed_ids.renamed_ids.Goals as goal

pub returns-in-Some : goal.returns-in-Some
returns-in-Some g c =
    let beside = c.in-Some.ensures in
    AreRenamedIds-put (g.K.Kinds.slots c.args.exts.now) (g.K.Kinds.known c.args.exts.now) c.args.from c.args.to c.in-Some.lowest c.same_ids-ids.result c.rename.new.ids
    (g.met.K.Kinds.known_is c.args.exts.now)
    (subst (λ (exts : Slots). IsLowest exts (extension_of_kind c.args.to) c.in-Some.lowest) c.of.ensures beside.lowest) beside.some_id
    (subst (λ (exts : Slots). (other : ℕ) × (extension_at exts other ≡ Some (extension_of_kind c.args.from))) c.of.ensures beside.beside)
    c.rename.array_long c.same_ids-ids.ensures c.rename.ensures

pub returns-in_default : goal.returns-in_default
returns-in_default g c =
    AreRenamedIds-same (g.K.Kinds.slots c.args.exts.now) (extension_of_kind c.args.from) (extension_of_kind c.args.to) c.same_ids-ids.result
    (subst (λ (exts : Slots). IsUnmapped exts (extension_of_kind c.args.from) ⊎ IsUnmapped exts (extension_of_kind c.args.to)) c.of.ensures
    c.in_default.ensures.none) (search rules) c.same_ids-ids.ensures
