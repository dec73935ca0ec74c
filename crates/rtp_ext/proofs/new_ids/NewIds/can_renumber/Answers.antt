use Rattle.rtp_ext.proofs.Common.{◌≡◌, true, ℕ, Bor, List, rules, arith, refl, sym, ap, ◌∙◌, subst, list_all, YieldsList-from_first, Element, elements_left, new_id, carries_id, OneByte}
use Rattle.std.proofs.lemmas.Iterator.Search.{all_from_yields_List}
use Rattle.rtp_ext.proofs.ElementLemmasOfBodies.{AreElements-found}
use Rattle.rtp_ext.proofs.NewIdLemmas.{carried-CanRenumber, two_byte-carried, IsId-bytes, new_id-byte}
use Rattle.rtp_ext.proofs.new_ids.NewIds.can_renumber.Goals as goal

pub returns-in-TwoByte : goal.returns-in-TwoByte
returns-in-TwoByte c =
    let ids = new_id c.args.self.now in
    let left = elements_left c.args.form c.args.body.now in
    carried-CanRenumber ids
    (λ id new is. IsId-bytes c.self.inside.ids id new c.self.invariant.2 (ap (λ slots. new_id slots id) c.self.view_is ∙ is))
    (AreElements-found c.args.form c.args.body.now (λ i. omega (arith, c.type_inv.body i)))
    (subst (λ form. true ≡ list_all (λ (e : Element). carries_id form (ids e.0)) left) (sym c.in-TwoByte.is) (two_byte-carried ids left))

pub returns-in-OneByte : goal.returns-in-OneByte
returns-in-OneByte c =
    let ids = new_id c.args.self.now in
    let left = elements_left c.args.form c.args.body.now in
    let are = AreElements-found c.args.form c.args.body.now (λ i. omega (arith, c.type_inv.body i)) in
    let ran = all_from_yields_List (λ (e : Element). carries_id OneByte (ids e.0)) _ _ c.all.result c.all.ensures.ran
    (YieldsList-from_first (λ (item : ℕ × Bor (List ℕ)). (item.0, item.1.now)) (λ left. left) c.new.result refl)
    (λ x b q k. let told = k in (
      search (rules, told),
      subst (λ slots. b ≡ carries_id OneByte (new_id slots x.0)) c.self.view_is
          (subst (λ id. b ≡ carries_id OneByte id) (sym (new_id-byte c.self.inside.ids x.0)) (search (rules, told))),
    )) in
    carried-CanRenumber ids
    (λ id new is. IsId-bytes c.self.inside.ids id new c.self.invariant.2 (ap (λ slots. new_id slots id) c.self.view_is ∙ is)) are
    (ran ∙ (ap (list_all (λ (e : Element). carries_id OneByte (ids e.0))) (sym (c.new.ensures.only left are))
    ∙ ap (λ form. list_all (λ (e : Element). carries_id form (ids e.0)) left) (sym c.in-OneByte.is)))
