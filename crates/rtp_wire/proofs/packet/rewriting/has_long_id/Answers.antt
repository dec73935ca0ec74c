use Rattle.std.proofs.Common.{◌≡◌, ℕ, Bool, List, rules, tests, refl, sym, ap, ◌∙◌}
use Rattle.std.specs.Prelude.{nat_lt}
use Rattle.std.specs.List.{list_any}
use Rattle.std.specs.Borrow.{Bor}
use Rattle.std.proofs.lemmas.Bool.{ltb-true, lt-ltb}
use Rattle.std.proofs.lemmas.Iterator.Consumers.{YieldsList-from_first}
use Rattle.std.proofs.lemmas.Iterator.Search.{any_from_yields_List}
use Rattle.std.proofs.lemmas.List.Folds.{Any-from_list_any, list_any-from_Any}
use Rattle.rtp_ext.specs.Elements.{Element}
use Rattle.rtp_wire.proofs.packet.rewriting.has_long_id.Goals as goal

pub returns : goal.returns
returns c elements are =
    let is_long : Element → Bool = λ element. nat_lt 14 element.0 in
    let ran = any_from_yields_List is_long _ _ c.any.result c.any.ensures.ran
    (YieldsList-from_first (λ (item : ℕ × Bor (List ℕ)). (item.0, item.1.now)) (λ left. left) c.new.result refl)
    (λ x b q k. let told = k in search (rules, tests, told)) in
    let found : c.any.result ≡ list_any is_long elements = ran ∙ ap (list_any is_long) (sym (c.new.ensures.only elements are)) in (
      λ yes. let long = Any-from_list_any is_long elements (sym found ∙ yes) in (long.0, long.1, long.2, long.3, ltb-true 14 long.1.0 long.4),
      λ long. found ∙ list_any-from_Any is_long elements (long.0, long.1, long.2, long.3, lt-ltb 14 long.1.0 long.4),
    )
