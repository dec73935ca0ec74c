use Rattle.rtp_c.proofs.Common.{refl, ◌≡◌, ◌<◌, sym, subst, ℕ, List, Option, Some, None, Bor, IfSome, slice_index, option_map, ExtensionsForm, elements_left, AreElements-found, no_values, HasValues, numbered_slots}
use Rattle.rtp_wire.proofs.ValuesLemmas.{HasValues-none}
use Rattle.rtp_c.proofs.header.put_values_of.Goals as goal

pub returns-in-Some : goal.returns-in-Some
returns-in-Some c =
    let slots = numbered_slots c.args.map.now.kind in
    let is : c.args.block ≡ Some (c.in-Some.form, c.in-Some.body) = c.in-Some.is in
    let elements = elements_left c.in-Some.form c.in-Some.body.now in
    let bytes = subst (λ (block : Option (ExtensionsForm × Bor (List ℕ))). IfSome block (λ b. (i : ℕ) → slice_index b.1.now i < 256)) is c.requires.bytes in
    let are = AreElements-found c.in-Some.form c.in-Some.body.now bytes in
    let told = c.put_values.ensures elements are in (
      told.0,
      subst (λ (block : Option (ExtensionsForm × Bor (List ℕ))). HasValues slots (option_map (λ b. (b.0, b.1.now)) block) told.0) (sym is)
          (record { elements = elements; are_elements = are; are_values = told.1 }),
      told.2,
    )

pub returns-in-None : goal.returns-in-None
returns-in-None c =
    let slots = numbered_slots c.args.map.now.kind in
    let is : c.args.block ≡ None = c.in-None.is in (
      no_values,
      subst (λ (block : Option (ExtensionsForm × Bor (List ℕ))). HasValues slots (option_map (λ b. (b.0, b.1.now)) block) no_values) (sym is)
          (HasValues-none slots None no_values refl refl),
      c.put_no_values.ensures,
    )
