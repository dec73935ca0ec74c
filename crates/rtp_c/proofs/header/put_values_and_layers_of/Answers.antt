use Rattle.std.proofs.Common.{refl, subst, ℕ, List, Option, Some}
use Rattle.rtp_ext.specs.declared.form.ExtensionsForm.{ExtensionsForm}
use Rattle.rtp_ext.specs.Elements.{Element}
use Rattle.rtp_ext.specs.ElementReading.{elements_left}
use Rattle.rtp_ext.specs.BlockValues.{ShowsApart}
use Rattle.rtp_ext.proofs.ElementLemmasOfBodies.{AreElements-found}
use Rattle.rtp_values.specs.declared.value.values.ExtensionValues.{ExtensionValues}
use Rattle.rtp_values.specs.Values.{no_values}
use Rattle.rtp_wire.specs.PacketElements.{HasValues}
use Rattle.rtp_wire.proofs.ValuesLemmas.{HasValues-none}
use Rattle.rtp_c.specs.LayersView.{IsViewOfLayers}
use Rattle.rtp_c.specs.ValuesView.{IsViewOfValues}
use Rattle.rtp_c.specs.StoredMap.{numbered_slots}
use Rattle.rtp_c.proofs.HeaderViewLemmas.{told_layers, told_no_layers}
use Rattle.rtp_c.proofs.header.put_values_and_layers_of.Goals as goal
use Rattle.rtp_c.proofs.header.put_values_and_layers_of.Goals.{After-read_apart}

pub returns-in_default : goal.returns-in_default
returns-in_default c =
    (no_values, HasValues-none (numbered_slots c.args.map.now.kind) _ no_values c.in_default.ensures.parts refl, c.put_no_values.ensures, c.put_no_layers.ensures)

-- what was read
read : (c : After-read_apart)
    → (values : ExtensionValues) × ShowsApart (λ view v. IsViewOfValues v view) (λ view a. IsViewOfLayers a view) (c.read_apart.new.ev, c.read_apart.new.layers, c.read_apart.result) values
    × HasValues (numbered_slots c.args.map.now.kind) (Some (c.in-Some.form, c.in-Some.body.now)) values
read c =
    let are = AreElements-found c.in-Some.form c.in-Some.body.now c.in-Some.ensures.bytes in
    let elements : List Element = elements_left c.in-Some.form c.in-Some.body.now in
    let told = c.read_apart.ensures.read elements are no_values (record { values_are = c.put_no_values.ensures; layers_are = tt; said = refl }) in
    (told.0, told.1, record { elements = elements; are_elements = are; are_values = told.2 })

pub returns-then-read_apart : goal.returns-then-read_apart
returns-then-read_apart c =
    let told = read (goal.at.returns-then-read_apart c).After-read_apart in
    let both = told_layers told.0 c.read_apart.new.ev c.read_apart.new.layers c.read_apart.result c.if-read_apart.true told.1 in (
      told.0,
      subst (λ (block : Option (ExtensionsForm × List ℕ)). HasValues (numbered_slots c.args.map.now.kind) block told.0) c.in-Some.ensures.parts told.2,
      both.0,
      both.1,
    )

pub returns : goal.returns
returns c =
    let told = read (goal.at.returns c).After-read_apart in
    let both = told_no_layers told.0 c.read_apart.new.ev c.read_apart.new.layers c.put_no_layers-2.new.view c.read_apart.result c.if-read_apart.false told.1 c.put_no_layers-2.ensures in (
      told.0,
      subst (λ (block : Option (ExtensionsForm × List ℕ)). HasValues (numbered_slots c.args.map.now.kind) block told.0) c.in-Some.ensures.parts told.2,
      both.0,
      both.1,
    )
