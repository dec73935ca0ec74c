use Rattle.rtp_values.proofs.value.set_values.ExtensionValuesSetValues.read_layers.Goals as goal

pub returns-in_default-clause-none : goal.returns-in_default-clause-none
returns-in_default-clause-none c a means =
    let is = c.in_ok-allocation.ensures.only a means in
    let none = c.in_default.is in
    cc
