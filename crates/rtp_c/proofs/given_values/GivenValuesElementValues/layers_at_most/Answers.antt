use Rattle.std.proofs.Common.{ℕ, List, length, ◌≤◌, IfSome, subst}
use Rattle.rtp_values.specs.declared.value.values.ExtensionValues.{ExtensionValues}
use Rattle.rtp_values.specs.declared.kind.Extension.TheVariants.{VideoLayersAllocation}
use Rattle.rtp_values.specs.Spelling.{spelled_data}
use Rattle.rtp_c.proofs.given_values.GivenValuesElementValues.layers_at_most.Goals as goal

pub returns-clause-most : goal.returns-clause-most
returns-clause-most c = subst (λ (values : ExtensionValues). IfSome (spelled_data VideoLayersAllocation values) (λ (bytes : List ℕ). length bytes ≤ 0)) c.self.view_is tt
