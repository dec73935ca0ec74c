use Rattle.std.proofs.Common.{ap, length}
use Rattle.std.specs.Option.{option_map}
use Rattle.rtp_values.specs.declared.value.values.ExtensionValues.{ExtensionValues}
use Rattle.rtp_values.specs.declared.kind.Extension.TheVariants.{VideoLayersAllocation}
use Rattle.rtp_values.specs.Spelling.{spelled_data}
use Rattle.rtp_c.proofs.given_values.GivenValuesGetValues.layers_len.Goals as goal

pub returns-clause-length : goal.returns-clause-length
returns-clause-length c = ap (λ (values : ExtensionValues). option_map length (spelled_data VideoLayersAllocation values)) c.self.view_is
