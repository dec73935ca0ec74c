use Rattle.rtp_route.proofs.RoutingLemmas.{routed-by_calls}
use Rattle.rtp_route.proofs.by_calls.routes_as_the_calls_do.Goals as goal

pub returns : goal.returns
returns c = routed-by_calls
