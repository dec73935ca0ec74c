use Rattle.rtp_c.specs.KindNumbers.{Known, Bare}
use Rattle.rtp_c.proofs.KindNumberLemmas.{found_by_uri, some_by_uri}
use Rattle.rtp_c.proofs.map.number_of_uri.Goals as goal

pub returns-in-Some-clause-kind : goal.returns-in-Some-clause-kind
returns-in-Some-clause-kind c = found_by_uri (Known c.in-Some.kind) c.number_of.result c.args.uri.now c.in-Some.ensures.named c.number_of.ensures

pub returns-in-Some-clause-none : goal.returns-in-Some-clause-none
returns-in-Some-clause-none c = some_by_uri (Known c.in-Some.kind) c.number_of.result c.args.uri.now c.in-Some.ensures.named c.number_of.ensures

pub returns-in-Some-from_uri-clause-kind : goal.returns-in-Some-from_uri-clause-kind
returns-in-Some-from_uri-clause-kind c = found_by_uri (Bare c.in-Some-from_uri.kind) c.number.result c.args.uri.now c.in-Some-from_uri.ensures.found c.number.ensures

pub returns-in-Some-from_uri-clause-none : goal.returns-in-Some-from_uri-clause-none
returns-in-Some-from_uri-clause-none c = some_by_uri (Bare c.in-Some-from_uri.kind) c.number.result c.args.uri.now c.in-Some-from_uri.ensures.found c.number.ensures
