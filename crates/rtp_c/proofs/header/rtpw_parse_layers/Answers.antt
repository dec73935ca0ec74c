use Rattle.std.proofs.Common.{rules}
use Rattle.rtp_wire.specs.Header.{header_of}
use Rattle.rtp_wire.specs.PartsOf.{parts_of}
use Rattle.rtp_c.proofs.HeaderViewLemmas.{begins_with, few_sources}
use Rattle.rtp_c.proofs.HeaderStatusLemmas.{HasNoHeader-status}
use Rattle.rtp_c.proofs.header.rtpw_parse_layers.Goals as goal

pub put_fields-requires : goal.put_fields-requires
put_fields-requires c = record { sources = few_sources c.args.buf.now _ c.in-Ok.ensures.found }

pub returns-in-Ok-clause-found : goal.returns-in-Ok-clause-found
returns-in-Ok-clause-found c _ =
    let told = c.put_values_and_layers_of.ensures in
    let parts = parts_of c.in-Ok.packet in
    record {
      header = header_of parts told.0;
      begins = begins_with c.args.map.now.kind c.args.buf.now parts told.0 c.in-Ok.ensures.found c.in-Ok.ensures.known told.1;
      is_view = c.put_fields.ensures told.0 _ told.2;
      layers_are = told.3;
    }

pub returns-in-Err-clause-refused : goal.returns-in-Err-clause-refused
returns-in-Err-clause-refused c = (λ is. HasNoHeader-status c.args.buf.now _ is, λ none. search (rules, c.in-Err.ensures.cause))
