use Rattle.std.proofs.Common.{refl, inl, subst, ℕ, List, Option}
use Rattle.rtp_ext.specs.declared.form.ExtensionsForm.{ExtensionsForm}
use Rattle.rtp_wire.specs.PacketElements.{HasValues}
use Rattle.rtp_wire.specs.Header.{header_of}
use Rattle.rtp_wire.specs.PartsOf.{parts_of}
use Rattle.rtp_c.specs.StoredMap.{numbered_slots}
use Rattle.rtp_c.proofs.HeaderViewLemmas.{begins_with, few_sources}
use Rattle.rtp_c.proofs.header.read_header.Goals as goal

pub put_fields-requires : goal.put_fields-requires
put_fields-requires c = record { sources = few_sources c.args.buf.now _ c.in-Ok.ensures.found }

pub returns-in-Ok : goal.returns-in-Ok
returns-in-Ok c =
    let told = c.put_values_of.ensures in
    let parts = parts_of c.in-Ok.packet in
    let values = subst (λ (block : Option (ExtensionsForm × List ℕ)). HasValues (numbered_slots c.args.map.now.kind) block told.0) c.block.ensures.parts told.1 in
    inl (
      refl,
      record {
        header = header_of parts told.0;
        begins = begins_with c.args.map.now.kind c.args.buf.now parts told.0 c.in-Ok.ensures.found c.in-Ok.ensures.known values;
        is_view = c.put_fields.ensures told.0 _ told.2;
      },
    )
