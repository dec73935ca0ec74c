use Rattle.std.proofs.Common.{refl}
use Rattle.rtp_wire.specs.Header.{header_of}
use Rattle.rtp_c.specs.StoredMap.{numbered_slots}
use Rattle.rtp_c.proofs.Common.{datagram_of, parts_of, subst, ℕ, List, Option, ExtensionsForm, HasValues}
use Rattle.rtp_c.proofs.HeaderViewLemmas.{few_sources}
use Rattle.rtp_c.proofs.NumberedLemmas.{HasKinds-numbered}
use Rattle.rtp_c.proofs.WholePacketLemmas.{IsWhole-told}
use Rattle.rtp_c.proofs.whole_packet.put_whole.Goals as goal

pub put_fields-requires : goal.put_fields-requires
put_fields-requires c = record { sources = few_sources (datagram_of c.args.packet.now) _ c.requires }

pub returns : goal.returns
returns c =
    let numbers = c.args.map.now.kind in
    let parts = parts_of c.args.packet.now in
    let told = c.put_values_of.ensures in
    let block = c.put_block-block.ensures in
    let values = subst (λ (b : Option (ExtensionsForm × List ℕ)). HasValues (numbered_slots numbers) b told.0) block.block told.1 in
    IsWhole-told numbers (datagram_of c.args.packet.now) parts _ c.requires
    (record {
      slots = numbered_slots numbers;
      has_kinds = HasKinds-numbered numbers;
      header = header_of parts told.0;
      is_header = record { fields_are = refl; values_are = values };
      is_view = c.put_fields.ensures told.0 _ told.2;
    })
    block.number block.profile block.body block.ends c.unpadded_len_of-unpadded_len.ensures
