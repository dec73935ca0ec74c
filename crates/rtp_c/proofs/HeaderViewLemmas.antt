-- What C is told of a packet: there is a place for each of its sources, and of values and layers that were read apart each stands in its place.
use Rattle.std.proofs.Common.{◌≡◌, ℕ, ◌≤◌, List, length, Bool, true, false, Option, Some, None, is_some, IfSome, unwrap_or, refl, ap, sym, ◌∙◌, arith}
use Rattle.std.proofs.lemmas.Bool.{false≢true}
use Rattle.rtp_base.specs.Flag.{bit}
use Rattle.rtp_vla.specs.Allocation.{Allocation, nothing_sent}
use Rattle.rtp_values.specs.declared.value.values.ExtensionValues.{ExtensionValues}
use Rattle.rtp_ext.specs.BlockValues.{ShowsApart}
use Rattle.rtp_wire.specs.Header.{header_of}
use Rattle.rtp_wire.specs.Packet.{PacketParts, IsPacket}
use Rattle.rtp_wire.specs.PacketElements.{HasValues}
use Rattle.rtp_c.specs.declared.layers.Layers.{Layers}
use Rattle.rtp_c.specs.declared.values.ValuesView.{ValuesView}
use Rattle.rtp_c.specs.HeaderView.{BeginsWithHeader}
use Rattle.rtp_c.specs.LayersView.{IsViewOfLayers}
use Rattle.rtp_c.specs.StoredMap.{numbered_slots}
use Rattle.rtp_c.specs.ValuesView.{IsViewOfValues}
use Rattle.rtp_c.proofs.NumberedLemmas.{HasKinds-numbered}

-- a packet without a block of another form begins with its header, of these values
pub begins_with : (numbers bytes : List ℕ) (parts : PacketParts) (values : ExtensionValues) → IsPacket bytes parts → parts.other_block ≡ None
    → HasValues (numbered_slots numbers) parts.block values → BeginsWithHeader numbers bytes (header_of parts values)
begins_with numbers bytes parts values is known has = record {
  slots = numbered_slots numbers;
  has_kinds = HasKinds-numbered numbers;
  is_wire = record { parts = parts; is_packet = is; no_other = known; is_header = record { fields_are = refl; values_are = has } };
}

pub few_sources : (bytes : List ℕ) (parts : PacketParts) → IsPacket bytes parts → length parts.sources ≤ 15
few_sources bytes parts is = omega (arith, is.fixed_is.first_is.few)

-- values in this place, and layers in that one
abbrev pub AreReadApart : ValuesView → Layers → Bool → ExtensionValues → Type 0
AreReadApart view layers said values = ShowsApart (λ view v. IsViewOfValues v view) (λ layers a. IsViewOfLayers a layers) (view, layers, said) values

-- values are told where it is told besides whether there is an allocation
and_layers : (values : ExtensionValues) (view : ValuesView) (has : ℕ) → has ≡ bit (is_some values.video_layers_allocation)
    → IsViewOfValues (record values { video_layers_allocation = None }) view → IsViewOfValues values (record view { has_layers = has })
and_layers values view has is told = record {
  send_time_is = told.send_time_is;
  capture_time_is = told.capture_time_is;
  capture_offset_is = told.capture_offset_is;
  playout_delay_min_is = told.playout_delay_min_is;
  playout_delay_max_is = told.playout_delay_max_is;
  transmission_offset_is = told.transmission_offset_is;
  frame_marking_is = told.frame_marking_is;
  transport_number_is = told.transport_number_is;
  video_orientation_is = told.video_orientation_is;
  video_timing_is = told.video_timing_is;
  video_content_type_is = told.video_content_type_is;
  audio_level_is = told.audio_level_is;
  voice_activity_is = told.voice_activity_is;
  mid_is = told.mid_is;
  rid_is = told.rid_is;
  repaired_rid_is = told.repaired_rid_is;
  has_layers_is = is;
}

there : (known : Option Allocation) (layers : Layers) → true ≡ is_some known → IfSome known (λ a. IsViewOfLayers a layers) → IsViewOfLayers (unwrap_or known nothing_sent) layers
there None layers is told = absurd (false≢true (sym is))
there (Some a) layers is told = told

pub told_layers : (values : ExtensionValues) (view : ValuesView) (layers : Layers) (said : Bool) → said ≡ true → AreReadApart view layers said values
    → IsViewOfValues values (record view { has_layers = 1 }) × IsViewOfLayers (unwrap_or values.video_layers_allocation nothing_sent) layers
told_layers values view layers said is read =
    let some : true ≡ is_some values.video_layers_allocation = sym is ∙ read.said in
    (and_layers values view 1 (ap bit some) read.values_are, there values.video_layers_allocation layers some read.layers_are)

absent : (known : Option Allocation) (layers : Layers) → false ≡ is_some known → IsViewOfLayers nothing_sent layers → IsViewOfLayers (unwrap_or known nothing_sent) layers
absent None layers is told = told
absent (Some a) layers is told = absurd (false≢true is)

pub told_no_layers : (values : ExtensionValues) (view : ValuesView) (old layers : Layers) (said : Bool) → said ≡ false → AreReadApart view old said values → IsViewOfLayers nothing_sent layers
    → IsViewOfValues values view × IsViewOfLayers (unwrap_or values.video_layers_allocation nothing_sent) layers
told_no_layers values view old layers said is read told =
    let none : false ≡ is_some values.video_layers_allocation = sym is ∙ read.said in
    (and_layers values view view.has_layers (read.values_are.has_layers_is ∙ ap bit none) read.values_are, absent values.video_layers_allocation layers none told)
