-- The frame marking (RFC 9626, 3): S E I D B TID in the first byte, LID in the second and TL0PICIDX in the third.
use Rattle.std.specs.Prelude.{◌==◌, nat_le, if◌then◌else◌, ℕ, ◌+◌, ◌*◌, ◌%◌, List, [], ◌∷◌, length, slice_index, Bool, true, Option, Some, None}
use Rattle.rtp_base.specs.Flag.{bit}
use Rattle.rtp_values.specs.StandardBits.{has_bit}
use Rattle.rtp_values.specs.declared.standard.frame_marking.FrameMarking.{FrameMarking}
use Rattle.rtp_values.specs.declared.standard.frame_marking.FrameLayers.{FrameLayers}

-- the layers of a scalable stream (RFC 9626, 3.1)
abbrev pub layers_in : ℕ → ℕ → Option ℕ → FrameLayers
layers_in first layer index = record {
  base_layer_sync = has_bit 3 first;
  temporal_id = first % 8;
  layer_id = layer;
  tl0_pic_idx = index;
}

-- what one to three bytes say: one has no layers (RFC 9626, 3.2), and two have no TL0PICIDX
abbrev pub marking_in : List ℕ → FrameMarking
marking_in bytes = record {
  start = has_bit 7 (slice_index bytes 0);
  end = has_bit 6 (slice_index bytes 0);
  independent = has_bit 5 (slice_index bytes 0);
  discardable = has_bit 4 (slice_index bytes 0);
  layers =
      if length bytes == 1 then None
      else Some (layers_in (slice_index bytes 0) (slice_index bytes 1) (if length bytes == 2 then None else Some (slice_index bytes 2)));
}

-- the low four bits of the first byte
abbrev pub layer_bits : Option FrameLayers → ℕ
layer_bits None = 0
layer_bits (Some layers) = bit layers.base_layer_sync * 8 + layers.temporal_id

-- the first byte
abbrev pub flags_byte : FrameMarking → ℕ
flags_byte m = bit m.start * 128 + bit m.end * 64 + bit m.independent * 32 + bit m.discardable * 16 + layer_bits m.layers

-- the number of the base layer's frame, where it is sent
abbrev pub index_byte : Option ℕ → List ℕ
index_byte None = []
index_byte (Some index) = index ∷ []

-- the bytes after the first
abbrev pub layer_bytes : Option FrameLayers → List ℕ
layer_bytes None = []
layer_bytes (Some layers) = layers.layer_id ∷ index_byte layers.tl0_pic_idx

-- whether the temporal layer fits into its three bits
abbrev pub fits_layers : Option FrameLayers → Bool
fits_layers None = true
fits_layers (Some layers) = nat_le layers.temporal_id 7

-- the data, where the temporal layer fits into three bits
abbrev pub marking_data : FrameMarking → Option (List ℕ)
marking_data m = if fits_layers m.layers then Some (flags_byte m ∷ layer_bytes m.layers) else None
