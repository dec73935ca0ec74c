-- The layer allocation that C gives to be written (video-layers-allocation00).
use Rattle.std.specs.Prelude.{◌≡◌, ◌≤◌, length, map, take, Some}
use Rattle.std.specs.List.{All, AllZip}
use Rattle.rtp_vla.specs.Allocation as vla
use Rattle.rtp_vla.specs.AllocationWritten.{Writable, written_of}
use Rattle.rtp_wire.specs.declared.header.rtp_header.RtpHeader.{RtpHeader}
use Rattle.rtp_wire.specs.Written.{with_values}
use Rattle.rtp_c.specs.declared.header.HeaderView.{HeaderView}
use Rattle.rtp_c.specs.declared.layers.Layer.{Layer}
use Rattle.rtp_c.specs.declared.layers.Stream.{Stream}
use Rattle.rtp_c.specs.declared.layers.Layers.{Layers}
use Rattle.rtp_c.specs.Given.{given, IsGivenHeader}

-- the layer that is given: its first rates, of which there are at most four, and its resolution where the flag is set
pub record IsGivenLayer (view : Layer) (layer : vla.Layer) : Type 0 where
  pub few_rates : view.rates ≤ 4
  pub rates_are : layer.temporal_layers ≡ take view.rates view.kbps
  pub resolution_is : layer.resolution_and_framerate ≡ given view.has_resolution (record {
    width = view.width;
    height = view.height;
    framerate = view.framerate;
  })

-- the stream that is given: its first layers, of which there are at most four
pub record IsGivenStream (view : Stream) (stream : vla.Stream) : Type 0 where
  pub few_layers : view.count ≤ 4
  pub layers_are : AllZip IsGivenLayer (take view.count view.layers) stream

-- the allocation that is given: its first streams, of which there are at most four, and the index of the packet's stream
pub record IsGivenLayers (view : Layers) (allocation : vla.Allocation) : Type 0 where
  pub few_streams : view.count ≤ 4
  pub streams_are : AllZip IsGivenStream (take view.count view.streams) allocation.simulcast_streams
  pub current_is : allocation.current_simulcast_stream_index ≡ view.current

-- a stream that counts at most four layers, each of which counts at most four rates
abbrev pub HasFewLayers : Stream → Type 0
HasFewLayers view = (view.count ≤ 4) × All (λ layer. layer.rates ≤ 4) (take view.count view.layers)

-- the layer, the stream and the allocation of what counts, of each count at most four
abbrev pub layer_in : Layer → vla.Layer
layer_in view = record {
  temporal_layers = take view.rates view.kbps;
  resolution_and_framerate = given view.has_resolution (record {
    width = view.width;
    height = view.height;
    framerate = view.framerate;
  });
}

abbrev pub stream_in : Stream → vla.Stream
stream_in view = map layer_in (take view.count view.layers)

abbrev pub allocation_in : Layers → vla.Allocation
allocation_in view = record {
  current_simulcast_stream_index = view.current;
  simulcast_streams = map stream_in (take view.count view.streams);
}

-- the same where an element can carry it: it can be written, in at most 255 bytes (RFC 8285, 4.3)
pub record AreCarriedLayers (view : Layers) (allocation : vla.Allocation) : Type 0 where
  pub are_given : IsGivenLayers view allocation
  pub is_writable : Writable allocation
  pub few_bytes : length (written_of allocation) ≤ 255

-- the header that is given, with the layers that are given as its allocation
pub record IsGivenWithLayers (view : HeaderView) (layers : Layers) (header : RtpHeader) : Type 0 where
  pub without : RtpHeader
  pub is_given : IsGivenHeader view without
  pub allocation : vla.Allocation
  pub are_carried : AreCarriedLayers layers allocation
  pub header_is : header ≡ with_values without (record without.ext_vals { video_layers_allocation = Some allocation })
