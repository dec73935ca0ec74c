-- A video timing (WebRTC's video-timing) as C is told of it, and as C gives it.
use Rattle.std.specs.Prelude.{◌≡◌}
use Rattle.rtp_values.specs.declared.standard.timing.Timing.{Timing}
use Rattle.rtp_c.specs.Told.{IsTold}
use Rattle.rtp_c.specs.Given.{given}
use Rattle.rtp_c.specs.declared.standard.timing.TimingView.{TimingView}

-- what C is told of a timing
pub record IsViewOfTiming (timing : Timing) (view : TimingView) : Type 0 where
  pub flags_are : IsTold view.has_flags view.flags timing.flags
  pub encode_start_is : view.encode_start ≡ timing.encode_start
  pub encode_finish_is : view.encode_finish ≡ timing.encode_finish
  pub packetize_complete_is : view.packetize_complete ≡ timing.packetize_complete
  pub last_left_pacer_is : view.last_left_pacer ≡ timing.last_left_pacer
  pub network_is : view.network ≡ timing.network
  pub network2_is : view.network2 ≡ timing.network2

-- the timing that is given
abbrev pub given_timing : TimingView → Timing
given_timing view = record {
  flags = given view.has_flags view.flags;
  encode_start = view.encode_start;
  encode_finish = view.encode_finish;
  packetize_complete = view.packetize_complete;
  last_left_pacer = view.last_left_pacer;
  network = view.network;
  network2 = view.network2;
}
