-- The kinds of header extension, and what is fixed for each: the URI that SDP names it by (RFC 8285, 5), and its media.
use Rattle.std.specs.Prelude.{◌≡◌, ◌≢◌, ℕ, List, codes, Bool, true, false}
use Rattle.rtp_values.specs.declared.kind.Extension.{Extension}
use Rattle.rtp_values.specs.declared.kind.Extension.TheVariants.{AbsoluteSendTime, AbsoluteCaptureTime, AudioLevel, TransmissionTimeOffset, VideoOrientation, TransportSequenceNumber, PlayoutDelay, VideoContentType, VideoTiming, RtpStreamId, RepairedRtpStreamId, RtpMid, FrameMarking, ColorSpace, VideoLayersAllocation, UnknownUri}

-- what is fixed for a kind: the URI that names it in SDP, the text that it is shown as, and whether it is one of audio and of video
pub record Kind : Type 0 where
  pub uri : List ℕ
  pub name : List ℕ
  pub audio : Bool
  pub video : Bool

-- a kind for both media, and for one
abbrev pub audio_and_video : List ℕ → List ℕ → Kind
audio_and_video uri name = record { uri = uri; name = name; audio = true; video = true }

abbrev pub audio_only : List ℕ → List ℕ → Kind
audio_only uri name = record { uri = uri; name = name; audio = true; video = false }

abbrev pub video_only : List ℕ → List ℕ → Kind
video_only uri name = record { uri = uri; name = name; audio = false; video = true }

-- the table of the kinds; an unknown one is shown as its URI, and is one of neither audio nor video
abbrev pub kind_of : Extension → Kind
kind_of AbsoluteSendTime = audio_and_video (codes "http://www.webrtc.org/experiments/rtp-hdrext/abs-send-time") (codes "abs-send-time")
kind_of AbsoluteCaptureTime = audio_and_video (codes "http://www.webrtc.org/experiments/rtp-hdrext/abs-capture-time") (codes "abs-capture-time")
kind_of AudioLevel = audio_only (codes "urn:ietf:params:rtp-hdrext:ssrc-audio-level") (codes "ssrc-audio-level")
kind_of TransmissionTimeOffset = audio_and_video (codes "urn:ietf:params:rtp-hdrext:toffset") (codes "toffset")
kind_of VideoOrientation = video_only (codes "urn:3gpp:video-orientation") (codes "video-orientation")
kind_of TransportSequenceNumber = audio_and_video (codes "http://www.ietf.org/id/draft-holmer-rmcat-transport-wide-cc-extensions-01") (codes "transport-wide-cc")
kind_of PlayoutDelay = audio_and_video (codes "http://www.webrtc.org/experiments/rtp-hdrext/playout-delay") (codes "playout-delay")
kind_of VideoContentType = video_only (codes "http://www.webrtc.org/experiments/rtp-hdrext/video-content-type") (codes "video-content-type")
kind_of VideoTiming = video_only (codes "http://www.webrtc.org/experiments/rtp-hdrext/video-timing") (codes "video-timing")
kind_of RtpStreamId = audio_and_video (codes "urn:ietf:params:rtp-hdrext:sdes:rtp-stream-id") (codes "rtp-stream-id")
kind_of RepairedRtpStreamId = audio_and_video (codes "urn:ietf:params:rtp-hdrext:sdes:repaired-rtp-stream-id") (codes "repaired-rtp-stream-id")
kind_of RtpMid = audio_and_video (codes "urn:ietf:params:rtp-hdrext:sdes:mid") (codes "mid")
kind_of FrameMarking = video_only (codes "http://tools.ietf.org/html/draft-ietf-avtext-framemarking-07") (codes "frame-marking07")
kind_of ColorSpace = video_only (codes "http://www.webrtc.org/experiments/rtp-hdrext/color-space") (codes "color-space")
kind_of VideoLayersAllocation = video_only (codes "http://www.webrtc.org/experiments/rtp-hdrext/video-layers-allocation00") (codes "http://www.webrtc.org/experiments/rtp-hdrext/video-layers-allocation00")
kind_of (UnknownUri uri) = record { uri = uri; name = uri; audio = false; video = false }

-- a kind that is known by itself, without a text
abbrev pub IsKnown : Extension → Type 0
IsKnown (UnknownUri uri) = ⊥
IsKnown kind = Unit {0}

-- the extension that a URI names: the known kind whose URI it is, else the unknown one of this text
pub record IsNamedBy (uri : List ℕ) (extension : Extension) : Type 0 where
  pub known : (kind : Extension) → IsKnown kind → (kind_of kind).uri ≡ uri → extension ≡ kind
  pub unknown : ((kind : Extension) → IsKnown kind → (kind_of kind).uri ≢ uri) → extension ≡ UnknownUri uri
