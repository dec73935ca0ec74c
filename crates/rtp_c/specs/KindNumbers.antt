-- The numbers by which C names the kinds of extension (RFC 8285, 5).
use Rattle.std.specs.Prelude.{◌≡◌, ◌≢◌, ◌≤◌, ◌⊎◌, ℕ, List, [], ◌∷◌, codes, Option, Some, None, slice_index_or}
use Rattle.rtp_values.specs.Kind.{kind_of}
use Rattle.rtp_values.specs.KnownKind.{extension_of_kind}
use Rattle.rtp_values.specs.declared.known_kind.KnownKind.{KnownKind}
use Rattle.rtp_c.specs.declared.bare_kind.BareKind.{BareKind}
use Rattle.rtp_c.specs.declared.bare_kind.BareKind.TheVariants.{MixerLevels, TransportNumber2, DependencyDescriptor, Ntp64, Ntp56}
use Rattle.rtp_values.specs.declared.known_kind.KnownKind.TheVariants.{AbsoluteSendTime, AbsoluteCaptureTime, AudioLevel, TransmissionTimeOffset, VideoOrientation, TransportSequenceNumber, PlayoutDelay, VideoContentType, VideoTiming, RtpStreamId, RepairedRtpStreamId, RtpMid, FrameMarking, ColorSpace, VideoLayersAllocation}

-- the number of each known kind
abbrev pub kind_number : KnownKind → ℕ
kind_number AbsoluteSendTime = 1
kind_number AbsoluteCaptureTime = 2
kind_number AudioLevel = 3
kind_number TransmissionTimeOffset = 4
kind_number VideoOrientation = 5
kind_number TransportSequenceNumber = 6
kind_number PlayoutDelay = 7
kind_number VideoContentType = 8
kind_number VideoTiming = 9
kind_number RtpStreamId = 10
kind_number RepairedRtpStreamId = 11
kind_number RtpMid = 12
kind_number FrameMarking = 13
kind_number ColorSpace = 14
kind_number VideoLayersAllocation = 15

-- the known kind of a number, and none where it is that of none
abbrev pub IsKindNumbered : ℕ → Option KnownKind → Type 0
IsKindNumbered number None = (kind : KnownKind) → kind_number kind ≢ number
IsKindNumbered number (Some kind) = kind_number kind ≡ number

-- the same as a function: the kinds by their numbers from 0 on
abbrev pub numbered_kinds : List (Option KnownKind)
numbered_kinds =
    None ∷ Some AbsoluteSendTime ∷ Some AbsoluteCaptureTime ∷ Some AudioLevel ∷ Some TransmissionTimeOffset ∷ Some VideoOrientation
    ∷ Some TransportSequenceNumber ∷ Some PlayoutDelay ∷ Some VideoContentType ∷ Some VideoTiming ∷ Some RtpStreamId
    ∷ Some RepairedRtpStreamId ∷ Some RtpMid ∷ Some FrameMarking ∷ Some ColorSpace ∷ Some VideoLayersAllocation ∷ []

unfoldable pub kind_numbered : ℕ → Option KnownKind
kind_numbered number = slice_index_or numbered_kinds number None

-- the number of each kind without a field
abbrev pub bare_number : BareKind → ℕ
bare_number MixerLevels = 16
bare_number TransportNumber2 = 17
bare_number DependencyDescriptor = 18
bare_number Ntp64 = 19
bare_number Ntp56 = 20

-- the greatest number of a known kind, and of any
abbrev pub last_known : ℕ
last_known = 15

abbrev pub last_number : ℕ
last_number = 20

-- the least number of the caller's own: extensions whose data this library doesn't know
abbrev pub first_own : ℕ
first_own = 128

-- the number is that of a kind, or one of the caller's own
abbrev pub IsNamed : ℕ → Type 0
IsNamed number = ((1 ≤ number) × (number ≤ last_number)) ⊎ (first_own ≤ number)

-- the URI that names each kind without a field in SDP
abbrev pub bare_uri : BareKind → List ℕ
bare_uri MixerLevels = codes "urn:ietf:params:rtp-hdrext:csrc-audio-level"
bare_uri TransportNumber2 = codes "http://www.webrtc.org/experiments/rtp-hdrext/transport-wide-cc-02"
bare_uri DependencyDescriptor = codes "https://aomediacodec.github.io/av1-rtp-spec/#dependency-descriptor-rtp-header-extension"
bare_uri Ntp64 = codes "urn:ietf:params:rtp-hdrext:ntp-64"
bare_uri Ntp56 = codes "urn:ietf:params:rtp-hdrext:ntp-56"

-- a kind that has a number: a known one, or one without a field
pub data NumberedKind : Type 0 where
  Known : KnownKind → NumberedKind
  Bare : BareKind → NumberedKind

-- its number
abbrev pub number_of : NumberedKind → ℕ
number_of (Known kind) = kind_number kind
number_of (Bare kind) = bare_number kind

-- the URI that names it in SDP
abbrev pub uri_of : NumberedKind → List ℕ
uri_of (Known kind) = (kind_of (extension_of_kind kind)).uri
uri_of (Bare kind) = bare_uri kind
