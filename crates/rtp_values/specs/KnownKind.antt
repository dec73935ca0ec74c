-- The known kinds by themselves, without the texts of unknown ones (RFC 8285, 5).
use Rattle.std.specs.Prelude.{ℕ, List, [], ◌∷◌}
use Rattle.rtp_values.specs.declared.kind.Extension.{Extension}
use Rattle.rtp_values.specs.declared.kind.Extension.TheVariants.{AbsoluteSendTime, AbsoluteCaptureTime, AudioLevel, TransmissionTimeOffset, VideoOrientation, TransportSequenceNumber, PlayoutDelay, VideoContentType, VideoTiming, RtpStreamId, RepairedRtpStreamId, RtpMid, FrameMarking, ColorSpace, VideoLayersAllocation, UnknownUri}
use Rattle.rtp_values.specs.declared.known_kind.KnownKind.{KnownKind}
use Rattle.rtp_values.specs.declared.known_kind.KnownKind.TheVariants as known

-- the extension that a known kind is
abbrev pub extension_of_kind : KnownKind → Extension
extension_of_kind known.AbsoluteSendTime = AbsoluteSendTime
extension_of_kind known.AbsoluteCaptureTime = AbsoluteCaptureTime
extension_of_kind known.AudioLevel = AudioLevel
extension_of_kind known.TransmissionTimeOffset = TransmissionTimeOffset
extension_of_kind known.VideoOrientation = VideoOrientation
extension_of_kind known.TransportSequenceNumber = TransportSequenceNumber
extension_of_kind known.PlayoutDelay = PlayoutDelay
extension_of_kind known.VideoContentType = VideoContentType
extension_of_kind known.VideoTiming = VideoTiming
extension_of_kind known.RtpStreamId = RtpStreamId
extension_of_kind known.RepairedRtpStreamId = RepairedRtpStreamId
extension_of_kind known.RtpMid = RtpMid
extension_of_kind known.FrameMarking = FrameMarking
extension_of_kind known.ColorSpace = ColorSpace
extension_of_kind known.VideoLayersAllocation = VideoLayersAllocation

-- the known kinds in their order
abbrev pub every_kind : List KnownKind
every_kind =
    known.AbsoluteSendTime ∷ known.AbsoluteCaptureTime ∷ known.AudioLevel ∷ known.TransmissionTimeOffset ∷ known.VideoOrientation
    ∷ known.TransportSequenceNumber ∷ known.PlayoutDelay ∷ known.VideoContentType ∷ known.VideoTiming ∷ known.RtpStreamId
    ∷ known.RepairedRtpStreamId ∷ known.RtpMid ∷ known.FrameMarking ∷ known.ColorSpace ∷ known.VideoLayersAllocation ∷ []

-- where an extension stands in this order, and an unknown one behind all
abbrev pub place : Extension → ℕ
place AbsoluteSendTime = 0
place AbsoluteCaptureTime = 1
place AudioLevel = 2
place TransmissionTimeOffset = 3
place VideoOrientation = 4
place TransportSequenceNumber = 5
place PlayoutDelay = 6
place VideoContentType = 7
place VideoTiming = 8
place RtpStreamId = 9
place RepairedRtpStreamId = 10
place RtpMid = 11
place FrameMarking = 12
place ColorSpace = 13
place VideoLayersAllocation = 14
place (UnknownUri uri) = 15
