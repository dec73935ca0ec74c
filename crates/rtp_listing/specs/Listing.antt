-- What is printed of each datagram: the line of its header, and the line of the verdict on it.
use Rattle.std.specs.Prelude.{ℕ, List, [], ◌++◌, Bool, true, false, codes, Option, Some, None}
use Rattle.std.specs.Fmt.{decimal, signed_decimal}
use Rattle.rtp_base.specs.Id.{before_padding}
use Rattle.rtp_values.specs.HeaderValues.{HeaderValues}
use Rattle.rtp_wire.specs.declared.header.rtp_header.RtpHeader.{RtpHeader}
use Rattle.rtp_receive.specs.declared.receiver.Verdict.{Verdict}
use Rattle.rtp_receive.specs.declared.receiver.Verdict.TheVariants.{Unreadable, Taken, Refused}

-- how a flag is printed
abbrev pub flag_text : Bool → List ℕ
flag_text true = codes "yes"
flag_text false = codes "no"

-- payload type, sequence number, timestamp and SSRC
abbrev pub stream_text : RtpHeader → List ℕ
stream_text header =
    codes "pt " ++ decimal header.payload_type ++ codes " seq " ++ decimal header.sequence_number
    ++ codes " ts " ++ decimal header.timestamp ++ codes " ssrc " ++ decimal header.ssrc

-- the flags M, P and X, the number of CSRCs and the length of the header in bytes
abbrev pub shape_text : RtpHeader → List ℕ
shape_text header =
    codes " marker " ++ flag_text header.marker ++ codes " padding " ++ flag_text header.has_padding
    ++ codes " extension " ++ flag_text header.has_extension ++ codes " csrc " ++ decimal header.csrc_count
    ++ codes " header " ++ decimal header.header_len

-- the word of a value and then its text, and nothing where there is no value
abbrev pub value_text : {A : Type 0} → List ℕ → (A → List ℕ) → Option A → List ℕ
value_text word text None = []
value_text word text (Some value) = word ++ text value

-- the ids of the media section, of the stream, and of the stream that this one repairs; the audio level, and whether there is voice; the send time, and the number on the transport
abbrev pub values_text : HeaderValues → List ℕ
values_text values =
    value_text (codes " mid ") before_padding values.mid ++ value_text (codes " rid ") before_padding values.rid
    ++ value_text (codes " repaired ") before_padding values.rid_repair
    ++ value_text (codes " level ") signed_decimal values.audio_level ++ value_text (codes " voice ") flag_text values.voice_activity
    ++ value_text (codes " send ") decimal values.abs_send_time ++ value_text (codes " transport ") decimal values.transport_cc

-- what a header says, with the values of its extensions
abbrev pub header_text : RtpHeader → List ℕ
header_text header = stream_text header ++ shape_text header ++ values_text header.ext_vals

-- the line of a datagram's header, where it begins with one
abbrev pub header_line : ℕ → Option RtpHeader → List ℕ
header_line packet None = codes "packet " ++ decimal packet ++ codes ": unreadable"
header_line packet (Some header) = codes "packet " ++ decimal packet ++ codes ": " ++ header_text header

-- what is said of a verdict
abbrev pub verdict_text : Verdict → List ℕ
verdict_text (Taken number) = codes "taken " ++ decimal number
verdict_text Refused = codes "refused"
verdict_text Unreadable = codes "unreadable"

-- the line of the verdict on a datagram
abbrev pub verdict_line : ℕ → Verdict → List ℕ
verdict_line packet verdict = codes "verdict " ++ decimal packet ++ codes ": " ++ verdict_text verdict
