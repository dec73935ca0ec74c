-- What a run prints, by the bytes of its input and by its end.
use Rattle.std.specs.Prelude.{◌≡◌, ℕ, ◌+◌, List, [], ◌∷◌, ◌++◌, map, take, codes, Option, Some, None}
use Rattle.std.specs.List.{AllZip}
use Rattle.std.specs.Fmt.{decimal}
use Rattle.std.specs.Io.KnownBytes.{Appends}
use Rattle.rtp_ext.specs.declared.map.ExtensionMap.{ExtensionMap}
use Rattle.rtp_wire.specs.declared.header.rtp_header.RtpHeader.{RtpHeader}
use Rattle.rtp_receive.specs.declared.receiver.Verdict.{Verdict}
use Rattle.rtp_wire.specs.Header.{IsWire}
use Rattle.rtp_wire.specs.Runs.{AreVerdictsBySource}
use Rattle.rtp_listing.specs.declared.program.RunEnd.{RunEnd}
use Rattle.rtp_listing.specs.declared.program.RunEnd.TheVariants.{Done, BadLine, NoMemory, Io}
use Rattle.rtp_listing.specs.Input.{Spells, IsFirstBadLine}
use Rattle.rtp_listing.specs.Listing.{header_line, verdict_line}

-- the header that a datagram begins with, and none where it begins with none
abbrev pub IsHeader : ExtensionMap → List ℕ → Option RtpHeader → Type 0
IsHeader exts datagram None = (header : RtpHeader) → IsWire exts datagram header → ⊥
IsHeader exts datagram (Some header) = IsWire exts datagram header

-- the two lines of the datagram of this number
abbrev pub packet_lines : ℕ → Option RtpHeader → Verdict → List ℕ
packet_lines packet header verdict = header_line packet header ++ 10 ∷ [] ++ verdict_line packet verdict ++ 10 ∷ []

-- the two lines of each datagram in order, where the first has this number
abbrev pub lines_from : ℕ → List (Option RtpHeader × Verdict) → List ℕ
lines_from packet [] = []
lines_from packet (listing ∷ listings) = packet_lines packet listing.0 listing.1 ++ lines_from (packet + 1) listings

-- the lines of the datagrams, each with its header and the verdict at its place, numbered from 1
pub record IsListing (exts : ExtensionMap) (datagrams : List (List ℕ)) (printed : List ℕ) : Type 0 where
  pub listings : List (Option RtpHeader × Verdict)
  pub headers_are : AllZip (λ datagram listing. IsHeader exts datagram listing.0) datagrams listings
  pub verdicts_are : AreVerdictsBySource exts datagrams (map (λ listing. listing.1) listings)
  pub printed_is : printed ≡ lines_from 1 listings

-- the output of an input whose lines are all well-formed: the lines of its datagrams
pub record IsOutputOf (text printed : List ℕ) : Type 0 where
  pub exts : ExtensionMap
  pub datagrams : List (List ℕ)
  pub spelled : Spells text exts datagrams
  pub listing : IsListing exts datagrams printed

-- the output of an input with a bad line: the line that names the first one
pub record IsBadLineOf (text printed : List ℕ) : Type 0 where
  pub number : ℕ
  pub first : IsFirstBadLine text number
  pub printed_is : printed ≡ codes "line " ++ decimal number ++ codes ": neither a map line nor hex\n"

-- the first lines of the output: none, or those of the first of the datagrams
pub data IsFrontOf (text printed : List ℕ) : Type 0 where
  nothing : printed ≡ [] → IsFrontOf text printed
  some : (exts : ExtensionMap) (datagrams : List (List ℕ)) (count : ℕ) → Spells text exts datagrams → IsListing exts (take count datagrams) printed → IsFrontOf text printed

-- the first lines of the output, and then that memory was refused
pub record IsWantOf (text printed : List ℕ) : Type 0 where
  pub front : List ℕ
  pub front_is : IsFrontOf text front
  pub printed_is : printed ≡ front ++ codes "want of memory\n"

-- a beginning of what is printed where no write fails
pub data IsBeginningOf (text printed : List ℕ) : Type 0 where
  of_lines : (rest : List ℕ) → IsFrontOf text (printed ++ rest) → IsBeginningOf text printed
  of_bad_line : (rest : List ℕ) → IsBadLineOf text (printed ++ rest) → IsBeginningOf text printed
  of_want : (rest : List ℕ) → IsWantOf text (printed ++ rest) → IsBeginningOf text printed

-- the exit status of the program
abbrev pub status_of : RunEnd → ℕ
status_of Done = 0
status_of Io = 1
status_of BadLine = 2
status_of NoMemory = 3

-- what a writer holds grows by a text of this kind
abbrev pub Prints : Option (List ℕ) → Option (List ℕ) → (List ℕ → Type 0) → Type 0
Prints old new Is = (printed : List ℕ) × Appends old new printed × Is printed
