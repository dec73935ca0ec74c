-- What is printed where a run stops early: what the functions of `printing` and `program` promise each other.
use Rattle.std.specs.Prelude.{ℕ, List, ◌++◌, take, Bool, true, false, Option, Some, None}
use Rattle.rtp_ext.specs.declared.map.ExtensionMap.{ExtensionMap}
use Rattle.rtp_wire.specs.declared.header.rtp_header.RtpHeader.{RtpHeader}
use Rattle.rtp_listing.specs.declared.program.RunEnd.{RunEnd}
use Rattle.rtp_listing.specs.declared.program.RunEnd.TheVariants.{Done, BadLine, NoMemory, Io}
use Rattle.rtp_listing.specs.Output.{IsListing, IsBadLineOf, IsFrontOf, IsBeginningOf}

-- what is printed of the datagrams where a run stops among them: the lines of the first of them where memory is refused, and a beginning of these where a write fails
abbrev pub IsPartialListing : ExtensionMap → List (List ℕ) → RunEnd → List ℕ → Type 0
IsPartialListing exts datagrams NoMemory printed = (count : ℕ) × IsListing exts (take count datagrams) printed
IsPartialListing exts datagrams Io printed = (count : ℕ) × (rest : List ℕ) × IsListing exts (take count datagrams) (printed ++ rest)
IsPartialListing exts datagrams Done printed = ⊥
IsPartialListing exts datagrams BadLine printed = ⊥

-- what a run has printed when it ends early, except for `want of memory`
abbrev pub IsLeft : List ℕ → RunEnd → List ℕ → Type 0
IsLeft text BadLine printed = IsBadLineOf text printed
IsLeft text NoMemory printed = IsFrontOf text printed
IsLeft text Io printed = IsBeginningOf text printed
IsLeft text Done printed = ⊥

-- the header that was read, where one was
abbrev pub read_header : Bool → RtpHeader → Option RtpHeader
read_header true header = Some header
read_header false header = None
