-- The kinds of which C gives a value that is left out where its header is written, as bits.
use Rattle.std.specs.Prelude.{◌≡◌, ◌≢◌, ◌↔◌, ◌⊎◌, ◌<◌, ℕ, List}
use Rattle.std.specs.Int.{bit_at}
use Rattle.rtp_values.specs.declared.known_kind.KnownKind.{KnownKind}
use Rattle.rtp_values.specs.declared.known_kind.KnownKind.TheVariants.{AbsoluteCaptureTime, VideoLayersAllocation}
use Rattle.rtp_values.specs.KnownKind.{extension_of_kind}
use Rattle.rtp_ext.specs.ExtensionMap.{Slots}
use Rattle.rtp_ext.specs.WrittenBlock.{IsLeftOut}
use Rattle.rtp_wire.specs.declared.header.rtp_header.RtpHeader.{RtpHeader}
use Rattle.rtp_wire.specs.Written.{image_of}
use Rattle.rtp_c.specs.declared.values.ValuesView.{ValuesView}
use Rattle.rtp_c.specs.KindNumbers.{kind_number}
use Rattle.rtp_c.specs.WrittenHeader.{IsToBeWritten}

-- the bit at the place of a kind's number is set where the kind is one of these, and no other bit is
pub record AreBitsOf (IsOne : KnownKind → Type 0) (bits : ℕ) : Type 0 where
  pub each : (kind : KnownKind) → (bit_at bits (kind_number kind) ≡ 1) ↔ IsOne kind
  pub others : (place : ℕ) → ((kind : KnownKind) → kind_number kind ≢ place) → bit_at bits place ≡ 0

-- a value of the kind is given that no header has: the offset of a capture time that isn't given
abbrev pub HasOffsetAlone : ValuesView → KnownKind → Type 0
HasOffsetAlone view kind = (kind ≡ AbsoluteCaptureTime) × (0 < view.has_capture_offset) × (view.has_capture_time ≡ 0)

-- or layers, which are given apart from the header
abbrev pub HasLayersFlag : ValuesView → KnownKind → Type 0
HasLayersFlag view kind = (kind ≡ VideoLayersAllocation) × (0 < view.has_layers)

-- the bits of the kinds of which the header that is given has a value and what is written of it has none, and of more kinds
pub record AreLeftOut (numbers : List ℕ) (IsGiven : RtpHeader → Type 0) (IsMore : KnownKind → Type 0) (bits : ℕ) : Type 0 where
  pub slots : Slots
  pub header : RtpHeader
  pub is_given : IsToBeWritten numbers IsGiven slots header
  pub bits_are : AreBitsOf (λ kind.
      IsLeftOut header.ext_vals (image_of slots header).ext_vals (extension_of_kind kind) ⊎ IsMore kind) bits
