-- The direction of a media section or of a header extension, as SDP names it (RFC 8866, 6.7).
use Rattle.std.specs.Prelude.{◌≡◌, ℕ, List, codes}
use Rattle.rtp_base.specs.declared.dir.Direction.{Direction}
use Rattle.rtp_base.specs.declared.dir.Direction.TheVariants.{SendOnly, RecvOnly, SendRecv, Inactive}

-- the name of the SDP attribute
abbrev pub direction_text : Direction → List ℕ
direction_text SendOnly = codes "sendonly"
direction_text RecvOnly = codes "recvonly"
direction_text SendRecv = codes "sendrecv"
direction_text Inactive = codes "inactive"

-- the direction as the other side sees it
abbrev pub opposite : Direction → Direction
opposite SendOnly = RecvOnly
opposite RecvOnly = SendOnly
opposite SendRecv = SendRecv
opposite Inactive = Inactive

-- the text is the name of the direction, or no name at all and the direction is Inactive
pub record IsDirectionName (text : List ℕ) (direction : Direction) : Type 0 where
  pub named : (d : Direction) → text ≡ direction_text d → direction ≡ d
  pub otherwise : ((d : Direction) → text ≡ direction_text d → ⊥) → direction ≡ Inactive
