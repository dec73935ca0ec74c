-- Worked rows of how an extension is shown: as the plain text, whatever width and flags are asked for.
use Rattle.std.proofs.Common.{◌≡◌, ℕ, List, Some, refl, codes}
use Rattle.rtp_values.specs.declared.kind.Extension.TheVariants.{AudioLevel, RtpMid, FrameMarking, UnknownUri}
use Rattle.rtp_values.specs.contracts.kind.ExtensionDisplay.TheImpl as shown

level_row : (shown.ghosts).output AudioLevel ≡ Some (codes "ssrc-audio-level")
level_row = refl

mid_row : (options : _) → (shown.ghosts).styled_output RtpMid options ≡ Some (codes "mid")
mid_row options = refl

marking_row : (options : _) → (shown.ghosts).styled_output FrameMarking options ≡ Some (codes "frame-marking07")
marking_row options = refl

unknown_row : (uri : List ℕ) (options : _) → (shown.ghosts).styled_output (UnknownUri uri) options ≡ Some uri
unknown_row uri options = refl
