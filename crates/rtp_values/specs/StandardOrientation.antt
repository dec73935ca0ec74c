-- The coordination of video orientation (3GPP TS 26.114, 7.4.5): one byte, with the bits 0 0 0 0 C F R1 R0.
use Rattle.std.specs.Prelude.{ℕ, ◌+◌, ◌*◌, ◌%◌, if◌then◌else◌}
use Rattle.rtp_base.specs.Flag.{bit}
use Rattle.rtp_values.specs.Spelling.{orientation_bits}
use Rattle.rtp_values.specs.Values.{orientation_of}
use Rattle.rtp_values.specs.StandardBits.{has_bit}
use Rattle.rtp_values.specs.declared.standard.orientation.Camera.{Camera}
use Rattle.rtp_values.specs.declared.standard.orientation.Camera.TheVariants.{Front, Back}
use Rattle.rtp_values.specs.declared.standard.orientation.Orientation.{Orientation}

-- C: 0 for a camera that faces the user, 1 for one that faces away
abbrev pub camera_bit : Camera → ℕ
camera_bit Front = 0
camera_bit Back = 1

-- the byte that is written
abbrev pub orientation_byte : Orientation → ℕ
orientation_byte o = camera_bit o.camera * 8 + bit o.flip * 4 + orientation_bits o.turn

-- what a byte says; its high four bits say nothing
abbrev pub orientation_in : ℕ → Orientation
orientation_in byte = record {
  camera = if has_bit 3 byte then Back else Front;
  flip = has_bit 2 byte;
  turn = orientation_of (byte % 4);
}
