-- A color space (WebRTC's color-space) as C is told of it, and as C gives it.
use Rattle.std.specs.Prelude.{◌≡◌, List, ℕ}
use Rattle.rtp_values.specs.StandardColor.{range_number, siting_number, color_data}
use Rattle.rtp_values.specs.declared.standard.color_space.Chromaticity.{Chromaticity}
use Rattle.rtp_values.specs.declared.standard.color_space.ColorSpace.{ColorSpace}
use Rattle.rtp_values.specs.declared.standard.color_space.HdrMetadata.{HdrMetadata}
use Rattle.rtp_c.specs.Told.{IsToldOr}
use Rattle.rtp_c.specs.Given.{given}
use Rattle.rtp_c.specs.declared.standard.color_space.SpaceView.{SpaceView}

-- metadata with zeros alone
abbrev pub no_point : Chromaticity
no_point = record { x = 0; y = 0 }

abbrev pub no_hdr : HdrMetadata
no_hdr = record {
  luminance_max = 0;
  luminance_min = 0;
  red = no_point;
  green = no_point;
  blue = no_point;
  white = no_point;
  max_content_light_level = 0;
  max_frame_average_light_level = 0;
}

-- what C is told of a color space
pub record IsViewOfSpace (space : ColorSpace) (view : SpaceView) : Type 0 where
  pub primaries_are : view.primaries ≡ space.primaries
  pub transfer_is : view.transfer ≡ space.transfer
  pub matrix_is : view.matrix ≡ space.matrix
  pub range_is : view.range ≡ range_number space.range
  pub horizontal_is : view.horizontal ≡ siting_number space.horizontal
  pub vertical_is : view.vertical ≡ siting_number space.vertical
  pub hdr_is : IsToldOr (λ hdr. hdr ≡ no_hdr) view.has_hdr view.hdr space.hdr

-- the color space that is given
pub record IsGivenSpace (view : SpaceView) (space : ColorSpace) : Type 0 where
  pub primaries_are : space.primaries ≡ view.primaries
  pub transfer_is : space.transfer ≡ view.transfer
  pub matrix_is : space.matrix ≡ view.matrix
  pub range_is : range_number space.range ≡ view.range
  pub horizontal_is : siting_number space.horizontal ≡ view.horizontal
  pub vertical_is : siting_number space.vertical ≡ view.vertical
  pub hdr_is : space.hdr ≡ given view.has_hdr view.hdr

-- its data
pub record AreSpaceData (view : SpaceView) (bytes : List ℕ) : Type 0 where
  pub space : ColorSpace
  pub is_given : IsGivenSpace view space
  pub bytes_are : bytes ≡ color_data space
