-- The coordination of video orientation (3GPP TS 26.114, 7.4.5) as C is told of it, and as C gives it.
use Rattle.std.specs.Prelude.{◌≡◌, List, [], ◌∷◌, ℕ}
use Rattle.rtp_base.specs.Flag.{bit}
use Rattle.rtp_values.specs.StandardOrientation.{camera_bit, orientation_byte}
use Rattle.rtp_values.specs.declared.standard.orientation.Orientation.{Orientation}
use Rattle.rtp_c.specs.Told.{degrees_of}
use Rattle.rtp_c.specs.Given.{is_nonzero}
use Rattle.rtp_c.specs.declared.standard.orientation.OrientationView.{OrientationView}

-- what C is told of an orientation
pub record IsViewOfOrientation (orientation : Orientation) (view : OrientationView) : Type 0 where
  pub turn_is : view.turn ≡ degrees_of orientation.turn
  pub camera_is : view.camera ≡ camera_bit orientation.camera
  pub flip_is : view.flip ≡ bit orientation.flip

-- the orientation that is given
pub record IsGivenOrientation (view : OrientationView) (orientation : Orientation) : Type 0 where
  pub turn_is : degrees_of orientation.turn ≡ view.turn
  pub camera_is : camera_bit orientation.camera ≡ view.camera
  pub flip_is : orientation.flip ≡ is_nonzero view.flip

-- its data
pub record AreOrientationData (view : OrientationView) (bytes : List ℕ) : Type 0 where
  pub orientation : Orientation
  pub is_given : IsGivenOrientation view orientation
  pub bytes_are : bytes ≡ orientation_byte orientation ∷ []
