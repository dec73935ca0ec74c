-- The statuses of a header that is made for a group of receivers.
use Rattle.std.specs.Prelude.{◌≡◌, ℤ}
use Rattle.rtp_route.specs.declared.not_routed.NotRouted as not_routed
use Rattle.rtp_c.specs.PutStatus.{put_status}
use Rattle.rtp_c.specs.Status.{bad_field, long_id}

-- the status of each cause for which no header is made
abbrev pub not_routed_status : not_routed.NotRouted → ℤ
not_routed_status not_routed.TheVariants.ManyElements = bad_field
not_routed_status not_routed.TheVariants.RepeatedId = bad_field
not_routed_status not_routed.TheVariants.LongId = long_id
not_routed_status (not_routed.TheVariants.NotPut cause) = put_status cause

-- the status of a cause that applies
pub record IsNotRoutedStatus (Applies : not_routed.NotRouted → Type 0) (status : ℤ) : Type 0 where
  pub cause : not_routed.NotRouted
  pub applies : Applies cause
  pub status_is : status ≡ not_routed_status cause
