-- When a core is done.
use Rattle.std.specs.Prelude.{◌≡◌, ◌*◌, Some, List, length, slice_get}
use Rattle.core_model.specs.DeskData.{Desk}
use Rattle.core_model.specs.SessionLimits.{requests_in}
use Rattle.data_vio.specs.Zones.{desk_number}
use Rattle.core_model.specs.declared.zones.Zone.{Zone}
use Rattle.core_model.specs.declared.zones.ZoneData.TheVariants as at

-- the desk's log has two lines for each request: it was begun, and answered
pub record IsDone (zones : List Zone) : Type 0 where
  pub zone : Zone
  pub desk : Desk
  pub had : slice_get zones desk_number ≡ Some zone
  pub keeps : zone.keeps ≡ at.Desk desk
  pub full : length desk.log ≡ 2 * requests_in desk.requests
