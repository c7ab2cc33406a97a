-- What the desk can begin.
use Rattle.std.specs.Prelude.{◌<◌}
use Rattle.std.specs.List.{AllByRecursion}
use Rattle.data_vio.specs.declared.sizes.Sizes.{Sizes}
use Rattle.core_model.specs.declared.zones.ZoneData.TheVariants as at
use Rattle.core_model.specs.DeskData.{Desk}
use Rattle.core_model.specs.DeskLimits.{HasRoomToBegin, IsDeskWithin}
use Rattle.core_model.specs.SessionLimits.{IsLimited}
use Rattle.vdo_model.specs.Scripts.{IsServed}
use Rattle.core_model.specs.Steps.{MayBegin}

-- There is a logical zone, the script is no larger than it may be, each of its requests is served, and the desk keeps
-- within its room; where a stream may begin a request, there is room for it.
pub record CanBegin (sizes : Sizes) (desk : Desk) : Type 0 where
  pub zones : 0 < sizes.zones
  pub limited : IsLimited sizes desk.requests
  pub served : AllByRecursion (AllByRecursion IsServed) desk.requests
  pub within : IsDeskWithin desk
  pub room : MayBegin sizes (at.Desk desk) → HasRoomToBegin desk
