-- What a zone did, with the trace that it made.
use Rattle.std.specs.Prelude.{List}
use Rattle.disk_model.specs.Seen.{Seen}
use Rattle.disk_model.specs.Trust.{Trust}
use Rattle.data_vio.specs.declared.items.Item.{Item}
use Rattle.data_vio.specs.declared.sizes.Sizes.{Sizes}
use Rattle.core_model.specs.declared.zones.ZoneData.{ZoneData}
use Rattle.core_model.specs.Steps.{Act}
use Rattle.core_model.specs.Trace.{Trace}
use Rattle.data_vio.specs.Vios.{Post}
use Rattle.step_parts.specs.DeviceLog.{HasCalled}

-- the zone acts, and doesn't call the device
abbrev pub ActsAlone : Sizes → ZoneData → List Item → ZoneData → List Post → Type 0
ActsAlone sizes old front new posts = (made : Trace) × Act sizes old front new made posts × ((trust : Trust) (seen : Seen) → HasCalled trust seen seen made)

-- the zone acts, and the device has had its calls
abbrev pub Acts : Trust → Sizes → ZoneData → List Item → ZoneData → List Post → Seen → Seen → Type 0
Acts trust sizes old front new posts before after = (made : Trace) × Act sizes old front new made posts × HasCalled trust before after made
