-- What the device's zone can serve.
use Rattle.std.specs.Prelude.{⊤, ◌≡◌, ◌<◌, ◌-◌, ◌^◌, false, Option, None, Some, [], List}
use Rattle.blk_base.specs.declared.place.Mapping.{Mapping}
use Rattle.blk_base.specs.declared.place.Mapping.TheVariants.{At}
use Rattle.blk_base.specs.declared.place.Pbn.{Pbn}
use Rattle.disk_model.specs.Seen.{Seen}
use Rattle.data_vio.specs.declared.items.Phase.{Phase}
use Rattle.data_vio.specs.declared.items.Phase.TheVariants as phase
use Rattle.data_vio.specs.declared.items.Vio.{Vio}
use Rattle.data_vio.specs.declared.sizes.Sizes.{Sizes}
use Rattle.core_model.specs.declared.zones.DeviceZone.{DeviceZone}
use Rattle.core_model.specs.DeviceRules.{IsInside, IsReady}
use Rattle.core_model.specs.declared.zones.SuperblockStage.TheVariants.{Durable}
use Rattle.data_vio.specs.Vios.{Post}
use Rattle.step_parts.specs.ZoneSizes.{AreFew, HasPhysical}
use Rattle.device_zone.specs.DeviceCalls.{Fits}

-- One more call can be counted, an image of these sizes fits on the device, each zone can be told of a stop, each data block has its
-- physical zone, and nothing is posted yet.
pub record MayServe (sizes : Sizes) (zone : DeviceZone) (seen : Seen) (posts : List Post) : Type 0 where
  pub counts : zone.calls < 2 ^ 64 - 1
  pub fits : Fits sizes seen
  pub few : AreFew sizes
  pub physical : HasPhysical sizes
  pub none : posts ≡ []

-- a mapped block, and that of a leaf, inside an image of these sizes
abbrev pub IsAtInside : Sizes → Mapping → Type 0
IsAtInside sizes (At x) = IsInside sizes x
IsAtInside sizes other = ⊥

abbrev pub IsLeafInside : Sizes → Option Pbn → Type 0
IsLeafInside sizes (Some x) = IsInside sizes x
IsLeafInside sizes None = ⊥

-- a request in this phase can be served: where the device is called for its data, and no more for the superblock, that lies
-- inside the image
abbrev pub CanServe : Sizes → DeviceZone → Vio → Phase → Type 0
CanServe sizes d v phase.Store = d.stopped ≡ false → d.superblock ≡ Durable → IsAtInside sizes v.new
CanServe sizes d v phase.Load = IsReady d → IsAtInside sizes v.old
CanServe sizes d v phase.LoadLeaf = IsReady d → IsLeafInside sizes v.leaf
CanServe sizes d v phase.Flush = ⊤
CanServe sizes d v other = ⊥
