-- Facts of the device zone: what a request carries that is loaded there, what the zone is told, and what it keeps.
use Rattle.std.specs.Prelude.{ℕ, ◌≡◌, Option, None, Some, []}
use Rattle.blk_base.specs.declared.place.Mapping.{Mapping}
use Rattle.blk_base.specs.declared.place.Mapping.TheVariants.{At}
use Rattle.blk_base.specs.declared.place.Pbn.{Pbn}
use Rattle.vdo_model.specs.FlushMarks.{successes}
use Rattle.core_model.specs.declared.zones.DeviceZone.{DeviceZone}
use Rattle.data_vio.specs.declared.logged.Remapping.{Remapping}
use Rattle.core_model.specs.DeviceRules.{IsInside}
use Rattle.core_model.specs.RightTraces.{HearingMayFollow, IsLeafy, IsLinkedAt}
use Rattle.core_model.specs.Sessions.{Session}
use Rattle.blk_base.specs.Pages.{leaf_of}
use Rattle.core_model.specs.Superblocks.{superblock_stage}
use Rattle.core_model.specs.Trace.{Trace, calls, applied, remappings, has_stopped, of_address, damage_in}
use Rattle.vdo_model.specs.declared.report.Damage.{Damage}

-- a request that needs its leaf, which stands at this block: no slot of its address was set
pub record NeedsLeaf (s : Session) (t : Trace) (a : ℕ) (block : Option Pbn) (last : Option Remapping) : Type 0 where
  pub at : Pbn
  pub block_is : block ≡ Some at
  pub stands : IsLinkedAt s t (leaf_of a) at
  pub leaf : IsLeafy s t a
  pub inside : IsInside s.sizes at
  pub unset : of_address a (remappings (applied t)) ≡ []
  pub latest : last ≡ None

-- a mapping is to a block inside the image
abbrev pub IsToInside : Session → Mapping → Type 0
IsToInside s (At x) = IsInside s.sizes x
IsToInside s other = ⊥

-- what the device's zone is told is the damage of a decrement that found 0
abbrev pub IsTold : Trace → Damage → Type 0
IsTold t damage = HearingMayFollow damage t

-- Its calls are those of the trace that returned, and whatever else it keeps is of the trace.
pub record DeviceLists (t : Trace) (d : DeviceZone) : Type 0 where
  pub calls_is : d.calls ≡ successes (calls t)
  pub stopped_is : d.stopped ≡ has_stopped t
  pub superblock_is : d.superblock ≡ superblock_stage t
  pub damage_is : d.damage ≡ damage_in t
