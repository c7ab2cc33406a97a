-- What one call leaves of the device, and what a sealed block needs of it.
use Rattle.std.specs.Prelude.{◌≤◌, Bool, true, false, [], ◌∷◌}
use Rattle.blk_base.specs.Limits.{IsGeometry}
use Rattle.blk_base.specs.Regions.{needed_blocks}
use Rattle.blk_base.specs.declared.request.Writer.{Writer}
use Rattle.disk_model.specs.declared.call.Call.{Call}
use Rattle.disk_model.specs.Seen.{Seen}
use Rattle.disk_model.specs.Trust.{Trust}
use Rattle.data_vio.specs.declared.items.Stage.{Stage}
use Rattle.data_vio.specs.declared.items.Stage.TheVariants as stage
use Rattle.data_vio.specs.declared.sizes.Sizes.{Sizes}
use Rattle.core_model.specs.declared.zones.SuperblockStage.{SuperblockStage}
use Rattle.core_model.specs.declared.zones.SuperblockStage.TheVariants.{Durable}
use Rattle.core_model.specs.Trace.{Fails}
use Rattle.step_parts.specs.DeviceLog.{HasCalled}

-- an image of these sizes fits on the device
pub record Fits (sizes : Sizes) (seen : Seen) : Type 0 where
  pub geometry : IsGeometry sizes.geometry
  pub room : needed_blocks sizes.geometry ≤ seen.size

-- this call failed, whoever it was made for
abbrev pub HasFailed : Trust → Seen → Seen → Call → Type 0
HasFailed trust before after call = (kept : Bool) × ((w : Writer) → HasCalled trust before after (Fails w call kept ∷ []))

-- what comes waits for the superblock
abbrev pub is_awaited : SuperblockStage → Bool
is_awaited Durable = false
is_awaited other = true

-- a sealed block at this stage needs a call of the device
abbrev pub needs_call : Stage → Bool
needs_call stage.Cover = true
needs_call stage.Write = true
needs_call stage.Harden = true
needs_call other = false
