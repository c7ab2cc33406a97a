-- The superblock of a session: it says that the session isn't closed, and lasts before anything else is written.
use Rattle.std.specs.Prelude.{ℕ, ◌≡◌, ◌≢◌, ◌⊎◌, ◌==◌, false, true, if◌then◌else◌, List, [], ◌∷◌}
use Rattle.blk_base.specs.declared.geometry.Super.{Super}
use Rattle.disk_model.specs.declared.call.Call.{Call}
use Rattle.disk_model.specs.declared.call.Call.TheVariants.{Write, Flush}
use Rattle.image_layout.specs.Superblock.{super_block}
use Rattle.data_vio.specs.declared.sizes.Sizes.{Sizes}
use Rattle.core_model.specs.declared.zones.SuperblockStage.{SuperblockStage}
use Rattle.core_model.specs.declared.zones.SuperblockStage.TheVariants.{AsOpened, Written, Durable}
use Rattle.core_model.specs.Trace.{Trace, Calls}

-- the superblock while the session goes on, and its bytes
abbrev pub session_super : Sizes → Super
session_super sizes = record { geometry = sizes.geometry; clean = false; start = sizes.start }

abbrev pub superblock_bytes : Sizes → List ℕ
superblock_bytes sizes = super_block (session_super sizes)

-- how far it has come, after a flush, after a call, and after all that happened
abbrev pub stage_flushed : SuperblockStage → SuperblockStage
stage_flushed Written = Durable
stage_flushed other = other

abbrev pub stage_after : Call → SuperblockStage → SuperblockStage
stage_after (Write at bytes true) now = if at.0 == 0 then Written else now
stage_after (Flush true) now = stage_flushed now
stage_after other now = now

abbrev pub superblock_stage : Trace → SuperblockStage
superblock_stage [] = AsOpened
superblock_stage (Calls call ∷ t) = stage_after call (superblock_stage t)
superblock_stage (other ∷ t) = superblock_stage t

-- this call writes the superblock of a session
pub record WritesSuperblock (sizes : Sizes) (at : ℕ) (bytes : List ℕ) : Type 0 where
  pub first : at ≡ 0
  pub says : bytes ≡ superblock_bytes sizes

-- this call writes no other block, and no other bytes there
abbrev pub WritesNoOther : Sizes → Call → Type 0
WritesNoOther sizes (Write at bytes ok) = WritesSuperblock sizes at.0 bytes
WritesNoOther sizes other = Unit {0}

-- a write is that of the superblock, before all others, or it comes once that lasts
abbrev pub IsInOrder : Sizes → SuperblockStage → Call → Type 0
IsInOrder sizes now (Write at bytes ok) = ((now ≡ AsOpened) × WritesSuperblock sizes at.0 bytes) ⊎ ((now ≡ Durable) × (at.0 ≢ 0))
IsInOrder sizes now other = Unit {0}
