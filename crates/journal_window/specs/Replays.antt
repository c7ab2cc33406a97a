-- Why a block, or one of several, can't be replayed.
use Rattle.std.specs.Prelude.{ℕ, ◌≡◌, ◌<◌, ◌≤◌, List}
use Rattle.blk_base.specs.declared.geometry.Geometry.{Geometry}
use Rattle.blk_base.specs.declared.journal_entry.Entry.{Entry}
use Rattle.disk_model.specs.Log.{Blocks}
use Rattle.image_model.specs.Windows.{IsReplayable}
use Rattle.image_model.specs.declared.fault.ImageFault.{ImageFault}
use Rattle.image_model.specs.declared.fault.ImageFault.TheVariants.{Super, Window, Page, Counter, SharedPage, Counts, Device, Unclean, Memory}

-- the block of a sequence isn't one that can be replayed
abbrev pub IsBad : Geometry → Blocks → ℕ → ℕ → Type 0
IsBad g journal last sequence = (entries : List Entry) → IsReplayable g journal last sequence entries → ⊥

-- the fault names this block, which is such a one
abbrev pub CantReplay : Geometry → Blocks → ℕ → ℕ → ImageFault → Type 0
CantReplay g journal last sequence (Window named) = (named ≡ sequence) × IsBad g journal last sequence
CantReplay g journal last sequence Memory = Unit {0}
CantReplay g journal last sequence (Super fault) = ⊥
CantReplay g journal last sequence (Page at fault) = ⊥
CantReplay g journal last sequence (Counter at point) = ⊥
CantReplay g journal last sequence (SharedPage at) = ⊥
CantReplay g journal last sequence (Counts at stored mapped) = ⊥
CantReplay g journal last sequence Device = ⊥
CantReplay g journal last sequence Unclean = ⊥

-- this is the first such block from the first sequence on
pub record IsFirstBad (g : Geometry) (journal : Blocks) (last first sequence : ℕ) : Type 0 where
  pub inside : (first ≤ sequence) × (sequence ≤ last)
  pub bad : IsBad g journal last sequence
  pub good : (earlier : ℕ) → first ≤ earlier → earlier < sequence → (entries : List Entry) × IsReplayable g journal last earlier entries

-- the fault names it
abbrev pub IsStopped : Geometry → Blocks → ℕ → ℕ → ImageFault → Type 0
IsStopped g journal last first (Window sequence) = IsFirstBad g journal last first sequence
IsStopped g journal last first Memory = Unit {0}
IsStopped g journal last first (Super fault) = ⊥
IsStopped g journal last first (Page at fault) = ⊥
IsStopped g journal last first (Counter at point) = ⊥
IsStopped g journal last first (SharedPage at) = ⊥
IsStopped g journal last first (Counts at stored mapped) = ⊥
IsStopped g journal last first Device = ⊥
IsStopped g journal last first Unclean = ⊥
