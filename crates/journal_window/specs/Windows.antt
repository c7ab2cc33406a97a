-- What reading a journal finds: a window, or why there is none. `journal` has its blocks in the order of their slots.
use Rattle.std.specs.Prelude.{ℕ, ◌≡◌, ◌+◌, ◌≤◌, ◌^◌, false}
use Rattle.blk_base.specs.declared.geometry.Super.{Super}
use Rattle.disk_model.specs.Log.{Blocks}
use Rattle.image_layout.specs.declared.fault.Field.TheVariants.{Start}
use Rattle.image_layout.specs.declared.fault.SuperFault.TheVariants.{BadField}
use Rattle.image_model.specs.Sound.{HasSequences}
use Rattle.image_model.specs.Windows.{IsLast, IsWindow, IsFaulty}
use Rattle.image_model.specs.declared.fault.ImageFault.{ImageFault}
use Rattle.image_model.specs.declared.fault.ImageFault.TheVariants.{Super as Superblock, Window, Page, Counter, SharedPage, Counts, Device, Unclean, Memory}
use Rattle.journal_window.specs.States.{WindowState}

-- the window of a journal: recovery has its sequences, and these are its last one and its entries
pub record IsWindowOf (head : Super) (journal : Blocks) (window : WindowState) : Type 0 where
  pub sequences : HasSequences head window.last
  pub is_window : IsWindow head.geometry head.start journal window.last window.entries

-- the session that was stopped has used up the journal's sequences: recovery would need one past the last one
pub record IsUsedUp (head : Super) (journal : Blocks) : Type 0 where
  pub unclean : head.clean ≡ false
  pub last : ℕ
  pub is_last : IsLast head.geometry head.start journal last
  pub past : 2 ^ 54 ≤ last + 2

-- why there is none: the sequences are used up, or else a block of the window can't be replayed, and the first one is
-- named; of want of memory nothing
abbrev pub IsRefused : Super → Blocks → ImageFault → Type 0
IsRefused head journal (Superblock fault) = (fault ≡ BadField Start) × IsUsedUp head journal
IsRefused head journal (Window sequence) = (IsUsedUp head journal → ⊥) × IsFaulty head.geometry head.start journal sequence
IsRefused head journal Memory = Unit {0}
IsRefused head journal (Page at fault) = ⊥
IsRefused head journal (Counter at point) = ⊥
IsRefused head journal (SharedPage at) = ⊥
IsRefused head journal (Counts at stored mapped) = ⊥
IsRefused head journal Device = ⊥
IsRefused head journal Unclean = ⊥
