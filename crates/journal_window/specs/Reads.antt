-- What reading the journal of a device finds: by the blocks that the device gave.
use Rattle.std.specs.Prelude.{◌≡◌, length, reverse}
use Rattle.blk_base.specs.declared.geometry.Geometry.{Geometry}
use Rattle.blk_base.specs.declared.geometry.Super.{Super}
use Rattle.disk_model.specs.Log.{Blocks}
use Rattle.disk_model.specs.Seen.{Seen}
use Rattle.disk_model.specs.Trust.{Trust}
use Rattle.disk_model.specs.Since.{WereRead, StopsBefore}
use Rattle.image_model.specs.declared.fault.ImageFault.{ImageFault}
use Rattle.image_model.specs.declared.fault.ImageFault.TheVariants.{Super as Superblock, Window, Page, Counter, SharedPage, Counts, Device, Unclean, Memory}
use Rattle.journal_window.specs.States.{WindowState}
use Rattle.journal_window.specs.Windows.{IsWindowOf, IsRefused}

-- the blocks of the journal were read once, in the order of the slots, and nothing else was done
pub record IsJournalRead (trust : Trust) (before now : Seen) (g : Geometry) (journal : Blocks) : Type 0 where
  pub count : length journal ≡ g.journal
  pub read : WereRead trust 1 before now (reverse journal)

-- they were read, and this is their window
abbrev pub IsWindowRead : Trust → Seen → Seen → Super → WindowState → Type 0
IsWindowRead trust before now head window =
    (journal : Blocks) × IsJournalRead trust before now head.geometry journal × IsWindowOf head journal window

-- they were read, and this is why they have no window
abbrev pub IsRefusalRead : Trust → Seen → Seen → Super → ImageFault → Type 0
IsRefusalRead trust before now head why =
    (journal : Blocks) × IsJournalRead trust before now head.geometry journal × IsRefused head journal why

-- some of them were read, in the order of the slots, and the read of the next one failed
abbrev pub HasReadFailed : Trust → Seen → Seen → Geometry → Type 0
HasReadFailed trust before now g = StopsBefore trust 1 g.journal before now

-- why they aren't all read: that, or want of memory
abbrev pub JournalFails : Trust → Seen → Seen → Geometry → ImageFault → Type 0
JournalFails trust before now g Device = HasReadFailed trust before now g
JournalFails trust before now g Memory = Unit {0}
JournalFails trust before now g (Superblock fault) = ⊥
JournalFails trust before now g (Window sequence) = ⊥
JournalFails trust before now g (Page at fault) = ⊥
JournalFails trust before now g (Counter at point) = ⊥
JournalFails trust before now g (SharedPage at) = ⊥
JournalFails trust before now g (Counts at stored mapped) = ⊥
JournalFails trust before now g Unclean = ⊥

-- why a device gives no window; of want of memory nothing
abbrev pub Fails : Trust → Seen → Seen → Super → ImageFault → Type 0
Fails trust before now head (Superblock fault) = IsRefusalRead trust before now head (Superblock fault)
Fails trust before now head (Window sequence) = IsRefusalRead trust before now head (Window sequence)
Fails trust before now head Device = HasReadFailed trust before now head.geometry
Fails trust before now head Memory = Unit {0}
Fails trust before now head (Page at fault) = ⊥
Fails trust before now head (Counter at point) = ⊥
Fails trust before now head (SharedPage at) = ⊥
Fails trust before now head (Counts at stored mapped) = ⊥
Fails trust before now head Unclean = ⊥
