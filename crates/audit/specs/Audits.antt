-- What an audit of a device finds: by what the reads gave.
use Rattle.std.specs.Prelude.{◌⊎◌, List}
use Rattle.blk_base.specs.declared.geometry.Super.{Super as Superblock}
use Rattle.disk_model.specs.Log.{Blocks}
use Rattle.disk_model.specs.Seen.{Seen}
use Rattle.disk_model.specs.Trust.{Trust}
use Rattle.image_model.specs.Faults.{IsCountFault, IsPageFault, IsShareFault}
use Rattle.image_model.specs.Maps.{Image, ArePagesGood}
use Rattle.image_model.specs.Sound.{AreStored, image_of}
use Rattle.image_model.specs.declared.fault.ImageFault.{ImageFault}
use Rattle.image_model.specs.declared.fault.ImageFault.TheVariants.{Super, Window, Page, Counter, SharedPage, Counts, Device, Unclean, Memory}
use Rattle.image_opening.specs.Heads.{HeadFails, IsHeadRead}
use Rattle.journal_window.specs.Reads.{IsWindowRead, Fails}
use Rattle.journal_window.specs.States.{WindowState}
use Rattle.replay_counts.specs.Recovered.{AreSlabsRead, Holds}
use Rattle.replay_map.specs.Reads.{Reading, BlocksRead, ReadFails, Shows}
use Rattle.replay_map.specs.Replayed.{MapFails}
use Rattle.slab_reading.specs.Reads.{ReadFailed}
use Rattle.audit.specs.declared.forms.Report.{Report}
use Rattle.audit.specs.Reports.{IsReport}

-- From the superblock and the window on.

-- pages were read, and then the slabs, and nothing else was done
pub record AreBothRead (trust : Trust) (head : Superblock) (before now : Seen) (pages : List Reading) (slabs : List Blocks) : Type 0 where
  pub middle : Seen
  pub pages_read : BlocksRead trust head.geometry before middle pages
  pub slabs_read : AreSlabsRead trust head.geometry middle now slabs

-- they were, and this holds of each image with this window that has what was read
abbrev pub BothShow : Trust → Superblock → WindowState → Seen → Seen → (Image → Type 0) → Type 0
BothShow trust head window before now Says =
    (pages : List Reading) × (slabs : List Blocks) × AreBothRead trust head before now pages slabs
    × ((blocks : Blocks) → Shows blocks pages → Holds head.geometry blocks slabs → Says (image_of head blocks window.entries))

-- pages were read, and this holds of each image with this window that has what was read
abbrev pub PagesShow : Trust → Superblock → WindowState → Seen → Seen → (Image → Type 0) → Type 0
PagesShow trust head window before now Says =
    (pages : List Reading) × BlocksRead trust head.geometry before now pages × ((blocks : Blocks) → Shows blocks pages → Says (image_of head blocks window.entries))

-- each such image has this report
abbrev pub IsAuditedWith : Trust → Superblock → WindowState → Seen → Seen → Report → Type 0
IsAuditedWith trust head window before now report = BothShow trust head window before now (λ image. IsReport image report)

-- pages were read, and then a read of a slab's block failed
abbrev pub SlabsFailed : Trust → Superblock → Seen → Seen → Type 0
SlabsFailed trust head before now =
    (pages : List Reading) × (middle : Seen) × BlocksRead trust head.geometry before middle pages × ReadFailed trust head.geometry middle now

-- Why there is none: the first page of each such image that can't be read; or else the least block whose count leaves its
-- range; or else the least block that has both a page and the data of an address; a read that failed, or want of memory.
abbrev pub AuditWithFails : Trust → Superblock → WindowState → Seen → Seen → ImageFault → Type 0
AuditWithFails trust head window before now (Page at fault) = PagesShow trust head window before now (λ image. IsPageFault image at fault)
AuditWithFails trust head window before now (Counter at point) =
    BothShow trust head window before now (λ image. ArePagesGood image × IsCountFault image at point.0)
AuditWithFails trust head window before now (SharedPage at) =
    BothShow trust head window before now (λ image. ArePagesGood image × AreStored image × IsShareFault image at)
AuditWithFails trust head window before now Device = ReadFails trust head.geometry before now ⊎ SlabsFailed trust head before now
AuditWithFails trust head window before now Memory = Unit {0}
AuditWithFails trust head window before now (Super fault) = ⊥
AuditWithFails trust head window before now (Window sequence) = ⊥
AuditWithFails trust head window before now (Counts at stored mapped) = ⊥
AuditWithFails trust head window before now Unclean = ⊥

-- what is answered after this fault of the map: that one, or one of the counts that stands before it
abbrev pub LaterFails : Trust → Superblock → WindowState → ImageFault → Seen → Seen → ImageFault → Type 0
LaterFails trust head window fault before now why = (first : Seen) → MapFails trust head.geometry window.entries first before fault
    → AuditWithFails trust head window first now why

-- The whole.

-- block 0 was read, and then the journal, and they have this superblock and this window
pub record IsOpenedTo (trust : Trust) (before now : Seen) (head : Superblock) (window : WindowState) : Type 0 where
  pub middle : Seen
  pub head_read : IsHeadRead trust before middle head
  pub window_read : IsWindowRead trust middle now head window

-- they were read, and then each image that has what was read has this report
abbrev pub IsAudited : Trust → Seen → Seen → Report → Type 0
IsAudited trust before now report =
    (head : Superblock) × (window : WindowState) × (middle : Seen) × IsOpenedTo trust before middle head window
    × IsAuditedWith trust head window middle now report

-- why there is none: block 0 is no superblock; or it was read, and there is no window; or both were read, and then as above
abbrev pub AuditFails : Trust → Seen → Seen → ImageFault → Type 0
AuditFails trust before now why =
    HeadFails trust before now why
    ⊎ ((head : Superblock) × (middle : Seen) × IsHeadRead trust before middle head × Fails trust middle now head why)
    ⊎ ((head : Superblock) × (window : WindowState) × (middle : Seen) × IsOpenedTo trust before middle head window
    × AuditWithFails trust head window middle now why)
