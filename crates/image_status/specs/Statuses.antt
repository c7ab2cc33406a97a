-- What an image says of itself: by what the reads gave.
use Rattle.std.specs.Prelude.{ℕ, ◌≡◌, List, length, Option}
use Rattle.audit.specs.Audits.{BothShow, IsOpenedTo}
use Rattle.audit.specs.Reports.{AreUsed, HasNoFault}
use Rattle.blk_base.specs.Regions.{first_index_of, data_blocks as all_blocks}
use Rattle.blk_base.specs.declared.geometry.Geometry.{Geometry}
use Rattle.blk_base.specs.declared.geometry.Super.{Super}
use Rattle.disk_model.specs.Seen.{Seen}
use Rattle.disk_model.specs.Trust.{Trust}
use Rattle.index_advice.specs.Books.{Book}
use Rattle.journal_window.specs.States.{WindowState}
use Rattle.uds_index.specs.Loads.{IsLoadedBook, ReadEach}
use Rattle.image_status.specs.declared.forms.ImageStatus.{ImageStatus}

-- the index blocks were read, each once and in rising order, whether a read failed or not; so many chapters have a page
-- among those that were read and hold one
pub record HasChapters (trust : Trust) (g : Geometry) (before now : Seen) (chapters : ℕ) : Type 0 where
  pub reads : List (Option (List ℕ))
  pub count : length reads ≡ g.index
  pub each : ReadEach trust (first_index_of g) before now reads
  pub book : Book
  pub loaded : IsLoadedBook g reads book
  pub chapters_are : chapters ≡ length book.kept

-- Pages and slabs were read. Each image with this window that has what was read has no fault, so many used data blocks, and so
-- many in all.
abbrev pub HasSpace : Trust → Super → WindowState → Seen → Seen → ℕ → ℕ → Type 0
HasSpace trust head window before now used all =
    BothShow trust head window before now (λ image. HasNoFault image × AreUsed image used × (all ≡ all_blocks image.geometry))

-- From the superblock and the window on: how much space there is, and then the index.
pub record IsStatusWith (trust : Trust) (head : Super) (window : WindowState) (before now : Seen) (status : ImageStatus) : Type 0 where
  pub middle : Seen
  pub space : HasSpace trust head window before middle status.used status.total
  pub chapters : HasChapters trust head.geometry middle now status.chapters
  pub clean : status.clean ≡ head.clean
  pub entries : status.entries ≡ length window.entries
  pub logical : status.logical ≡ head.geometry.logical

-- The whole.
pub record IsStatusRead (trust : Trust) (before now : Seen) (status : ImageStatus) : Type 0 where
  pub head : Super
  pub window : WindowState
  pub middle : Seen
  pub opened : IsOpenedTo trust before middle head window
  pub status_is : IsStatusWith trust head window middle now status
