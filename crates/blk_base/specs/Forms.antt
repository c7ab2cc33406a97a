-- Records by their parts alone: short names for what definitions and rows write often.
use Rattle.std.specs.Prelude.{ℕ}
use Rattle.blk_base.specs.declared.journal_entry.CommittedEntry.{CommittedEntry}
use Rattle.blk_base.specs.declared.journal_entry.Entry.{Entry}
use Rattle.blk_base.specs.declared.layout.DataPlace.{DataPlace}
use Rattle.blk_base.specs.declared.place.Lba.{Lba}
use Rattle.blk_base.specs.declared.place.PageId.{PageId}
use Rattle.blk_base.specs.declared.place.Pbn.{Pbn}
use Rattle.blk_base.specs.declared.point.Point.{Point}
use Rattle.blk_base.specs.declared.request.Writer.{Writer}

-- an address by its number
abbrev pub lba : ℕ → Lba
lba number = record { 0 = number }

-- a block by its number
abbrev pub pbn : ℕ → Pbn
pbn number = record { 0 = number }

-- a point by its number
abbrev pub point : ℕ → Point
point number = record { 0 = number }

-- a page by its tree, its level and its place among those of the level
abbrev pub page : ℕ → ℕ → ℕ → PageId
page tree level index = record { tree = tree; level = level; index = index }

-- a data block by its slab and its place there
abbrev pub place_in : ℕ → ℕ → DataPlace
place_in slab offset = record { slab = slab; offset = offset }

-- the name of a request
abbrev pub writer : ℕ → ℕ → Writer
writer stream number = record { stream = stream; number = number }

-- an entry that is committed at a point
abbrev pub at_point : Entry → ℕ → CommittedEntry
at_point entry number = record { entry = entry; point = record { 0 = number } }
