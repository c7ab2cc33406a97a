-- The sizes of a small image, some of its pages, places and entries: the rows of many crates speak of them.
use Rattle.std.proofs.Common.{ℕ, ◌≤◌, List, Option, None, Some, replicate, arith, refl}
use Rattle.blk_base.specs.Forms.{at_point, page, place_in, writer}
use Rattle.blk_base.specs.Limits.{IsGeometry}
use Rattle.blk_base.specs.declared.geometry.Geometry.{Geometry}
use Rattle.blk_base.specs.declared.journal_entry.CommittedEntry.{CommittedEntry}
use Rattle.blk_base.specs.declared.journal_entry.Entry.{Entry}
use Rattle.blk_base.specs.declared.journal_entry.Entry.TheVariants.{Remap}
use Rattle.blk_base.specs.declared.layout.DataPlace.{DataPlace}
use Rattle.blk_base.specs.declared.place.Mapping.{Mapping}
use Rattle.blk_base.specs.declared.place.Mapping.TheVariants.{At, Unmapped}
use Rattle.blk_base.specs.declared.place.PageId.{PageId}
use Rattle.blk_base.specs.declared.place.Pbn.{Pbn}
use Rattle.blk_base.specs.declared.point.Point.{Point}
use Rattle.blk_base.specs.declared.request.Writer.{Writer}

-- the default sizes: data blocks 85 to 148
abbrev pub small : Geometry
small = record { logical = 1000; slabs = 1; slab_blocks = 64; journal = 8; index = 16; slab_journal = 4; height = 2; nonce = 1 }

-- of slabs of other sizes
abbrev pub small_with : ℕ → ℕ → Geometry
small_with slab_blocks slab_journal = record small { slab_blocks = slab_blocks; slab_journal = slab_journal }

-- within their limits
pub small_with_is : (slab_blocks slab_journal : ℕ) → 16 ≤ slab_blocks → slab_blocks ≤ 32768 → 2 ≤ slab_journal → slab_journal ≤ 64 → IsGeometry (small_with slab_blocks slab_journal)
small_with_is slab_blocks slab_journal some few some_slots few_slots = record {
  height = (omega arith, omega arith);
  nonce = omega arith;
  logical = (omega arith, omega arith);
  slabs = (omega arith, omega arith);
  slab_blocks = (some, few);
  journal = (omega arith, omega arith);
  index = (omega arith, omega arith, refl);
  slab_journal = (some_slots, few_slots);
}

pub small_is : IsGeometry small
small_is = small_with_is 64 4 (omega arith) (omega arith) (omega arith) (omega arith)

-- the leaf of address 0, and the root above it
abbrev pub leaf : PageId
leaf = page 0 0 0

abbrev pub root : PageId
root = page 0 1 0

-- the mappings of a page that maps nothing
abbrev pub blank : List Mapping
blank = replicate 812 Unmapped

-- the slots of a page behind its first two: none is mapped
unfoldable pub others : List Mapping
others = replicate 810 Unmapped

-- the number of a block and that of a point, where there is one
abbrev pub number_of_block : Option Pbn → ℕ
number_of_block None = 0
number_of_block (Some block) = block.0

abbrev pub number_of_point : Option Point → ℕ
number_of_point None = 0
number_of_point (Some point) = point.0

-- a place in slab 0
abbrev pub place : ℕ → DataPlace
place offset = place_in 0 offset

-- address 5 is mapped to a block
abbrev pub maps : ℕ → Entry
maps block = Remap (record { 0 = 5 }) Unmapped (At (record { 0 = block }))

-- the entry of block 86, committed at a point
abbrev pub entry_at : ℕ → CommittedEntry
entry_at number = at_point (maps 86) number

-- a request
abbrev pub asker : Writer
asker = writer 1 7
