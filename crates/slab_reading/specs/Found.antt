-- What the slabs that were read say, in three lists: counters, commit points, updates.
use Rattle.std.specs.Prelude.{ℕ, ◌≡◌, ◌⊎◌, ◌+◌, ◌*◌, ◌<◌, ◌↔◌, List, ◌++◌, length, slice_index}
use Rattle.blk_base.specs.Counters.{sectors_per_slab}
use Rattle.blk_base.specs.declared.geometry.Geometry.{Geometry}
use Rattle.blk_base.specs.declared.journal_entry.Update.{Update}
use Rattle.blk_base.specs.declared.layout.DataPlace.{DataPlace}
use Rattle.blk_base.specs.declared.point.Point.{Point}
use Rattle.count_updates.specs.Counted.{commit_in}
use Rattle.count_updates.specs.FoundLists.{FoundLists}
use Rattle.count_updates.specs.Listed.{Lists}
use Rattle.count_updates.specs.Numbers.{block_number}
use Rattle.disk_model.specs.Log.{Blocks}
use Rattle.slab_codec.specs.declared.forms.SlabEntry.{SlabEntry}
use Rattle.slab_reading.specs.Reads.{read_of}
use Rattle.slab_reading.specs.Slabs.{point_in, counter_in, SlabKeeps, IsOf, Grew}

-- behind others these are the first so many counters of a slab
pub record AddsCounters (g : Geometry) (read : Blocks) (count : ℕ) (old new : List ℕ) : Type 0 where
  pub more : List ℕ
  pub is : new ≡ old ++ more
  pub size : length more ≡ count
  pub each : (offset : ℕ) → offset < count → slice_index more offset ≡ counter_in g read offset

-- behind others these are the commit points of the first so many sectors
pub record AddsPoints (read : Blocks) (count : ℕ) (old new : List Point) : Type 0 where
  pub more : List Point
  pub is : new ≡ old ++ more
  pub size : length more ≡ count
  pub each : (n : ℕ) → n < count → commit_in more n ≡ point_in read n

-- all lists got what a slab says
pub record Took (g : Geometry) (slab : ℕ) (read : Blocks) (old new : FoundLists) : Type 0 where
  pub of_counters : AddsCounters g read g.slab_blocks old.counters new.counters
  pub of_commits : AddsPoints read (sectors_per_slab g) old.commits new.commits
  pub of_updates : Grew g slab (SlabKeeps g slab read g.slab_journal) old.updates new.updates

-- the lists have what all these slabs say, besides some updates from elsewhere
pub record IsFound (g : Geometry) (reads : List Blocks) (first : List Update) (found : FoundLists) : Type 0 where
  pub counters_size : length found.counters ≡ length reads * g.slab_blocks
  pub counters_are : (place : DataPlace) → place.slab < length reads → place.offset < g.slab_blocks
      → slice_index found.counters (block_number g place) ≡ counter_in g (read_of reads place.slab) place.offset
  pub commits_size : length found.commits ≡ length reads * sectors_per_slab g
  pub commits_are : (slab n : ℕ) → slab < length reads → n < sectors_per_slab g
      → commit_in found.commits (slab * sectors_per_slab g + n) ≡ point_in (read_of reads slab) n
  pub updates_are : (at point : ℕ) → Lists found.updates at point
      ↔ (Lists first at point ⊎ ((slab : ℕ) × (slab < length reads) × (entry : SlabEntry) × IsOf g slab entry at point × SlabKeeps g slab (read_of reads slab) g.slab_journal entry))
