-- The calls that make an empty image, the newest first.
use Rattle.std.specs.Prelude.{ℕ, zero, suc, ◌+◌, true, List, [], ◌∷◌, ◌++◌}
use Rattle.blk_base.specs.Regions.{Root, IndexBlock, JournalSlot, ReferenceBlock, block_of, references_of}
use Rattle.blk_base.specs.Sectors.{zero_block}
use Rattle.blk_base.specs.declared.geometry.Geometry.{Geometry}
use Rattle.blk_base.specs.declared.sizes.TheConstants.{TREES}
use Rattle.disk_model.specs.declared.call.Call.{Call}
use Rattle.disk_model.specs.declared.call.Call.TheVariants.{Write, Flush}
use Rattle.image_layout.specs.Superblock.{super_block}
use Rattle.image_model.specs.Empty.{empty_root}

-- a write of a block that succeeds
abbrev pub put : ℕ → List ℕ → Call
put at bytes = Write (record { 0 = at }) bytes true

-- the calls for each number below n
abbrev pub calls_below : (ℕ → List Call) → ℕ → List Call
calls_below calls zero = []
calls_below calls (suc n) = calls n ++ calls_below calls n

-- zeros in so many blocks from this one on
abbrev pub zeros_from : ℕ → ℕ → List Call
zeros_from first n = calls_below (λ i. put (first + i) zero_block ∷ []) n

-- the first roots
abbrev pub roots_below : Geometry → ℕ → List Call
roots_below g n = calls_below (λ tree. put (block_of g (Root tree)) (empty_root g tree) ∷ []) n

-- the counters and the journal of a slab, and those of the first slabs
abbrev pub slab_calls : Geometry → ℕ → List Call
slab_calls g slab = zeros_from (block_of g (ReferenceBlock slab 0)) (references_of g + g.slab_journal)

abbrev pub slabs_below : Geometry → ℕ → List Call
slabs_below g n = calls_below (slab_calls g) n

-- all blocks but the superblock and those of data
unfoldable pub region_calls : Geometry → List Call
region_calls g = slabs_below g g.slabs ++ (zeros_from (block_of g (IndexBlock 0)) g.index ++ (roots_below g TREES ++ zeros_from (block_of g (JournalSlot 0)) g.journal))

-- block 0 is cleared, before another block is written
abbrev pub clear_calls : List Call
clear_calls = Flush true ∷ put 0 zero_block ∷ []

-- the superblock of a closed image with these sizes, on which a session begins there
abbrev pub super_calls : Geometry → ℕ → List Call
super_calls g start = Flush true ∷ put 0 (super_block (record { geometry = g; clean = true; start = start })) ∷ []

-- it is written once all others are on the device
abbrev pub closing_calls : Geometry → ℕ → List Call
closing_calls g start = super_calls g start ++ (Flush true ∷ [])

abbrev pub format_calls : Geometry → List Call
format_calls g = closing_calls g 1 ++ (region_calls g ++ clear_calls)
