-- The counter of a block in an image that is opened.
use Rattle.std.specs.Prelude.{ℕ, ◌+◌, ◌-◌, ◌*◌, Bool, not, ◌&&◌, if◌then◌else◌, nat_lt, List, slice_index}
use Rattle.blk_base.specs.Regions.{slab_start_of}
use Rattle.blk_base.specs.declared.geometry.Geometry.{Geometry}
use Rattle.blk_base.specs.declared.place.Pbn.{Pbn}
use Rattle.zone_counts.specs.Zone.{slab_number}

-- where a data block stands among those of its slab, and whether a number is that of a data block
abbrev pub offset_in : Geometry → Pbn → ℕ
offset_in g at = at.0 - slab_start_of g (slab_number g at)

abbrev pub is_data_block : Geometry → Pbn → Bool
is_data_block g at =
    nat_lt (slab_number g at) g.slabs && (not (nat_lt at.0 (slab_start_of g (slab_number g at))) && nat_lt (offset_in g at) g.slab_blocks)

-- its counter among these, one for each data block; what is no data block has none
abbrev pub opened_count : Geometry → List ℕ → Pbn → ℕ
opened_count g counters at = if is_data_block g at then slice_index counters (slab_number g at * g.slab_blocks + offset_in g at) else 0
