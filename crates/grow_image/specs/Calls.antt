-- The calls that make an image grow, the newest first.
use Rattle.std.specs.Prelude.{ℕ, ◌+◌, ◌-◌, List, ◌++◌}
use Rattle.blk_base.specs.declared.geometry.Geometry.{Geometry}
use Rattle.blk_base.specs.declared.geometry.Super.{Super as Superhead}
use Rattle.disk_model.specs.declared.call.Call.{Call}
use Rattle.image_format.specs.Calls.{calls_below, closing_calls, slab_calls}
use Rattle.grow_image.specs.Sizes.{grown_sizes}

-- zeros as the counters and the journals of so many slabs of these sizes, behind the first ones
unfoldable pub new_slabs : Geometry → ℕ → ℕ → List Call
new_slabs g first n = calls_below (λ i. slab_calls g (first + i)) n

-- the slabs of these sizes behind the first ones, and then the superblock
abbrev pub growth_calls : Geometry → ℕ → ℕ → List Call
growth_calls g first start = closing_calls g start ++ new_slabs g first (g.slabs - first)

-- those of an image with this superblock, to so many addresses and slabs
abbrev pub grow_calls : Superhead → ℕ → ℕ → List Call
grow_calls head logical slabs = growth_calls (grown_sizes head.geometry logical slabs) head.geometry.slabs head.start

-- the slabs that are more
abbrev pub more_slabs : Superhead → ℕ → ℕ → List Call
more_slabs head logical slabs = new_slabs (grown_sizes head.geometry logical slabs) head.geometry.slabs (slabs - head.geometry.slabs)
