-- How large a session may be.
use Rattle.std.specs.Prelude.{ℕ, ◌+◌, ◌*◌, ◌≤◌, List, length, min}
use Rattle.blk_base.specs.declared.request.Request.{Request}
use Rattle.blk_base.specs.declared.request.Request.TheVariants.{Read}
use Rattle.vdo_model.specs.Scripts.{Script}
use Rattle.data_vio.specs.declared.sizes.Sizes.{Sizes}
use Rattle.plain_laws.specs.Sums.{total}

-- how many streams a script has at most, how many requests of each are under way, how many requests there are in all, how
-- many logical and physical zones
abbrev pub most_streams : ℕ
most_streams = 16

abbrev pub most_depth : ℕ
most_depth = 16

abbrev pub most_requests : ℕ
most_requests = 65536

abbrev pub most_zones : ℕ
most_zones = 4

abbrev pub most_physical : ℕ
most_physical = 4

-- how many entries of the journal there are in all: each request has one for its address, and one for each level of pages below
-- the roots
abbrev pub most_entries : ℕ
most_entries = 3 * most_requests

-- how many requests are under way at most, how many zones are notified of a stop, and how many items there are: requests, a
-- decrement or its report for each, stop notices, a block of the journal, and damage from each physical zone
abbrev pub most_under_way : ℕ
most_under_way = most_streams * most_depth

abbrev pub most_notices : ℕ
most_notices = 1 + most_physical + most_zones

abbrev pub most_items : ℕ
most_items = 2 * most_under_way + most_notices + 1 + most_physical

-- how many requests a script has
abbrev pub requests_in : Script → ℕ
requests_in script = total length script

-- how many of them may be under way: of each stream no more than it has
abbrev pub most_of_stream : List Request → ℕ
most_of_stream requests = min (length requests) most_depth

abbrev pub most_under_way_in : Script → ℕ
most_under_way_in script = total most_of_stream script

-- how many of them are reads
abbrev pub asks_read : Request → ℕ
asks_read (Read at) = 1
asks_read other = 0

abbrev pub reads_in : Script → ℕ
reads_in script = total (total asks_read) script

-- a session of these sizes, with these requests, is no larger than it may be
pub record IsLimited (sizes : Sizes) (script : Script) : Type 0 where
  pub streams : length script ≤ most_streams
  pub depth : sizes.depth ≤ most_depth
  pub requests : requests_in script ≤ most_requests
  pub zones : sizes.zones ≤ most_zones
  pub physical : sizes.physical ≤ most_physical

-- a list of items, or of requests, is no longer than as many as are under way
abbrev pub IsShort : {T : Type 0} → List T → Type 0
IsShort items = length items ≤ most_items
