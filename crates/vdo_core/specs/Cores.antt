-- A core as a whole, and what it can begin with.
use Rattle.std.specs.Prelude.{ℕ, ◌≡◌, ◌*◌, ◌<◌, ◌≤◌, ◌^◌, List, [], length}
use Rattle.std.specs.List.{All, AllByRecursion}
use Rattle.blk_base.specs.Counters.{limit_of}
use Rattle.blk_base.specs.Limits.{IsGeometry}
use Rattle.blk_base.specs.declared.geometry.Super.{Super}
use Rattle.blk_base.specs.declared.opened.Opened.{Opened}
use Rattle.block_map_tree.specs.OpenedTree.{IsOpened, all_trees}
use Rattle.vdo_model.specs.Scripts.{Script, IsServed}
use Rattle.data_vio.specs.declared.sizes.Sizes.{Sizes}
use Rattle.core_model.specs.declared.zones.Zone.{Zone}
use Rattle.core_model.specs.SessionLimits.{IsLimited}
use Rattle.core_model.specs.Sessions.{Session, IsSession}
use Rattle.core_model.specs.Start.{IsFirst}
use Rattle.core_model.specs.Steps.{Leads}
use Rattle.core_model.specs.Trace.{Trace}
use Rattle.core_reports.specs.Rooms.{IsRoomFor}
use Rattle.vdo_core.specs.Plays.{core_with}
use Rattle.vdo_core.specs.declared.cores.Setup.{Setup}

-- what a contract sees of a core: what its zones know of the session, and the zones by their numbers
pub record CoreState : Type 0 where
  pub sizes : Sizes
  pub zones : List Zone

-- some events lead from the start of a session of these sizes to these zones
pub record IsReached (sizes : Sizes) (zones : List Zone) : Type 0 where
  pub session : Session
  pub first : List Zone
  pub trace : Trace
  pub sizes_are : session.sizes ≡ sizes
  pub is_session : IsSession session
  pub is_first : IsFirst session (core_with first [])
  pub leads : Leads session.sizes (core_with first []) (core_with zones trace)

-- and there is room for the report of its script
pub record IsWhole (sizes : Sizes) (zones : List Zone) (room : List ℕ) : Type 0 where
  pub reached : IsReached sizes zones
  pub has_room : IsRoomFor room reached.session.script

-- the sizes of a session over an image with this superblock
abbrev pub sizes_of : Setup → Super → Sizes
sizes_of setup head = record { geometry = head.geometry; start = head.start; zones = setup.logical_zones; physical = setup.physical_zones; depth = setup.depth }

-- A core can begin with these sizes and this script, over what was opened of an image: the session is no larger than it may be, its
-- requests are served, and the pages and the counters are those of an image of these sizes. Of what the device has nothing is asked.
pub record CanBegin (sizes : Sizes) (script : Script) (opened : Opened) : Type 0 where
  pub geometry : IsGeometry sizes.geometry
  pub same : sizes.geometry ≡ opened.head.geometry
  pub start : (1 ≤ sizes.start) × (sizes.start < 2 ^ 54)
  pub zones : 1 ≤ sizes.zones
  pub physical : 1 ≤ sizes.physical
  -- a request may be under way
  pub depth : 1 ≤ sizes.depth
  pub limits : IsLimited sizes script
  pub served : AllByRecursion (AllByRecursion IsServed) script
  pub pages : IsOpened (all_trees opened.head.geometry) opened.pages.items
  pub counters : length opened.counters.items ≡ opened.head.geometry.slabs * opened.head.geometry.slab_blocks
  pub limit : All (λ counter. counter ≤ limit_of opened.head.geometry) opened.counters.items
