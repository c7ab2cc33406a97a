-- What a logical zone keeps, as contracts see it.
use Rattle.std.specs.Prelude.{ℕ, Bool, List}
use Rattle.blk_base.specs.declared.place.Lba.{Lba}
use Rattle.blk_base.specs.declared.place.PageId.{PageId}
pub use Rattle.logical_locks.specs.declared.lock.Lock.{Lock}
use Rattle.block_map_tree.specs.Tree.{Tree}
use Rattle.vdo_model.specs.declared.report.Placed.{Placed}
use Rattle.data_vio.specs.declared.items.Vio.{Vio}
use Rattle.data_vio.specs.declared.logged.Remapping.{Remapping}

-- Its number among the logical zones, whether the stop notice has come, the place that is drawn next and those that were;
-- the locks that are held, one for each address at most, and who waits for one, in the order of their places; the addresses
-- of aborted writes whose entry was handed in: their locks are never released; the pages of its trees that are no leaves; the
-- pages that are being made, each by one request, and who waits for one of these; those that are never linked; who waits for the
-- report of its decrement, and the entries whose report came first; the slots that are set in the session.
pub record LogicalZone : Type 0 where
  pub zone : ℕ
  pub notified : Bool
  pub next : ℕ
  pub places : List Placed
  pub held : List Lock
  pub waiting : List Vio
  pub retired : List Lba
  pub tree : Tree
  pub making : List PageId
  pub lacking : List Vio
  pub unlinkable : List PageId
  pub settling : List Vio
  pub reported : List Remapping
  pub slots : List Remapping
