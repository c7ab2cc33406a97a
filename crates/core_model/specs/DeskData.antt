-- What the desk keeps, as contracts see it.
use Rattle.std.specs.Prelude.{ℕ, List}
use Rattle.vdo_model.specs.Scripts.{Script}
use Rattle.vdo_model.specs.declared.report.DeskLine.{DeskLine}
use Rattle.vdo_model.specs.declared.report.FlushMark.{FlushMark}
use Rattle.vdo_model.specs.declared.report.NoSpaceReceipt.{NoSpaceReceipt}
use Rattle.data_vio.specs.declared.items.Vio.{Vio}

-- The requests, the desk log, the marks of its flushes and the receipts of those that found no block, how many zones have passed on
-- the stop notice, and the requests to be answered as stopped, which wait until every zone has.
pub record Desk : Type 0 where
  pub requests : Script
  pub log : List DeskLine
  pub marks : List FlushMark
  pub receipts : List NoSpaceReceipt
  pub notices : ℕ
  pub parked : List Vio
