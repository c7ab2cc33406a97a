-- A text that is collected before it is put.
use Rattle.std.specs.Prelude.{ℕ, ◌≡◌, ◌++◌, Bool, List, Result, OnOk}
use Rattle.disk_model.specs.Streams.{Puts, SinkSeen}

-- the front of a collected text was put, and the rest stays collected; or the sink failed
pub record PutsFront {T E : Type 0} (tells : Bool) (old new : List ℕ) (before after : SinkSeen) (result : Result T E) : Type 0 where
  pub front : List ℕ
  pub rest : List ℕ
  pub same : old ≡ front ++ rest
  pub kept : OnOk result (new ≡ rest)
  pub puts : Puts tells front before after result
