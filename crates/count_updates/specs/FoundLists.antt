-- What is counted from, as lists.
use Rattle.std.specs.Prelude.{ℕ, List}
use Rattle.blk_base.specs.declared.journal_entry.Update.{Update}
use Rattle.blk_base.specs.declared.point.Point.{Point}
use Rattle.count_updates.specs.declared.forms.Found.{Found}

pub record FoundLists : Type 0 where
  pub counters : List ℕ
  pub commits : List Point
  pub updates : List Update

abbrev pub found_lists : List ℕ → List Point → List Update → FoundLists
found_lists counters commits updates = record { counters = counters; commits = commits; updates = updates }

abbrev pub lists_of : Found → FoundLists
lists_of found = found_lists found.counters.items found.commits.items found.updates.items
