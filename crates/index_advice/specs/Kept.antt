-- What the advisors without a device keep, and answer.
use Rattle.std.specs.Prelude.{ℕ, ◌||◌, List, [], ◌∷◌, length, Option, None, Some, is_some, nat_lt, if◌then◌else◌}
use Rattle.blk_base.specs.declared.place.Pbn.{Pbn}
use Rattle.uds_chapters.specs.declared.entry.Record.{Record}
use Rattle.uds_chapters.specs.Chapters.{location_of, with_record}
use Rattle.index_advice.specs.declared.look.Look.{Look}
use Rattle.index_advice.specs.declared.look.Look.TheVariants.{Known, Nothing}

-- the next of some answers, and behind the last one nothing
abbrev pub next_of : List Look → Look
next_of [] = Nothing
next_of (answer ∷ answers) = answer

abbrev pub rest_of : List Look → List Look
rest_of [] = []
rest_of (answer ∷ answers) = answers

-- records for at most so many names
pub record Tabled : Type 0 where
  pub room : ℕ
  pub records : List Record

-- what is known is answered
abbrev pub known : Option Pbn → Look
known None = Nothing
known (Some at) = Known at

-- a record is kept, in place of an older one of its name, and forgotten where there is no room for another name
abbrev pub kept_with : Record → Tabled → Tabled
kept_with one table =
    if is_some (location_of one.name table.records) || nat_lt (length table.records) table.room then record table { records = with_record one table.records }
    else table
