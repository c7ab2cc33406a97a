-- The records of a chapter, and what adding one does to them.
use Rattle.std.specs.Prelude.{ℕ, ◌≡◌, ◌<◌, ◌*◌, List, [], ◌∷◌, length, take, drop, Option, Some, None, IsSome, if◌then◌else◌}
use Rattle.std.specs.Ordering.{match_ordering}
use Rattle.std.specs.Str.{bytes_eq}
use Rattle.blk_base.specs.declared.place.Pbn.{Pbn}
use Rattle.uds_chapters.specs.declared.entry.Record.{Record}
use Rattle.uds_chapters.specs.declared.added.Added.{Added}
use Rattle.uds_chapters.specs.declared.added.Added.TheVariants.{New, Replaced, Full}
use Rattle.uds_chapters.specs.Names.{name_cmp}

-- a closed chapter: its number, and its records
pub record Numbered : Type 0 where
  pub number : ℕ
  pub records : List Record

-- the location that the records have for a name, if they have one
abbrev pub location_of : List ℕ → List Record → Option Pbn
location_of name [] = None
location_of name (one ∷ records) = if bytes_eq one.name name then Some one.at else location_of name records

-- the records with this one behind all those below it, in place of an older one of its name
abbrev pub with_record : Record → List Record → List Record
with_record new [] = new ∷ []
with_record new (one ∷ records) = match_ordering (name_cmp one.name new.name) (one ∷ with_record new records) (new ∷ records) (new ∷ one ∷ records)

-- What adding a record did: its name is new, or had a record, which is replaced, or 680 other names are there, and
-- nothing changed.
abbrev pub Adds : List Record → List Record → Record → Added → Type 0
Adds old new one New = (location_of one.name old ≡ None) × (length old < 680) × (new ≡ with_record one old)
Adds old new one Replaced = IsSome (location_of one.name old) × (new ≡ with_record one old)
Adds old new one Full = (location_of one.name old ≡ None) × (length old ≡ 680) × (new ≡ old)

-- the records of one page: the pages of a chapter are filled in order, with 170 each
abbrev pub records_in : ℕ → List Record → List Record
records_in page records = take 170 (drop (170 * page) records)
